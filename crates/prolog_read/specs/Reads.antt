-- What a text reads as (ISO 13211-1, 6.2 and 6.3).
use Rattle.std.specs.Prelude.{◌≡◌, ◌≤◌, Bool, true, false, ℤ, pos, negsuc, nat_lt, ◌^◌, List, [], ◌∷◌, length, All, Ok, if◌then◌else◌, Option}
use Rattle.std.specs.List.{list_all}
use Rattle.term_core.specs.Tokens.{Kind, end_token, Token}
use Rattle.term_core.specs.Tree.{Tree}
use Rattle.term_core.specs.Flat.{flatten}
use Rattle.term_core.specs.declared.node.Node.{Node}
use Rattle.term_core.specs.declared.node.Node.TheVariants.{Int}
use Rattle.op_table.specs.Table.{Table, row}
use Rattle.op_table.specs.declared.op.Op.{Op}
use Rattle.prolog_lex.specs.Lexed.{tokens_of}
use Rattle.prolog_grammar.specs.declared.grammar.lexeme.Placed.{Placed}
use Rattle.prolog_grammar.specs.Readings.{Bytes, Reading, IsReading, meaning}
use Rattle.prolog_grammar.specs.Read.{is_within}
use Rattle.prolog_read.specs.Variables.{Names}
use Rattle.prolog_read.specs.Lexemes.{nothing_before, placed, behind_all, lexemes}

-- the operators of a table
abbrev pub prefix_of : Table → Bytes → Option Op
prefix_of ops f = row f ops.before

abbrev pub infix_of : Table → Bytes → Option Op
infix_of ops f = row f ops.between

-- ---- the tokens of a term

abbrev pub is_end : Kind → Bool
is_end end_token = true
is_end _ = false

-- the tokens before the first end
abbrev pub before_end : List Token → List Token
before_end [] = []
before_end (t ∷ ts) = if is_end t.kind then [] else t ∷ before_end ts

-- the first end and the tokens behind it
abbrev pub from_end : List Token → List Token
from_end [] = []
from_end (t ∷ ts) = if is_end t.kind then t ∷ ts else from_end ts

-- ---- a term

-- an integer is -2^127 to 2^127 - 1; that of negsuc n is -(n + 1)
abbrev pub in_range : ℤ → Bool
in_range (pos n) = nat_lt n (2 ^ 127)
in_range (negsuc n) = nat_lt n (2 ^ 127)

abbrev pub has_range : Node → Bool
has_range (Int z) = in_range z
has_range _ = true

-- at most 4,000 brackets are open
abbrev pub IsShallow : List Placed → Type 0
IsShallow ps = All (λ p. p.open ≤ 4000) ps

-- the names of the variables of these tokens, but `_`
abbrev pub names_of : Bytes → List Token → Names
names_of text ts = (behind_all text nothing_before ts).variables.names

-- These tokens of the text are a term: the grammar allows a reading of them that means it, and it is within the limits.
pub record IsTermOf (ops : Table) (text : Bytes) (ts : List Token) (t : Tree) (names : Names) : Type 0 where
  pub reading : Reading
  pub is_reading : IsReading (prefix_of ops) (infix_of ops) (lexemes text ts) reading
  pub means : t ≡ meaning reading
  pub named : names ≡ names_of text ts
  pub brackets : IsShallow (placed text nothing_before ts)
  pub integers : list_all has_range (flatten t) ≡ true
  pub within : is_within t ≡ true

-- The text is one term, with an end behind it or none.
pub record Reads (ops : Table) (text : Bytes) (t : Tree) (names : Names) : Type 0 where
  pub all : List Token
  pub tokens : tokens_of text ≡ Ok all
  pub one_end : length (from_end all) ≤ 1
  pub term : IsTermOf ops text (before_end all) t names
