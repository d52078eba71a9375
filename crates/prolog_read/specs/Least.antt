-- Where a fault of syntax stands: at the first token that no continuation allows, or at the end where more must come.
use Rattle.std.specs.Prelude.{◌≡◌, ℕ, ◌⊎◌, List, [], ◌∷◌, ◌++◌, length, Ok, ⊤}
use Rattle.term_core.specs.Tokens.{Token}
use Rattle.term_core.specs.Tree.{Tree}
use Rattle.op_table.specs.Table.{Table}
use Rattle.prolog_lex.specs.Lexed.{tokens_of}
use Rattle.prolog_grammar.specs.declared.grammar.lexeme.Placed.{Placed}
use Rattle.prolog_grammar.specs.Readings.{Bytes, Reading, IsReading}
use Rattle.prolog_grammar.specs.Laws.{HasContinuation}
use Rattle.prolog_read.specs.declared.fault.ReadFault.{ReadFault}
use Rattle.prolog_read.specs.declared.fault.ReadFault.TheVariants.{Syntax}
use Rattle.prolog_read.specs.Variables.{Names}
use Rattle.prolog_read.specs.Lexemes.{nothing_before, placed, lexemes_of}
use Rattle.prolog_read.specs.Reads.{prefix_of, infix_of, before_end, from_end, IsTermOf}
use Rattle.prolog_read.specs.Clauses.{Sentence, sentences, obeyed}
use Rattle.prolog_read.specs.Outcome.{place_of}

-- some continuation of these tokens is a term
abbrev pub MayGoOn : Table → List Placed → Type 0
MayGoOn ops ps = HasContinuation (prefix_of ops) (infix_of ops) (lexemes_of ps)

-- these tokens are a term, whatever its depth
abbrev pub AreTerm : Table → List Placed → Type 0
AreTerm ops ps = (r : Reading) × IsReading (prefix_of ops) (infix_of ops) (lexemes_of ps) r

-- the token at this place is the first that no continuation of those before it allows
pub record RefusesToken (ops : Table) (ps : List Placed) (at : ℕ) : Type 0 where
  pub front : List Placed
  pub token : Placed
  pub rest : List Placed
  pub split : ps ≡ front ++ token ∷ rest
  pub place : token.from ≡ at
  pub allowed : MayGoOn ops front
  pub refused : MayGoOn ops (front ++ token ∷ []) → ⊥

-- these tokens may go on, but are no term by themselves
pub record WantsMore (ops : Table) (ps : List Placed) : Type 0 where
  pub allowed : MayGoOn ops ps
  pub refused : AreTerm ops ps → ⊥

-- a fault at this place of a term whose tokens end at the place `end`
abbrev pub SyntaxIn : Table → Bytes → List Token → ℕ → ℕ → Type 0
SyntaxIn ops text ts end at = RefusesToken ops (placed text nothing_before ts) at ⊎ (WantsMore ops (placed text nothing_before ts) × (at ≡ end))

-- a fault behind a term that is one
abbrev pub SyntaxBehind : Table → Bytes → List Token → ℕ → ℕ → Type 0
SyntaxBehind ops text ts next at = AreTerm ops (placed text nothing_before ts) × (at ≡ next)

-- the text isn't one term, for what stands at this place
pub record SyntaxAt (ops : Table) (text : Bytes) (at : ℕ) : Type 0 where
  pub all : List Token
  pub tokens : tokens_of text ≡ Ok all
  pub fault : SyntaxIn ops text (before_end all) (place_of text (from_end all)) at ⊎ ((e u : Token) × (us : List Token) × (from_end all ≡ e ∷ u ∷ us) × SyntaxBehind ops text (before_end all) u.from at)

-- the sentences aren't clauses, and nothing behind them, for what stands at this place
abbrev pub ClausesSyntaxAt : Table → Bytes → List Sentence → List Token → ℕ → Type 0
ClausesSyntaxAt ops text [] [] at = ⊥
ClausesSyntaxAt ops text [] (t ∷ ts) at = SyntaxIn ops text (t ∷ ts) (length text) at ⊎ SyntaxBehind ops text (t ∷ ts) (length text) at
ClausesSyntaxAt ops text (s ∷ ss) rest at =
    SyntaxIn ops text s.0 s.1 at ⊎ ((t : Tree) × (names : Names) × IsTermOf ops text s.0 t names × ClausesSyntaxAt (obeyed t ops) text ss rest at)

pub record SourceSyntaxAt (ops : Table) (text : Bytes) (at : ℕ) : Type 0 where
  pub all : List Token
  pub tokens : tokens_of text ≡ Ok all
  pub fault : ClausesSyntaxAt ops text (sentences all).0 (sentences all).1 at

-- of a fault of syntax
abbrev pub IfSyntax : ReadFault → (ℕ → Type 0) → Type 0
IfSyntax (Syntax at) P = P at
IfSyntax _ P = ⊤
