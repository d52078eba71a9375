-- The clauses of a text: terms that each have an end, and the operators that they declare.
use Rattle.std.specs.Prelude.{◌≡◌, ℕ, ℤ, List, [], ◌∷◌, Ok, Err, Result, Option, Some, None, if◌then◌else◌, codes}
use Rattle.std.specs.Str.{bytes_eq}
use Rattle.term_core.specs.Tokens.{Token}
use Rattle.term_core.specs.Tree.{Tree, integer, atom, compound, Trees, no_trees, tree}
use Rattle.op_table.specs.declared.op.Op.{Op}
use Rattle.op_table.specs.declared.op.OpFault.{OpFault}
use Rattle.op_table.specs.Table.{Table, iso_prefix, iso_infix, asked, with_op}
use Rattle.prolog_lex.specs.Lexed.{tokens_of}
use Rattle.prolog_grammar.specs.Readings.{Bytes}
use Rattle.prolog_read.specs.Variables.{Names}
use Rattle.prolog_read.specs.Reads.{is_end, IsTermOf}

-- the operators that a text begins with
abbrev pub iso : Table
iso = record { before = iso_prefix; between = iso_infix }

-- ---- tokens split at their ends

-- the tokens of a term, and the place of its end
abbrev pub Sentence : Type 0
Sentence = List Token × ℕ

-- sentences, and the tokens behind the last end
abbrev pub Sentences : Type 0
Sentences = List Sentence × List Token

abbrev pub with_token : Token → Sentences → Sentences
with_token t ([], rest) = ([], t ∷ rest)
with_token t (s ∷ ss, rest) = ((t ∷ s.0, s.1) ∷ ss, rest)

abbrev pub sentences : List Token → Sentences
sentences [] = ([], [])
sentences (t ∷ ts) = if is_end t.kind then (([], t.from) ∷ (sentences ts).0, (sentences ts).1) else with_token t (sentences ts)

-- ---- `:- op(P, K, F)` (ISO 13211-1, 7.4.2.4 and 8.14.3)

-- a priority, a kind and a name
abbrev pub Declaration : Type 0
Declaration = ℤ × Bytes × Bytes

abbrev by_arguments : Trees → Option Declaration
by_arguments (tree (integer p) (tree (atom k) (tree (atom f) no_trees))) = Some (p, k, f)
by_arguments _ = None

abbrev by_goal : Tree → Option Declaration
by_goal (compound f ts) = if bytes_eq f (codes "op") then by_arguments ts else None
by_goal _ = None

abbrev by_directive : Bytes → Trees → Option Declaration
by_directive f (tree t no_trees) = if bytes_eq f (codes ":-") then by_goal t else None
by_directive f _ = None

-- the operator that a clause declares: that of a directive of an integer, an atom and an atom
abbrev pub declared : Tree → Option Declaration
declared (compound f ts) = by_directive f ts
declared _ = None

-- the table with the operator that is asked for, or as it is where it is refused
abbrev added : Result Op OpFault → Bytes → Table → Table
added (Ok o) f ops = with_op f o ops
added (Err e) f ops = ops

abbrev pub with_declared : Option Declaration → Table → Table
with_declared None ops = ops
with_declared (Some d) ops = added (asked d.0 d.1 d.2) d.2 ops

-- the operators behind a clause
abbrev pub obeyed : Tree → Table → Table
obeyed t ops = with_declared (declared t) ops

-- ---- clauses

-- these sentences are these terms, each read with the operators that those before it left
abbrev pub AreClauses : Table → Bytes → List Sentence → List (Tree × Names) → Type 0
AreClauses ops text [] [] = Unit {0}
AreClauses ops text (s ∷ ss) (x ∷ xs) = IsTermOf ops text s.0 x.0 x.1 × AreClauses (obeyed x.0 ops) text ss xs
AreClauses ops text _ _ = ⊥

-- The text is these clauses, each with an end. It begins with the operators of this table.
pub record ReadsClauses (ops : Table) (text : Bytes) (xs : List (Tree × Names)) : Type 0 where
  pub all : List Token
  pub tokens : tokens_of text ≡ Ok all
  pub no_more : (sentences all).1 ≡ []
  pub clauses : AreClauses ops text (sentences all).0 xs
