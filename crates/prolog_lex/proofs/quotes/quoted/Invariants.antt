use Rattle.std.proofs.Common.{◌≡◌, ◌≤◌, ◌-◌, drop, length, IfSome}
use Rattle.term_core.specs.Tokens.{quoted, parts}
use Rattle.prolog_lex.specs.Lexed.{kind_of}
use Rattle.prolog_lex.proofs.Quoting.{resumed}
use Rattle.prolog_lex.proofs.quotes.quoted.Given as goal

abbrev pub invariant-loop-at : goal.invariant-loop-at
invariant-loop-at l =
    (quoted l.quote (kind_of l.kind) l.cs ≡ resumed (kind_of l.kind) l.at l.refused (parts l.quote 0 (drop l.at l.cs)))
    × (l.at ≤ length l.cs) × IfSome l.refused (λ m. m ≤ length l.cs)

abbrev pub decreases-loop-at : goal.decreases-loop-at
decreases-loop-at l = length l.cs - l.at
