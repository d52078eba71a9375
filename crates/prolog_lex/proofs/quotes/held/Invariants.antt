use Rattle.std.proofs.Common.{◌≡◌, ◌-◌, ◌++◌, drop, length}
use Rattle.term_core.specs.Tokens.{held, parts, characters_of}
use Rattle.prolog_lex.proofs.quotes.held.Given as goal

abbrev pub invariant-loop-at : goal.invariant-loop-at
invariant-loop-at l = held l.quote l.cs ≡ l.characters ++ characters_of (parts l.quote 0 (drop l.at l.cs))

abbrev pub decreases-loop-at : goal.decreases-loop-at
decreases-loop-at l = length l.cs - l.at
