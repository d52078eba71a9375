use Rattle.std.proofs.Common.{◌≡◌, ◌+◌, drop, option_map}
use Rattle.term_core.specs.Tokens.{comment_end}
use Rattle.prolog_lex.proofs.front.comment_end.Given as goal

abbrev pub invariant-loop-at : goal.invariant-loop-at
invariant-loop-at l = comment_end l.cs ≡ option_map (λ n. l.at + n) (comment_end (drop l.at l.cs))
