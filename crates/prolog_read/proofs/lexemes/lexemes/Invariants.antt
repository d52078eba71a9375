use Rattle.std.proofs.Common.{◌≡◌, ◌++◌, length}
use Rattle.prolog_read.specs.Lexemes.{placed, behind_all, nothing_before}
use Rattle.prolog_read.specs.Views.{seen, tokens_in, AreTokensOf, HasIndex}
use Rattle.prolog_read.proofs.lexemes.lexemes.Given as goal

abbrev pub invariant-loop-rest : goal.invariant-loop-rest
invariant-loop-rest l =
    (l.found.items ++ placed l.text (seen l.before) (tokens_in l.rest) ≡ placed l.text nothing_before (tokens_in l.fn.tokens))
    × (behind_all l.text (seen l.before) (tokens_in l.rest) ≡ behind_all l.text nothing_before (tokens_in l.fn.tokens))
    × HasIndex l.before.variables
    × AreTokensOf l.text l.rest

abbrev pub decreases-loop-rest : goal.decreases-loop-rest
decreases-loop-rest l = length l.rest
