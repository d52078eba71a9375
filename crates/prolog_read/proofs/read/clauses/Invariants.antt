use Rattle.std.proofs.Common.{◌≡◌, length, map}
use Rattle.prolog_read.specs.Clauses.{iso}
use Rattle.prolog_read.specs.Outcome.{read_as, clauses}
use Rattle.prolog_read.specs.Views.{tokens_in, AreTokensOf}
use Rattle.prolog_read.proofs.Sentences.{after}
use Rattle.prolog_read.proofs.read.clauses.Given as goal

abbrev pub invariant-loop-rest : goal.invariant-loop-rest
invariant-loop-rest l =
    (clauses iso l.text (tokens_in l.fn.tokens) ≡ after (map read_as l.found.items) (clauses l.ops l.text (tokens_in l.rest)))
    × AreTokensOf l.text l.rest

abbrev pub decreases-loop-rest : goal.decreases-loop-rest
decreases-loop-rest l = length l.rest
