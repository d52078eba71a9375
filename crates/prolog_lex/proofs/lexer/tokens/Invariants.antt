use Rattle.std.proofs.Common.{◌≡◌, ◌<◌, ◌+◌, ◌^◌, length, map}
use Rattle.term_core.specs.Tokens.{size}
use Rattle.prolog_lex.specs.Lexed.{token_of, tokens_of}
use Rattle.prolog_lex.proofs.Turns.{before, read_from}
use Rattle.prolog_lex.proofs.lexer.tokens.Given as goal

abbrev pub invariant-loop-at : goal.invariant-loop-at
invariant-loop-at l =
    (tokens_of l.fn.text ≡ before (map token_of l.found.items) (read_from l.at l.rest)) × (l.at + size l.rest ≡ l.end) × (l.end < 2 ^ 64)

abbrev pub decreases-loop-at : goal.decreases-loop-at
decreases-loop-at l = length l.rest
