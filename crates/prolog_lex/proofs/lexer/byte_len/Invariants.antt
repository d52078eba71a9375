use Rattle.std.proofs.Common.{◌≡◌, ◌+◌, drop}
use Rattle.term_core.specs.Tokens.{size}
use Rattle.prolog_lex.proofs.lexer.byte_len.Given as goal

abbrev pub invariant-loop-c : goal.invariant-loop-c
invariant-loop-c l = l.sum + size (drop l.c-index l.cs) ≡ size l.cs
