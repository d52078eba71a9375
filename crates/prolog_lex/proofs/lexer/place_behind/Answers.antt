use Rattle.std.proofs.Common.{arith}
use Rattle.prolog_lex.proofs.Turns.{size-take-drop}
use Rattle.prolog_lex.proofs.lexer.place_behind.Goals as goal

pub byte_len-requires : goal.byte_len-requires
byte_len-requires c = let e = size-take-drop c.args.count c.args.cs.now in omega arith

pub overflow_add-result : goal.overflow_add-result
overflow_add-result c = let e = size-take-drop c.args.count c.args.cs.now in omega arith
