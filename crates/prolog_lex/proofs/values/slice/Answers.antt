use Rattle.prolog_lex.proofs.Standing.{its_slice}
use Rattle.prolog_lex.proofs.values.slice.Goals as goal

pub range-requires-clause-start_le_end : goal.range-requires-clause-start_le_end
range-requires-clause-start_le_end c = (its_slice c.args.text.now c.args.token.now c.utf8.text c.requires).1.ordered

pub range-requires-clause-start_boundary : goal.range-requires-clause-start_boundary
range-requires-clause-start_boundary c = λ _. (its_slice c.args.text.now c.args.token.now c.utf8.text c.requires).1.starts

pub range-requires-clause-end_boundary : goal.range-requires-clause-end_boundary
range-requires-clause-end_boundary c = (its_slice c.args.text.now c.args.token.now c.utf8.text c.requires).1.ends
