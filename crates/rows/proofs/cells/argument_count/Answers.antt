use Rattle.std.proofs.Common.{ap, ◌∙◌}
use Rattle.term_core.specs.Preorder.{count_of}
use Rattle.store.specs.Cells.{tree_of}
use Rattle.prims_term.proofs.ListCells.{count_of_symbol}
use Rattle.rows.proofs.cells.argument_count.Goals as goal

pub returns-in-Comp : goal.returns-in-Comp
returns-in-Comp c = ap count_of c.in-Comp.ensures ∙ count_of_symbol (tree_of c.args.store.now c.args.c)
