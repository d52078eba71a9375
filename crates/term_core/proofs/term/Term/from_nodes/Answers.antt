use Rattle.std.proofs.Common.{◌∙◌, sym}
use Rattle.term_core.specs.Flat.{parse}
use Rattle.term_core.proofs.Applying.{depth_of_nodes}
use Rattle.term_core.proofs.term.Term.from_nodes.Goals as goal

pub invariant_of-result : goal.invariant_of-result
invariant_of-result c = record {
  nodes_are = c.requires.tree;
  depth_is = c.in_ok-depth.ensures ∙ depth_of_nodes (parse c.args.nodes.items) c.deref.result.now (c.deref.ensures.value ∙ sym c.requires.tree);
  is_term = c.requires.is_term;
}
