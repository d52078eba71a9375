use Rattle.std.proofs.Common.{◌≡◌, [], drop}
use Rattle.term_core.specs.Nodes.{nodes_variables}
use Rattle.term_core.specs.Places.{HasPlaces}
use Rattle.term_core.specs.Variables.{distinct_after}
use Rattle.term_core.proofs.places.Places.of.Given as goal

abbrev pub invariant-loop-node : goal.invariant-loop-node
invariant-loop-node l = record {
  places : HasPlaces l.places;
  so_far : distinct_after l.places.seen.items (nodes_variables (drop l.node-index l.nodes)) ≡ distinct_after [] (nodes_variables l.nodes);
}
