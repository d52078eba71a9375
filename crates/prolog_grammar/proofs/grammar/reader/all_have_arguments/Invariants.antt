use Rattle.std.proofs.Common.{◌≡◌, take, true}
use Rattle.std.specs.List.{list_all}
use Rattle.prolog_grammar.specs.Read.{has_arguments}
use Rattle.prolog_grammar.proofs.grammar.reader.all_have_arguments.Given as goal

abbrev pub invariant-loop-node : goal.invariant-loop-node
invariant-loop-node l = list_all has_arguments (take l.node-index l.nodes) ≡ true
