use Rattle.std.proofs.Common.{◌≡◌, ◌++◌, length}
use Rattle.term_core.specs.Flat.{build}
use Rattle.term_core.specs.Parts.{arguments_of}
use Rattle.term_core.specs.Preorder.{AreTermNodes}
use Rattle.term_core.proofs.term.Term.arguments.Given as goal

abbrev pub invariant-loop-rest : goal.invariant-loop-rest
invariant-loop-rest l = record {
  all : l.arguments.items ++ build l.rest ≡ arguments_of l.fn.self;
  nodes : AreTermNodes l.rest;
}

abbrev pub decreases-loop-rest : goal.decreases-loop-rest
decreases-loop-rest l = length l.rest
