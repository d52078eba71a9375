use Rattle.std.proofs.Common.{◌≡◌, List, length}
use Rattle.term_core.specs.Tree.{Tree}
use Rattle.prolog_write.specs.Total.{total}
use Rattle.prolog_write.proofs.write.advance.Given as goal

abbrev pub invariant-loop-task : goal.invariant-loop-task
invariant-loop-task l = record {
  same : (us : List Tree) → total l.out l.stack us ≡ total l.initial.out l.initial.stack us;
  limit : l.out.limit ≡ l.initial.out.limit;
  mode : l.stack.mode ≡ l.initial.stack.mode;
}

abbrev pub decreases-loop-task : goal.decreases-loop-task
decreases-loop-task l = length l.stack.duties
