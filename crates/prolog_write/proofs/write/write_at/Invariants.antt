use Rattle.std.proofs.Common.{◌≡◌, drop}
use Rattle.term_core.specs.Flat.{build}
use Rattle.prolog_write.specs.Text.{text_at}
use Rattle.prolog_write.specs.Duties.{EachFits}
use Rattle.prolog_write.specs.Total.{total}
use Rattle.prolog_write.proofs.write.write_at.Given as goal

abbrev pub invariant-loop-node : goal.invariant-loop-node
invariant-loop-node l = record {
  same : total l.out l.stack (build (drop l.node-index l.node-items)) ≡ text_at l.fn.place l.fn.mode l.t;
  limit : l.out.limit ≡ l.limit;
  mode : l.stack.mode ≡ l.fn.mode;
  fits : EachFits (drop l.node-index l.node-items);
}
