use Rattle.std.proofs.Common.{◌≡◌, ◌+◌, drop}
use Rattle.std.specs.List.{prefix_len}
use Rattle.prolog_read.specs.Views.{is_inner}
use Rattle.prolog_read.proofs.read.inner_len.Given as goal

abbrev pub invariant-loop-index : goal.invariant-loop-index
invariant-loop-index l = l.index + prefix_len is_inner (drop l.index l.fn.tokens) ≡ prefix_len is_inner l.fn.tokens
