use Rattle.std.proofs.Common.{◌≡◌, map, take}
use Rattle.sandbox_walk.specs.Shown.{declared_kind}
use Rattle.sandbox_walk.proofs.kinds.declared_kinds.Given as goal

abbrev pub invariant-loop-meta : goal.invariant-loop-meta
invariant-loop-meta l = l.kinds.items ≡ map declared_kind (take l.meta-index l.metas)
