use Rattle.std.proofs.Common.{length, ap, refl}
use Rattle.program.proofs.Keeping.{in_order_after, kept_after}
use Rattle.program.proofs.clause_map.ClauseMap.with.Goals as goal

pub invariant_of-result : goal.invariant_of-result
invariant_of-result c =
    rw c.in_ok-push-2.ensures.items
    (kept_after c.self.inside.by_arity _ c.args.entry.pi c.args.entry.clause c.in_ok-push.ensures c.self.inside.order.items c.self.invariant _ refl (ap length c.found-at.ensures) c.args.entry.is_of)

pub returns : goal.returns
returns c =
    rw (c.in_ok-push-2.ensures.items, ← c.self.view_is)
    (in_order_after c.self.inside.by_arity c.push.new.by_arity c.args.entry.pi c.args.entry.clause c.in_ok-push.ensures c.self.inside.order.items c.self.invariant _ refl (ap length c.found-at.ensures))
