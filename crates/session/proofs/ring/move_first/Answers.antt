use Rattle.std.proofs.Common.{◌∙◌, ◌∷◌, [], take, drop, length-append, ap, sym, arith}
use Rattle.circular_buffer.specs.Buffer.{buffer}
use Rattle.session.proofs.Rings.{one_moved, none_left, moved_are, left_are}
use Rattle.session.proofs.ring.move_first.Goals as goal
use Rattle.session.proofs.ring.move_first.Goals.{in-Some, in_default}

pub loop-i-preserved : goal.loop-i-preserved
loop-i-preserved g c =
    elim c.match-pop_front.branch [
      | in-Some w ↦ rw (w.to-is, w.put.ensures, c.pop_front.ensures.items) (record {
        split = one_moved c.loop-i.to.items c.loop-i.from.items c.args.from.now.items w.in-Some.item c.loop-i.invariant.split (sym c.pop_front.ensures.value ∙ w.in-Some.is);
        count = omega (arith, length-append c.loop-i.to.items (w.in-Some.item ∷ []), c.loop-i.invariant.count);
        places = c.loop-i.invariant.places;
        kept = c.loop-i.invariant.kept;
      })
      | in_default w ↦ absurd (none_left c.loop-i.to.items c.loop-i.from.items c.args.from.now.items c.loop-i._i c.args.many c.loop-i.invariant.split (sym c.pop_front.ensures.value ∙ w.in_default.is) c.loop-i.invariant.count c.loop-i-test.true c.requires.there)
    ]

pub returns-clause-moved : goal.returns-clause-moved
returns-clause-moved g c =
    ap (λ z. buffer z c.loop-i.to.capacity) (moved_are c.loop-i.to.items c.loop-i.from.items c.args.from.now.items c.args.many c.loop-i.invariant.split (omega (arith, c.loop-i.invariant.count, c.loop-i-test.false, c.loop-i.auto._i-end)))
    ∙ ap (λ n. buffer (take c.args.many c.args.from.now.items) n) c.loop-i.invariant.places

pub returns-clause-left : goal.returns-clause-left
returns-clause-left g c =
    ap (λ z. buffer z c.loop-i.from.capacity) (left_are c.loop-i.to.items c.loop-i.from.items c.args.from.now.items c.args.many c.loop-i.invariant.split (omega (arith, c.loop-i.invariant.count, c.loop-i-test.false, c.loop-i.auto._i-end)))
    ∙ ap (λ n. buffer (drop c.args.many c.args.from.now.items) n) c.loop-i.invariant.kept
