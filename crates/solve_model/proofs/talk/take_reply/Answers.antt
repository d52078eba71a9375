use Rattle.std.proofs.Common.{ℕ, ap}
use Rattle.solve_model.specs.Run.{Place, at_subst}
use Rattle.solve_model.specs.Search.{items_of, place_of}
use Rattle.solve_model.proofs.Talking.{reply_fails, reply_fits}
use Rattle.solve_model.proofs.talk.take_reply.Goals as goal

pub returns-in_default : goal.returns-in_default
returns-in_default c = λ w u.
    reply_fails w u c.args.stack.now.frames.items c.args.reply.now c.args.term (items_of c.args.rest.items.items) (place_of c.args.rest.place) c.args.more (rw c.in_default.is at c.in_ok-found.ensures.subst)

pub returns : goal.returns
returns c = λ w u.
    let p : Place = place_of c.args.rest.place in
    reply_fits w u c.args.stack.now.frames.items c.args.reply.now c.args.term (items_of c.args.rest.items.items) p c.args.more c.in-Some.found.subst _ (rw c.in-Some.is at c.in_ok-found.ensures.subst)
    (ap (λ (n : ℕ). at_subst c.in-Some.found.subst n p) (rw c.in-Some.is at c.in_ok-found.ensures.next))
