use Rattle.std.proofs.Common.{ℕ, suc, ◌≡◌, ◌+◌, [], ◌∷◌, Some, None, length, refl, ap, arith, sym, ◌∙◌}
use Rattle.std.proofs.lemmas.Option.{slice_get_past, slice_get_read}
use Rattle.solve_model.specs.Run.{in_order, offered, reply_offer}
use Rattle.solve_model.specs.Search.{items_of, place_of, runs, resumed, traced_after, used_of}
use Rattle.solve_model.specs.Trace.{world_of}
use Rattle.solve_model.proofs.Talking.{asked}
use Rattle.solve_model.proofs.talk.ask.Goals as goal

pub returns-in_default : goal.returns-in_default
returns-in_default c = λ cs limit template.
    let q = c.args.question in
    asked (world_of cs c.args.replies.now limit) template c.args.search.now.stack.frames.items c.args.search.now.marks c.push.new.self q.prompt q.term (items_of q.rest.items.items) (place_of q.rest.place) q.more (used_of c.args.search.now.steps c.args.search.now.replies) c.in_ok-push.ensures.ok
    None (sym (slice_get_past c.args.replies.now c.args.search.now.replies c.in_default.ensures.lookup.3))

pub returns : goal.returns
returns c = λ cs limit template.
    let w = world_of cs c.args.replies.now limit in
    let q = c.args.question in
    let n = c.args.search.now.steps in
    let k = c.args.search.now.replies in
    ap (traced_after template c.push.new.self)
    (c.in_ok-now.ensures w (used_of n (k + 1))
    ∙ ap (λ (m : ℕ). resumed w c.args.search.now.stack.frames.items (in_order (runs w) (offered (reply_offer c.in-Some.reply.now q.term q.rest.place.next ∷ []) (items_of q.rest.items.items) (place_of q.rest.place)) q.more (used_of n m))) (let x : k + 1 ≡ suc k = omega arith in x))
    ∙ asked w template c.args.search.now.stack.frames.items c.args.search.now.marks c.push.new.self q.prompt q.term (items_of q.rest.items.items) (place_of q.rest.place) q.more (used_of n k) c.in_ok-push.ensures.ok
    (Some c.in-Some.reply.now) (sym (slice_get_read c.args.replies.now (length c.args.replies.now) k c.in-Some.reply.now refl c.in-Some.ensures.lookup.3.0 c.in-Some.ensures.lookup.1))
