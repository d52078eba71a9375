use Rattle.std.proofs.Common.{◌≡◌, ◌∙◌, ap, sym, ℕ, suc, ◌+◌, [], ◌∷◌, ◌++◌, take, arith}
use Rattle.std.proofs.lemmas.List.Elements.{filter_map-append}
use Rattle.std.proofs.Math.Seq.{take-suc}
use Rattle.event_core.specs.Parts.{reply, replies}
use Rattle.event_core.proofs.stops.replies_of.Goals as goal

pub loop-request-preserved : goal.loop-request-preserved
loop-request-preserved c =
    c.in_ok-add_reply.ensures
    ∙ ap (λ l. l ++ replies (c.request-item.result ∷ [])) c.loop-request.invariant
    ∙ sym (filter_map-append reply (take c.loop-request.request-index c.args.requests.now) (c.request-item.result ∷ []))
    ∙ ap (λ x. replies (take c.loop-request.request-index c.args.requests.now ++ x ∷ [])) c.request-item.is
    ∙ sym (ap replies (take-suc c.args.requests.now c.loop-request.request-index c.request-item.result c.loop-request-test.true))
    ∙ ap (λ (k : ℕ). replies (take k c.args.requests.now)) (let g : suc c.loop-request.request-index ≡ c.loop-request.request-index + 1 = omega arith in g)
