use Rattle.std.proofs.Common.{List, ap, ◌∙◌}
use Rattle.builtin_table.specs.Primitives.{Offer}
use Rattle.solve_model.specs.Collecting.{offers_by}
use Rattle.solve_model.specs.Run.{in_order, offered}
use Rattle.solve_model.specs.Search.{items_of, place_after, resumed, runs}
use Rattle.solve_model.proofs.collecting.try_offers.Goals as goal

pub returns : goal.returns
returns c = λ w u.
    let k = c.args.collector in
    c.in_ok-now.ensures w u
    ∙ ap (λ (os : List Offer). resumed w c.args.stack.now.frames.items (in_order (runs w) (offered os (items_of k.rest.items.items) (place_after k)) k.more u)) (c.in_ok-offers.ensures ∙ ap (offers_by k.collection) c.deref.ensures.value)
