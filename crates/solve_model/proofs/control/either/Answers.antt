use Rattle.std.proofs.Common.{List, ◌∷◌, true, ap, ◌∙◌}
use Rattle.solve_model.specs.declared.search.Item.{Item}
use Rattle.solve_model.specs.Run.{Goal}
use Rattle.solve_model.specs.Search.{items_of, place_of, resumed}
use Rattle.solve_model.proofs.Choosing.{same_run}
use Rattle.solve_model.proofs.Stepping.{either_first}
use Rattle.solve_model.proofs.control.either.Goals as goal

pub returns : goal.returns
returns c = λ w u.
    let scope = c.args.context.scope in
    ap (resumed w c.push.new.stack.frames.items)
    (same_run w _ _ _ _ true u (c.in_ok-branch.ensures.items ∙ ap (λ (is : List Item). Goal c.args.first scope.level scope.more ∷ items_of is) c.in_ok-copy.ensures.items) (ap place_of (c.in_ok-branch.ensures.place ∙ c.in_ok-copy.ensures.place)))
    ∙ either_first w c.args.stack.now.frames.items c.push.new.stack.frames.items c.in_ok-other.other c.args.context.more u _ _ _ (c.in_ok-push.ensures w) c.in_ok-other.ensures.items (ap place_of c.in_ok-other.ensures.place)
