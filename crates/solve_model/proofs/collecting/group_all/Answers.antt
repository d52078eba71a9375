use Rattle.std.proofs.Common.{◌≡◌, ap, ◌∙◌}
use Rattle.term_core.specs.Tree.{Tree}
use Rattle.term_core.specs.Substitution.{apply}
use Rattle.builtin_table.specs.Solutions.{behind_carets, witness, witnessed}
use Rattle.solve_model.specs.Collecting.{grouping}
use Rattle.solve_model.specs.Run.{collected}
use Rattle.solve_model.specs.Search.{items_of, place_of, resumed, runs}
use Rattle.solve_model.proofs.collecting.group_all.Goals as goal

pub returns : goal.returns
returns c = λ w u.
    let s = c.args.rest.place.subst in
    let g : Tree = apply s c.args.goal.now in
    let t : Tree = apply s c.args.template in
    let goal_is : c.in_ok-goal.goal ≡ g = c.in_ok-goal.ensures ∙ ap (λ x. apply x c.args.goal.now) c.subst.ensures in
    let template_is : c.in_ok-applied.applied ≡ t = c.in_ok-applied.ensures ∙ ap (λ x. apply x c.args.template) c.subst-2.ensures in
    let free_is : c.in_ok-free.free ≡ witness t g = c.in_ok-free.ensures.witness ∙ ap (λ x. witness x c.in_ok-goal.goal) template_is ∙ ap (witness t) goal_is in
    let behind_is : c.in_ok-free.goal ≡ behind_carets g = c.in_ok-free.ensures.goal ∙ ap behind_carets goal_is in
    let whole_is : c.in_ok-template.template ≡ witnessed (witness t g) c.args.template = c.in_ok-template.ensures ∙ ap (λ x. witnessed x c.args.template) (c.in_ok-copied.ensures ∙ free_is) in
    let of = λ (x y z : Tree). resumed w c.args.stack.now.frames.items (collected (runs w) x y (grouping c.args.arrangement z c.args.list) (items_of c.args.rest.items.items) (place_of c.args.rest.place) c.args.more u) in
    c.in_ok-now.ensures w u
    ∙ ap (λ x. of x c.in_ok-template.template c.in_ok-free.free) behind_is
    ∙ ap (λ y. of (behind_carets g) y c.in_ok-free.free) whole_is
    ∙ ap (λ z. of (behind_carets g) (witnessed (witness t g) c.args.template) z) free_is
