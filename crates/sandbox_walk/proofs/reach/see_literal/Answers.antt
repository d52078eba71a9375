use Rattle.std.proofs.Common.{◌++◌, ◌∷◌, [], ap, sym, ◌∙◌}
use Rattle.term_core.specs.declared.pi.Pi.{Pi}
use Rattle.sandbox_walk.proofs.Walking.{met_known, met_new}
use Rattle.sandbox_walk.proofs.reach.see_literal.Goals as goal

pub returns-then-has : goal.returns-then-has
returns-then-has c = met_known c.args.pi.now _ (sym c.has.ensures ∙ c.if-has.true)

pub returns : goal.returns
returns c =
    met_new c.args.pi.now _ _ c.in_ok-add.ensures
    (c.in_ok-push.ensures.items ∙ ap (λ (x : Pi). c.args.walk.now.waiting.items ++ x ∷ []) c.in_ok-copied.ensures)
