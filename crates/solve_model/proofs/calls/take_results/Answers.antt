use Rattle.std.proofs.Common.{List, ap, sym, ◌∙◌}
use Rattle.solve_model.specs.Run.{Branch, in_order}
use Rattle.solve_model.specs.Search.{items_of, runs, resumed}
use Rattle.solve_model.proofs.Resume.{no_alternative}
use Rattle.solve_model.proofs.calls.take_results.Goals as goal

pub returns-in-None : goal.returns-in-None
returns-in-None c = λ w u.
    ap (resumed w c.args.stack.now.frames.items) (no_alternative (runs w) _ c.args.more u ((rw c.in-None.is at c.in_ok-next_result.ensures) (items_of c.args.rest.items.items)))

pub returns-in_ok-now-in-Some : goal.returns-in_ok-now-in-Some
returns-in_ok-now-in-Some c = λ w u.
    c.in_ok-now-in-Some.ensures w u
    ∙ ap (λ (bs : List Branch). resumed w c.args.stack.now.frames.items (in_order (runs w) bs c.args.more u)) (sym ((rw c.in-Some.is at c.in_ok-next_result.ensures) (items_of c.args.rest.items.items)))
