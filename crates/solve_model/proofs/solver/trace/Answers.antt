use Rattle.std.proofs.Common.{List, ◌∷◌, ◌++◌, [], ap, sym, ◌∙◌}
use Rattle.solve_model.specs.declared.search.Frame.{Frame}
use Rattle.solve_model.specs.declared.search.Frame.TheVariants as frame
use Rattle.solve_model.specs.Goals.{ready}
use Rattle.solve_model.specs.Rows.{ready_as}
use Rattle.solve_model.specs.Search.{items_of, place_of}
use Rattle.solve_model.specs.Trace.{world_of}
use Rattle.solve_model.proofs.Resume.{asked_throws, asked_runs}
use Rattle.solve_model.proofs.solver.trace.Goals.{in-Throws+in_ok-numbered-in-Throws, in-Runs+in_ok-items-in-Runs+in_ok-place-in-Runs+in_ok-push-in-Runs}
use Rattle.solve_model.proofs.solver.trace.Goals as goal

pub returns : goal.returns
returns c =
    elim c.match-branch-3.branch [
      | in-Throws+in_ok-numbered-in-Throws w ↦ c.in_ok-trace.ensures ∙ rw (w.stack-is, w.now-is)
          (asked_throws (world_of c.args.p.now c.args.replies.now c.args.n) c.args.goal.now c.args.template.now w.in-Throws.ball w.in_ok-numbered-in-Throws.field-0 c.new.result.items c.new-3.result
          (ap ready (sym c.in_ok-copied.ensures) ∙ sym c.in_ok-ball.ensures ∙ ap ready_as w.in-Throws.is) w.in_ok-numbered-in-Throws.ensures c.new.ensures.items c.new-3.ensures)
      | in-Runs+in_ok-items-in-Runs+in_ok-place-in-Runs+in_ok-push-in-Runs w ↦ c.in_ok-trace.ensures ∙ rw (w.stack-is, w.now-is)
          (asked_runs (world_of c.args.p.now c.args.replies.now c.args.n) c.args.goal.now c.args.template.now w.in-Runs.term w.push.new.self.items c.new-3.result (items_of w.in_ok-items-in-Runs.items.items) (place_of w.in_ok-place-in-Runs.place)
          (ap ready (sym c.in_ok-copied.ensures) ∙ sym c.in_ok-ball.ensures ∙ ap ready_as w.in-Runs.is)
          (w.in_ok-push-in-Runs.ensures.items ∙ ap (λ (fs : List Frame). fs ++ frame.Cut 1 ∷ []) c.new.ensures.items)
          c.new-3.ensures (ap items_of w.in_ok-items-in-Runs.ensures.items) w.in_ok-place-in-Runs.ensures)
    ]
