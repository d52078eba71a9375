use Rattle.std.proofs.Common.{arith, ◌∙◌}
use Rattle.solve_model.specs.Search.{end_of, used_of}
use Rattle.solve_model.specs.Trace.{world_of}
use Rattle.tree_results.proofs.Slices.{nothing_kept}
use Rattle.solve_model.proofs.Resume.{over, popped}
use Rattle.solve_model.proofs.solver.run.Goals.{in-Runs+in_ok-now-in-Runs, in-Tells+in_ok-now-in-Tells, in-Asks+in_ok-now-in-Asks, in-Ends+in-Some+in_ok-now-in-Some}
use Rattle.solve_model.proofs.solver.run.Goals as goal

pub returns-in-None : goal.returns-in-None
returns-in-None c =
    c.finished.ensures c.args.template.now
    ∙ over (world_of c.args.program.now c.args.replies.now c.args.limit) c.args.template.now c.loop.search.stack.frames.items c.loop.search.marks _ (nothing_kept c.loop.search.stack.frames.items _ c.in-None.ensures.cases.0 (omega (arith, c.loop.search.stack.frames.ok.0)))
    ∙ (rw c.in-Ends.is at c.loop.invariant)

pub loop-preserved : goal.loop-preserved
loop-preserved c =
    let w = world_of c.args.program.now c.args.replies.now c.args.limit in
    elim c.match-now.branch [
      | in-Runs+in_ok-now-in-Runs b ↦ rw (b.search-is, b.now-is) (b.in_ok-now-in-Runs.ensures c.args.replies.now ∙ (rw b.in-Runs.is at c.loop.invariant))
      | in-Tells+in_ok-now-in-Tells b ↦ rw (b.search-is, b.now-is) (b.in_ok-now-in-Tells.ensures w c.args.template.now ∙ (rw b.in-Tells.is at c.loop.invariant))
      | in-Asks+in_ok-now-in-Asks b ↦ rw (b.search-is, b.now-is) (b.in_ok-now-in-Asks.ensures c.args.program.now c.args.limit c.args.template.now ∙ (rw b.in-Asks.is at c.loop.invariant))
      | in-Ends+in-Some+in_ok-now-in-Some b ↦ rw (b.search-is, b.now-is)
          (popped w c.args.template.now c.loop.search.stack.frames.items _ b.in-Some.frame c.loop.search.marks (end_of b.in-Ends.end) (used_of c.loop.search.steps c.loop.search.replies) _ b.in-Some.ensures.items (b.in_ok-now-in-Some.ensures c.args.replies.now c.args.limit (used_of c.loop.search.steps c.loop.search.replies)) ∙ (rw b.in-Ends.is at c.loop.invariant))
    ]
