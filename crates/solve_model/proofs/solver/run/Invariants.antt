use Rattle.std.proofs.Common.{◌≡◌}
use Rattle.solve_model.specs.Search.{whole}
use Rattle.solve_model.specs.Trace.{world_of}
use Rattle.solve_model.proofs.solver.run.Given as goal

abbrev pub invariant-loop : goal.invariant-loop
invariant-loop l =
    whole (world_of l.program l.replies l.limit) l.template l.now l.search ≡ whole (world_of l.program l.replies l.limit) l.template l.fn.now l.fn.search
