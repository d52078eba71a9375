use Rattle.std.proofs.Common.{reverse, drop, None}
use Rattle.term_core.specs.Flat.{build}
use Rattle.sandbox_walk.specs.Shown.{kinds_in, shown}
use Rattle.sandbox_walk.specs.Pending.{IsReading}
use Rattle.sandbox_walk.proofs.shown.shown.Given as goal

abbrev pub invariant-loop : goal.invariant-loop
invariant-loop l =
    IsReading (kinds_in l.table) (shown (kinds_in l.table) None l.fn.term l.fn.kind) l.reading.found.items (reverse l.reading.tasks.items) (build (drop l.reading.at l.nodes))
