use Rattle.std.proofs.Common.{◌≡◌, []}
use Rattle.history_lock.specs.Views.{at_stage}
use Rattle.history_lock.specs.declared.view.Stage.TheVariants.{Waiting}
use Rattle.history_lock.proofs.lock.HistoryLock.enter.Given as goal

abbrev pub invariant-loop : goal.invariant-loop
invariant-loop g l = (l.pass.table_id ≡ l.fn.pass.table_id) × (l.pass.id ≡ l.fn.pass.id) × (l.pass.me ≡ (at_stage l.fn.pass.me.0 (Waiting l.ticket), []))
