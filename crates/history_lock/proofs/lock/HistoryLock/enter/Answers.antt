use Rattle.std.proofs.Common.{rules, ap}
use Rattle.history_lock.proofs.Keeps.{draws, looks}
use Rattle.history_lock.proofs.lock.HistoryLock.enter.Goals as goal

pub fetch_add-ticket-requires : goal.fetch_add-ticket-requires
fetch_add-ticket-requires g c = (c.requires.0, search rules, draws _ _ _ _ _ _ c.requires.2)

pub load-requires : goal.load-requires
load-requires g c = (search rules, search rules, looks _ _ _ _ _ _ _ (ap (λ m. m.0.stage) c.loop.invariant.2))
