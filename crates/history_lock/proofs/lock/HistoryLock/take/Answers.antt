use Rattle.std.proofs.Common.{rules}
use Rattle.history_lock.proofs.Keeps.{front_is}
use Rattle.history_lock.proofs.lock.HistoryLock.take.Goals as goal

pub exchange-requires : goal.exchange-requires
exchange-requires g c = let h = c.enter.ensures.holds.1 in (search rules, (_, front_is g.T.History.history g.T.History.closes _ _ h.0 _ h.1))
