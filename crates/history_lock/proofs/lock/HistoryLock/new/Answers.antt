use Rattle.std.proofs.Common.{arith}
use Rattle.history_lock.proofs.Keeps.{begins}
use Rattle.history_lock.proofs.lock.HistoryLock.new.Goals as goal

pub new-requires : goal.new-requires
new-requires g c = rw (c.in_ok-push.ensures.items, c.new-slots.ensures.items) (begins _ _ _ _ (omega (arith, c.from.ensures)) c.requires.empty)
