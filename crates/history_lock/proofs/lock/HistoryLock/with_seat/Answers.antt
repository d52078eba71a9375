use Rattle.std.proofs.Common.{ap, sym, subst, ◌∙◌, refl, arith, length}
use Rattle.std.specs.Fn.{FnOnceReturnsAtMut}
use Rattle.history_lock.specs.declared.view.View.{View}
use Rattle.history_lock.specs.Views.{AddsOne, mine_after}
use Rattle.history_lock.proofs.Keeps.{adds_length}
use Rattle.history_lock.proofs.lock.HistoryLock.with_seat.Goals as goal

pub overflow_sub-added : goal.overflow_sub-added
overflow_sub-added g c = let called : FnOnceReturnsAtMut g.F.FnOnce c.args.f c.take-value.result c.f-result.result c.f-result.new.arg2 = record { shown = _; shows = refl; left = _; met = c.f-result.ensures; leaves = refl } in
    let one = c.requires.adds _ _ _ c.take-value.ensures.seen called in
    let le = adds_length g.T.History.history g.T.History.closes _ _ _ one in omega (arith, c.entries-before.ensures, c.entries.ensures)

pub give-requires-clause-adds : goal.give-requires-clause-adds
give-requires-clause-adds g c = let called : FnOnceReturnsAtMut g.F.FnOnce c.args.f c.take-value.result c.f-result.result c.f-result.new.arg2 = record { shown = _; shows = refl; left = _; met = c.f-result.ensures; leaves = refl } in
    subst (λ (z : View g.row.T-Entry.Denot). AddsOne g.T.History.closes z.mine z.seen (g.T.History.history c.f-result.new.arg2)) (sym (ap (λ m. m.0) c.take-value.ensures.holds.1))
    (c.requires.adds _ _ _ c.take-value.ensures.seen called)

pub give-requires-clause-length : goal.give-requires-clause-length
give-requires-clause-length g c = let called : FnOnceReturnsAtMut g.F.FnOnce c.args.f c.take-value.result c.f-result.result c.f-result.new.arg2 = record { shown = _; shows = refl; left = _; met = c.f-result.ensures; leaves = refl } in
    let one = c.requires.adds _ _ _ c.take-value.ensures.seen called in
    let le = adds_length g.T.History.history g.T.History.closes _ _ _ one in
    let seen = ap (λ m. length m.0.seen) c.take-value.ensures.holds.1 in
    (omega (arith, c.entries-before.ensures, c.entries.ensures), omega (arith, c.entries.ensures, c.entries.type_inv))

pub returns-clause-called : goal.returns-clause-called
returns-clause-called g c = (
  c.take-value.result,
  c.f-result.new.arg2,
  record { shown = _; shows = refl; left = _; met = c.f-result.ensures; leaves = refl },
  c.take-value.ensures.seen,
  ap (λ m. m.0.seen) c.give.ensures.left,
  ap (λ m. m.0.mine) c.give.ensures.left ∙ ap (λ m. mine_after m.0.mine m.0.seen (g.T.History.history c.f-result.new.arg2)) c.take-value.ensures.holds.1,
)
