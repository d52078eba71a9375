use Rattle.std.proofs.Common.{◌≡◌, ◌-◌, length}
use Rattle.session.specs.After.{Pengine}
use Rattle.session.specs.Views.{spec_seen, IsSeen}
use Rattle.session.specs.Kept.{view_of, IsSound}
use Rattle.session.proofs.Seen.{Settling}
use Rattle.session.proofs.automaton.Automaton.settle.Given as goal

abbrev pub invariant-loop : goal.invariant-loop
invariant-loop l = record {
  sound : IsSound l.self;
  program : l.self.program.value ≡ l.fn.self.program.value;
  settings : l.self.settings ≡ l.fn.self.settings;
  end : l.end ≡ length l.fn.self.mailbox.items;
  does : (p : Pengine) → IsSeen (view_of l.fn.self) p → Settling (spec_seen (view_of l.fn.self)) (length p.mailbox) p l.self (length p.mailbox - l.counter);
}
