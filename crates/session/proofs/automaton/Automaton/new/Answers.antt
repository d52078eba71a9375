use Rattle.std.proofs.Common.{refl, [], ◌∷◌}
use Rattle.event_core.specs.declared.event.Event.TheVariants as event
use Rattle.session.proofs.automaton.Automaton.new.Goals as goal

pub returns-clause-seen : goal.returns-clause-seen
returns-clause-seen c = rw (c.in_ok-mailbox.ensures, c.in_ok-queue.ensures) (record {
  look = (refl, refl);
  kept = record { mailbox = refl; number = refl; steps = refl; events = refl; pulled = refl; before = event.Create ∷ []; handed = refl; emitted = refl };
})
