use Rattle.std.proofs.Common.{◌≡◌, ◌-◌, ◌∙◌, ap, sym, length, List, arith}
use Rattle.std.proofs.lemmas.List.{length-map}
use Rattle.event_core.specs.declared.request.Request.{Request}
use Rattle.session.specs.declared.letter.Letter.{Letter}
use Rattle.session.specs.declared.automaton.Automaton.{Automaton}
use Rattle.session.specs.After.{Pengine}
use Rattle.session.specs.Views.{IsSeen, spec_seen}
use Rattle.session.specs.Kept.{view_of}
use Rattle.session.proofs.Seen.{at_rest, all_done, step_on, different}
use Rattle.session.proofs.automaton.Automaton.settle.Goals as goal

box : (a : Automaton) (p : Pengine) → IsSeen (view_of a) p → length p.mailbox ≡ length a.mailbox.items
box a p h = sym (ap (λ (z : List Request). length z) h.kept.mailbox) ∙ length-map a.mailbox.items (λ (l : Letter). l.node)

pub returns-then-not-consumes-clause-does : goal.returns-then-not-consumes-clause-does
returns-then-not-consumes-clause-does c = record {
  program = c.loop.invariant.program;
  settings = c.loop.invariant.settings;
  seen = λ p h. at_rest (spec_seen (view_of c.args.self.now)) (length p.mailbox) (length p.mailbox - c.loop.counter) p c.loop.self (c.loop.invariant.does p h) (λ x. different c.consumes.result c.if-not-consumes.true (c.consumes.ensures.1 x));
}

pub loop-preserved : goal.loop-preserved
loop-preserved c = record {
  sound = c.consume_first.ensures.sound;
  program = c.consume_first.ensures.does.program ∙ c.loop.invariant.program;
  settings = c.consume_first.ensures.does.settings ∙ c.loop.invariant.settings;
  end = c.loop.invariant.end;
  does = λ p h.
      let e : length p.mailbox ≡ length c.args.self.now.mailbox.items = box c.args.self.now p h in
      step_on (view_of c.args.self.now) (length p.mailbox) (length p.mailbox - c.loop.counter) _ p c.loop.self c.consume_first.new.self c.loop.invariant.program c.loop.invariant.settings (c.loop.invariant.does p h)
      (omega (arith, e, c.loop.invariant.end, c.loop-test.true))
      (c.consumes.ensures.0 c.if-not-consumes.false).0 (c.consumes.ensures.0 c.if-not-consumes.false).1 c.consume_first.ensures.does;
}

pub returns-clause-does : goal.returns-clause-does
returns-clause-does c = record {
  program = c.loop.invariant.program;
  settings = c.loop.invariant.settings;
  seen = λ p h.
      let e : length p.mailbox ≡ length c.args.self.now.mailbox.items = box c.args.self.now p h in
      all_done (spec_seen (view_of c.args.self.now)) (length p.mailbox) p c.loop.self (length p.mailbox - c.loop.counter) (c.loop.invariant.does p h) (omega (arith, e, c.loop.invariant.end, c.loop-test.false));
}
