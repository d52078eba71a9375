use Rattle.std.proofs.Common.{◌≡◌, ◌∙◌, ap, sym, [], ◌∷◌, ◌++◌, None, is_some}
use Rattle.std.proofs.lemmas.Bool.{false≢true}
use Rattle.std.proofs.lemmas.List.{nil_from_length}
use Rattle.std.specs.Vec.Iter.{into_iter_items}
use Rattle.event_core.specs.Readers.{ahead, tells}
use Rattle.event_core.proofs.Readers.{tells_more, reads_on}
use Rattle.event_core.proofs.reached.read_stops.Goals as goal
use Rattle.event_core.proofs.reached.read_stops.Goals.{in-None, in-Some+then-is_some}

pub loop-step-init : goal.loop-step-init
loop-step-init c = record {
  brings = λ qs.
      ap (λ es. tells es (ahead c.args.reader (c.args.stops.items ++ qs) c.args.requests.now)) (sym c.new-events.ensures)
      ∙ c.in_ok-left.ensures.brings (c.args.stops.items ++ qs)
      ∙ ap (λ l. tells c.resume_on.new.events (ahead c.resume_on.new.reader (l ++ qs) c.in_ok-left.left.now)) (sym c.into_iter-step-iterator.ensures.into_iter_gives.1);
  rests = c.in_ok-left.ensures.rests;
  names = c.in_ok-left.ensures.names;
}

pub loop-step-preserved : goal.loop-step-preserved
loop-step-preserved c = record {
  brings = λ qs.
      c.loop-step.invariant.brings qs
      ∙ ap (λ l. tells c.loop-step.events (ahead c.loop-step.reader (l ++ qs) c.loop-step.left.now)) c.in-Some.ensures.steps.0
      ∙ tells_more c.loop-step.events c.add.new.events (ahead c.loop-step.reader ((c.in-Some.step, c.in-Some.stop) ∷ (into_iter_items c.next.new.self ++ qs)) c.loop-step.left.now)
      (ahead c.read.new.self (into_iter_items c.next.new.self ++ qs) c.loop-step.left.now) c.in_ok-read.field-0
      (c.in_ok-read.ensures.brings (into_iter_items c.next.new.self ++ qs) c.loop-step.left.now) c.in_ok-add.ensures
      ∙ c.in_ok-left-2.ensures.brings (into_iter_items c.next.new.self ++ qs);
  rests = c.in_ok-left-2.ensures.rests;
  names = c.in_ok-left-2.ensures.names ∙ c.in_ok-read.ensures.names ∙ c.loop-step.invariant.names;
}

-- where the reader doesn't rest, all stops were read
all_read : (c : goal.Joined-reader-10) → c.rest-rest.result ≡ None → into_iter_items c.loop-step.step-iterator ≡ []
all_read c none = elim c.match-next.branch [
  | in-None w ↦ nil_from_length _ (sym c.loop-step.step-iterator.rest.ok.0 ∙ w.in-None.ensures.steps.0)
  | in-Some+then-is_some w ↦ absurd (false≢true (sym (ap is_some (sym c.rest-rest.ensures ∙ none)) ∙ ap is_some (sym w.rest.ensures) ∙ sym w.is_some.ensures ∙ w.if-is_some.true))
]

pub returns : goal.returns
returns c =
    reads_on c.loop-step.events c.loop-step.reader (into_iter_items c.loop-step.step-iterator) c.loop-step.left.now (λ qs. ahead c.args.reader (c.args.stops.items ++ qs) c.args.requests.now)
    c.loop-step.invariant.brings c.loop-step.invariant.rests c.rest-rest.result (sym c.rest-rest.ensures) (all_read c) c.args.reader.names c.loop-step.invariant.names
