-- What is seen of a session tells the answers of the definition.
use Rattle.std.proofs.Common.{◌≡◌, ℕ, Bool, ◌&&◌, ◌==◌, length, drop, Option, refl, sym, ap, ◌∙◌, arith}
use Rattle.std.proofs.Math.Seq.{drop-append_seam}
use Rattle.session.specs.After.{State, Pengine, waiting}
use Rattle.session.specs.Views as view
use Rattle.session.specs.Views.{Look, View, TurnView, IsLook, IsKept, IsSeen, turn_at}
use Rattle.session.specs.Answers as answer
use Rattle.session.specs.Answers.{is_ended, is_gone}
use Rattle.session.specs.Shows.{has_ended, queue_of, takes_at, AnswersAreThePengines}
use Rattle.session.proofs.Seen.{waits_as}

look_ended : (l : Look) (s : State) (t : Option ℕ) → IsLook l s t → is_ended l ≡ has_ended s
look_ended view.Idle s t h = sym (ap has_ended h.0)
look_ended (view.Running q) s t h = sym (ap has_ended h.0)
look_ended (view.Out room further) s t h = sym (ap has_ended h.0.1)
look_ended (view.More q) s t h = sym (ap has_ended h.0)
look_ended (view.Prompting q) s t h = sym (ap has_ended h.0)
look_ended view.Ended s t h = sym (ap has_ended h.0)

seen_queue : (v : View) (p : Pengine) → IsSeen v p → queue_of p ≡ v.queue
seen_queue v p h = ap (λ (n : ℕ). drop n p.emitted) (sym h.kept.handed) ∙ ap (drop (length h.kept.before)) h.kept.emitted ∙ drop-append_seam h.kept.before v.queue

module _ (v : View) (p : Pengine) (k : IsKept v p) where
  look_takes : (l : Look) → IsLook l p.state p.turn → answer.takes_at v l ≡ takes_at v.program v.settings p p.state p.turn
  look_takes view.Idle h = rw h.0 refl
  look_takes (view.Running q) h = rw (h.0, h.1, waits_as v p k, sym k.number, sym k.steps, sym k.events) refl
  look_takes (view.Out room further) h = rw (h.0.1, h.1) refl
  look_takes (view.More q) h = rw h.0 refl
  look_takes (view.Prompting q) h = rw h.0 refl
  look_takes view.Ended h = rw h.0 refl

pub answers_are_the_pengines : AnswersAreThePengines
answers_are_the_pengines v p h =
    let e : is_ended v.look ≡ has_ended p.state = look_ended v.look p.state p.turn h.look in
    let w : length v.queue ≡ waiting p = sym (waits_as v p h.kept) in
    record {
      ended = e;
      queue = sym (seen_queue v p h);
      mailbox = h.kept.mailbox;
      waits = w;
      gone = ap (λ (b : Bool). b && (length v.queue == 0)) e ∙ ap (λ (n : ℕ). has_ended p.state && (n == 0)) w;
      pulled = λ b. let k = h.kept.pulled in omega (arith, k, b);
      takes = look_takes v p h.kept v.look h.look;
    }
