-- Worked rows of one pengine by its entries, computed.
use Rattle.std.proofs.Common.{◌≡◌, ℕ, zero, suc, ◌≤◌, ◌<◌, refl, Bool, true, false, List, [], ◌∷◌, None, codes, length, get_or, inl, inr, arith}
use Rattle.term_core.specs.Tree.{Tree, atom}
use Rattle.builtin_table.specs.Errors.{one_argument}
use Rattle.event_core.specs.declared.stop.Stop.{Stop}
use Rattle.event_core.specs.declared.stop.Stop.TheVariants.{Found, Limit as Spent}
use Rattle.event_core.specs.declared.event.Event.{Event}
use Rattle.event_core.specs.declared.event.Event.TheVariants as event
use Rattle.event_core.specs.declared.event.Event.TheVariants.{Create, Success}
use Rattle.event_core.specs.declared.event.Kind.TheVariants as kind
use Rattle.event_core.specs.declared.request.Request.{Request}
use Rattle.event_core.specs.declared.request.Request.TheVariants.{Ask, Next, Stop as Stops}
use Rattle.event_core.specs.Parts.{part_of, part_step}
use Rattle.event_core.specs.Full.{Spec, Sends, Struck, ByAbort, ByDestroy, ByWant, full, full_from, reads}
use Rattle.session.specs.After.{Entry, Sent, Pulled, Abort, Destroy, Taken, Given, settled, after, made}
use Rattle.session.specs.Legal.{Holds, IsAllowed, IsLegal, acts}

abbrev of_p : List ℕ → Tree
of_p f = one_argument (codes "p") (atom f)

-- p(a). p(b). p(c). asked p(X)
abbrev three : List (ℕ × Stop)
three = (2, Found (of_p (codes "a")) true) ∷ (3, Found (of_p (codes "b")) true) ∷ (4, Found (of_p (codes "c")) false) ∷ []

abbrev over_stops : Bool → List (ℕ × Stop) → Spec
over_stops d ps = record { destroys = d; refusal = λ a. None; part = λ a rs. part_of (record { size = λ t. 1; names = None }) ps 1 [] rs }

abbrev ask : Request
ask = Ask (record { goal = of_p (codes "a"); template = of_p (codes "a"); names = []; chunk = 0; bytes = 0 })

unfoldable opened : Unit {0}
unfolding part_of part_step full_from reads settled after acts
opened = tt

-- an abort while a turn is out: the turn is dropped
abbrev aborted : List Entry
aborted = Sent ask ∷ Taken ∷ Abort ∷ Given 1 2 1 false false ∷ Pulled 1 ∷ Sent ask ∷ Taken ∷ Given 2 2 1 false true ∷ []

aborted_acts : acts (over_stops false three) aborted made ≡ Sends ask ∷ Struck ByAbort 1 0 0 ∷ Sends ask ∷ []
unfolding opened
aborted_acts = refl

aborted_emits : (after (over_stops false three) aborted made).emitted ≡ Create ∷ event.Abort ∷ Success (of_p (codes "a") ∷ []) None true ∷ []
unfolding opened
aborted_emits = refl

aborted_full : full (over_stops false three) (acts (over_stops false three) aborted made) ≡ Create ∷ event.Abort ∷ Success (of_p (codes "a") ∷ []) None true ∷ []
unfolding opened
aborted_full = refl

aborted_legal : IsLegal (over_stops false three) 10000 aborted made
unfolding opened IsLegal Holds
aborted_legal = (
  (tt, omega arith),
  (
    (tt, refl, omega arith),
    (
      tt,
      (
        inl refl,
        (
          (omega arith, omega arith),
          (
            (tt, omega arith),
            (
              (tt, refl, omega arith),
              (
                (
                  refl,
                  record {
                    in_budget = omega arith;
                    in_room = omega arith;
                    within = omega arith;
                    moves = inl (omega arith);
                    none_missed = λ k d h. absurd (omega (arith, h));
                    none_early = λ k d h. early k d h;
                    stopped = λ h. refl;
                    ran_on = λ h. absurd (h (inr refl));
                  },
                ),
                tt,
              ),
            ),
          ),
        ),
      ),
    ),
  ),
)
  where
    early : (k : ℕ) (d : ℕ × Event) → k < 1 → (get_or ((2, Success (of_p (codes "a") ∷ []) None true) ∷ []) k d).0 ≤ 2
    early zero d h = omega arith
    early (suc k) d h = absurd (omega (arith, h))

-- a want of memory after the first answer, and then a destroy
abbrev starved : List Entry
starved = Sent ask ∷ Taken ∷ Given 1 2 1 false true ∷ Sent (Next None) ∷ Taken ∷ Given 1 0 0 true true ∷ Destroy ∷ []

starved_acts : acts (over_stops false three) starved made ≡ Sends ask ∷ Sends (Next None) ∷ Struck ByWant 2 2 1 ∷ Struck ByDestroy 2 2 1 ∷ []
unfolding opened
starved_acts = refl

starved_emits : (after (over_stops false three) starved made).emitted ≡ Create ∷ Success (of_p (codes "a") ∷ []) None true ∷ event.Memory ∷ event.Destroy ∷ []
unfolding opened
starved_emits = refl

-- a request that doesn't fit, and `stop`
abbrev stopped : List Entry
stopped = Sent ask ∷ Sent ask ∷ Taken ∷ Given 1 2 1 false true ∷ Sent Stops ∷ []

stopped_emits : (after (over_stops true three) stopped made).emitted ≡ Create ∷ Success (of_p (codes "a") ∷ []) None true ∷ event.Protocol kind.Ask ∷ event.Stop ∷ event.Destroy ∷ []
unfolding opened
stopped_emits = refl

-- while a query runs, 64 requests wait and no further one is taken; an abort drops them
abbrev nexts : ℕ → List Entry → List Entry
nexts zero es = es
nexts (suc n) es = Sent (Next None) ∷ nexts n es

abbrev loops : Spec
loops = over_stops false ((1000, Spent) ∷ [])

crowded : length (after loops (Sent ask ∷ nexts 64 []) made).mailbox ≡ 64
unfolding opened
crowded = refl

no_further : IsAllowed loops 10000 (Sent (Next None)) (after loops (Sent ask ∷ nexts 64 []) made) → ⊥
no_further h = omega (arith, h.1, crowded)

crowd_dropped : (after loops (Sent ask ∷ nexts 64 (Abort ∷ [])) made).emitted ≡ Create ∷ event.Abort ∷ []
unfolding opened
crowd_dropped = refl

crowd_gone : (after loops (Sent ask ∷ nexts 64 (Abort ∷ [])) made).mailbox ≡ []
unfolding opened
crowd_gone = refl
