-- What was emitted stays, also where something strikes and over a whole list of acts.
use Rattle.std.proofs.Common.{ℕ, ◌-◌, Bool, true, false, List, [], ◌∷◌, ◌++◌, length, take, drop, nat_le, if◌then◌else◌, refl}
use Rattle.event_core.specs.declared.event.Event.{Event}
use Rattle.event_core.specs.declared.request.Request.{Request}
use Rattle.event_core.specs.Full.{Spec, events_of, span, Place, Free, In, Closed, Reading, gives_all_at, gives_at, gives, reads, Strike, ByAbort, ByDestroy, ByWant, Act, Sends, Struck, strikes_at, strikes, left, full_from}
use Rattle.event_core.specs.Laws.{Begins}
use Rattle.event_core.proofs.Parts.{begins_self, begins_trans}
use Rattle.event_core.proofs.Reading.{begins_more, closes_grows, gives_all_grows, reads_grows}

pub some_grows : (spec : Spec) (e : ℕ) (p : Place) (es : List Event) → Begins es (gives_at spec e p es).emitted
some_grows spec e Free es = begins_self es
some_grows spec e (In q g) es = go (nat_le (length (events_of spec q)) e)
  where
    go : (b : Bool) → Begins es (if b then gives_all_at spec (In q g) es else record { place = In q e; emitted = es ++ span spec q g e }).emitted
    go true = gives_all_grows spec (In q g) es
    go false = (span spec q g e, refl)
some_grows spec e Closed es = begins_self es

pub strikes_grows : (spec : Spec) (k : Strike) (p : Place) (es : List Event) → Begins es (strikes_at spec k p es).emitted
strikes_grows spec ByAbort Free es = begins_self es
strikes_grows spec ByAbort (In q g) es = begins_more es _ _ (closes_grows spec.destroys _)
strikes_grows spec ByAbort Closed es = begins_self es
strikes_grows spec ByDestroy Free es = closes_grows true es
strikes_grows spec ByDestroy (In q g) es = closes_grows true es
strikes_grows spec ByDestroy Closed es = begins_self es
strikes_grows spec ByWant Free es = begins_self es
strikes_grows spec ByWant (In q g) es = begins_more es _ _ (closes_grows spec.destroys _)
strikes_grows spec ByWant Closed es = begins_self es

pub full_grows : (spec : Spec) (xs : List Act) (rs : List Request) (c : ℕ) (x : Reading) → Begins x.emitted (full_from spec xs rs c x)
unfolding full_from
full_grows spec [] rs c x =
    let y : Reading = reads spec rs x in
    begins_trans _ _ _ (reads_grows spec rs x) (gives_all_grows spec y.place y.emitted)
full_grows spec (Sends r ∷ xs) rs c x = full_grows spec xs (rs ++ r ∷ []) c x
full_grows spec (Struck k n s e ∷ xs) rs c x =
    let y : Reading = reads spec (take (n - c) rs) x in
    let z : Reading = gives spec e y in
    begins_trans _ _ _ (reads_grows spec (take (n - c) rs) x)
    (begins_trans _ _ _ (some_grows spec e y.place y.emitted)
    (begins_trans _ _ _ (strikes_grows spec k z.place z.emitted) (full_grows spec xs (left k (drop (n - c) rs)) n (strikes spec k z))))
