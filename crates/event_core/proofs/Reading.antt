-- The laws of reading a list of acts: what was emitted stays, and a query that has given some events goes on to the others.
use Rattle.std.proofs.Common.{◌≡◌, ℕ, zero, suc, ◌≤◌, ◌<◌, Bool, true, false, List, [], ◌∷◌, ◌++◌, map, length, take, drop, nat_le, if◌then◌else◌, Option, Some, None, refl, ap, sym, subst, ◌∙◌, append_assoc, append-nil, arith}
use Rattle.std.proofs.lemmas.List.{map-append}
use Rattle.std.proofs.lemmas.Bool.{leb-true, leb-false, le-leb, lt-leb}
use Rattle.event_core.specs.declared.event.Event.{Event}
use Rattle.event_core.specs.declared.event.Event.TheVariants as event
use Rattle.event_core.specs.declared.request.Request.{Request}
use Rattle.event_core.specs.declared.request.Request.TheVariants as request
use Rattle.event_core.specs.declared.fit.Fit.{Fit}
use Rattle.event_core.specs.declared.fit.Fit.TheVariants.{GoesOn, Stops, Misfit}
use Rattle.event_core.specs.declared.rest.Rest.{Rest}
use Rattle.event_core.specs.declared.rest.Rest.TheVariants.{More, Prompting, Over}
use Rattle.event_core.specs.Requests.{kind_of, fit}
use Rattle.event_core.specs.Full.{Spec, Query, part_of, events_of, span, Place, Free, In, Closed, Reading, at, closes, comes_to, gives_all_at, gives_all, gives_at, gives, fitted, asks, starts, consumes_at, consumes, reads}
use Rattle.event_core.specs.Laws.{Begins}
use Rattle.event_core.proofs.Parts.{begins_self, begins_trans}
use Rattle.event_core.proofs.Resting.{rests}

pub begins_more : {A : Type 0} (xs ys zs : List A) → Begins (xs ++ ys) zs → Begins xs zs
begins_more xs ys zs h = begins_trans xs (xs ++ ys) zs (ys, refl) h

-- What was emitted stays

pub closes_grows : (b : Bool) (es : List Event) → Begins es (closes b es).emitted
closes_grows true es = (event.Destroy ∷ [], refl)
closes_grows false es = begins_self es

comes_to_grows : (spec : Spec) (q : Query) (r : Rest) (es : List Event) → Begins es (comes_to spec q r es).emitted
comes_to_grows spec q More es = begins_self es
comes_to_grows spec q Prompting es = begins_self es
comes_to_grows spec q Over es = closes_grows spec.destroys es

pub gives_all_grows : (spec : Spec) (p : Place) (es : List Event) → Begins es (gives_all_at spec p es).emitted
gives_all_grows spec Free es = begins_self es
gives_all_grows spec (In q g) es = begins_more es _ _ (comes_to_grows spec q (part_of spec q).rest (es ++ span spec q g (length (events_of spec q))))
gives_all_grows spec Closed es = begins_self es

fitted_grows : (spec : Spec) (q : Query) (g : ℕ) (r : Request) (f : Fit) (es : List Event) → Begins es (fitted spec q g r f es).emitted
fitted_grows spec q g r GoesOn es = begins_self es
fitted_grows spec q g r Stops es = begins_more es _ _ (closes_grows spec.destroys _)
fitted_grows spec q g r Misfit es = (event.Protocol (kind_of r) ∷ [], refl)

starts_grows : (spec : Spec) (r : Request) (es : List Event) → Begins es (starts spec r es).emitted
starts_grows spec (request.Ask a) es = go (spec.refusal a)
  where
    go : (v : Option _) → Begins es (asks spec a v es).emitted
    go None = begins_self es
    go (Some t) = begins_more es _ _ (closes_grows spec.destroys _)
starts_grows spec (request.Next c) es = (event.Protocol (kind_of (request.Next c)) ∷ [], refl)
starts_grows spec request.Stop es = (event.Protocol (kind_of request.Stop) ∷ [], refl)
starts_grows spec (request.Respond t) es = (event.Protocol (kind_of (request.Respond t)) ∷ [], refl)

pub consumes_grows : (spec : Spec) (r : Request) (p : Place) (es : List Event) → Begins es (consumes_at spec r p es).emitted
consumes_grows spec r Free es = starts_grows spec r es
consumes_grows spec r (In q g) es = fitted_grows spec q g r (fit (part_of spec q).rest r) es
consumes_grows spec r Closed es = begins_self es

pub reads_grows : (spec : Spec) (rs : List Request) (x : Reading) → Begins x.emitted (reads spec rs x).emitted
unfolding reads
reads_grows spec [] x = begins_self x.emitted
reads_grows spec (r ∷ rs) x =
    begins_trans _ _ _ (gives_all_grows spec x.place x.emitted)
    (begins_trans _ _ _ (consumes_grows spec r (gives_all spec x).place (gives_all spec x).emitted) (reads_grows spec rs (consumes spec r (gives_all spec x))))

-- what a query gives now stays where further requests are read
pub reads_all_grows : (spec : Spec) (rs : List Request) (x : Reading) → Begins (gives_all spec x).emitted (gives_all spec (reads spec rs x)).emitted
unfolding reads
reads_all_grows spec [] x = begins_self (gives_all spec x).emitted
reads_all_grows spec (r ∷ rs) x =
    let y : Reading = consumes spec r (gives_all spec x) in
    begins_trans _ _ _ (consumes_grows spec r (gives_all spec x).place (gives_all spec x).emitted)
    (begins_trans _ _ _ (reads_grows spec rs y) (gives_all_grows spec (reads spec rs y).place (reads spec rs y).emitted))

pub reads_append : (spec : Spec) (rs ss : List Request) (x : Reading) → reads spec (rs ++ ss) x ≡ reads spec ss (reads spec rs x)
unfolding reads
reads_append spec [] ss x = refl
reads_append spec (r ∷ rs) ss x = reads_append spec rs ss (consumes spec r (gives_all spec x))

pub reads_one : (spec : Spec) (r : Request) (x : Reading) → reads spec (r ∷ []) x ≡ consumes spec r (gives_all spec x)
unfolding reads
reads_one spec r x = refl

pub reads_none : (spec : Spec) (x : Reading) → reads spec [] x ≡ x
unfolding reads
reads_none spec x = refl

-- past the end nothing is read
pub reads_closed : (spec : Spec) (rs : List Request) (es : List Event) → reads spec rs (at Closed es) ≡ at Closed es
unfolding reads
reads_closed spec [] es = refl
reads_closed spec (r ∷ rs) es = reads_closed spec rs es

-- Spans of events

take_all : {A : Type 0} (n : ℕ) (xs : List A) → drop n (take n xs) ≡ []
take_all zero [] = refl
take_all zero (x ∷ xs) = refl
take_all (suc n) [] = refl
take_all (suc n) (x ∷ xs) = take_all n xs

joined : {A : Type 0} (g e f : ℕ) (xs : List A) → g ≤ e → e ≤ f → drop g (take e xs) ++ drop e (take f xs) ≡ drop g (take f xs)
joined zero zero zero [] h k = refl
joined zero zero zero (x ∷ xs) h k = refl
joined zero zero (suc f) [] h k = refl
joined zero zero (suc f) (x ∷ xs) h k = refl
joined zero (suc e) zero xs h k = absurd (omega arith)
joined zero (suc e) (suc f) [] h k = refl
joined zero (suc e) (suc f) (x ∷ xs) h k = ap (λ l. x ∷ l) (joined zero e f xs (omega arith) (omega arith))
joined (suc g) zero f xs h k = absurd (omega arith)
joined (suc g) (suc e) zero xs h k = absurd (omega arith)
joined (suc g) (suc e) (suc f) [] h k = refl
joined (suc g) (suc e) (suc f) (x ∷ xs) h k = joined g e f xs (omega arith) (omega arith)

pub span_self : (spec : Spec) (q : Query) (n : ℕ) → span spec q n n ≡ []
span_self spec q n = ap (λ xs. map (λ x. x.1) xs) (take_all n (events_of spec q))

pub span_joined : (spec : Spec) (q : Query) (g e f : ℕ) → g ≤ e → e ≤ f → span spec q g e ++ span spec q e f ≡ span spec q g f
span_joined spec q g e f h k =
    sym (map-append (λ x. x.1) (drop g (take e (events_of spec q))) (drop e (take f (events_of spec q))))
    ∙ ap (λ xs. map (λ x. x.1) xs) (joined g e f (events_of spec q) h k)

-- after the first e events of the query come those up to the f-th
spans : (spec : Spec) (q : Query) (g e f : ℕ) (es : List Event) → g ≤ e → e ≤ f → (es ++ span spec q g e) ++ span spec q e f ≡ es ++ span spec q g f
spans spec q g e f es h k = append_assoc es _ _ ∙ ap (λ l. es ++ l) (span_joined spec q g e f h k)

no_span : (spec : Spec) (q : Query) (n : ℕ) (es : List Event) → es ++ span spec q n n ≡ es
no_span spec q n es = ap (λ l. es ++ l) (span_self spec q n) ∙ append-nil es

-- A query goes on

pub gives_some : (spec : Spec) (q : Query) (g e : ℕ) (es : List Event) → e < length (events_of spec q) → gives_at spec e (In q g) es ≡ at (In q e) (es ++ span spec q g e)
gives_some spec q g e es h = ap (λ (b : Bool). if b then gives_all_at spec (In q g) es else at (In q e) (es ++ span spec q g e)) (lt-leb (length (events_of spec q)) e h)

pub gives_whole : (spec : Spec) (q : Query) (g e : ℕ) (es : List Event) → length (events_of spec q) ≤ e → gives_at spec e (In q g) es ≡ gives_all_at spec (In q g) es
gives_whole spec q g e es h = ap (λ (b : Bool). if b then gives_all_at spec (In q g) es else at (In q e) (es ++ span spec q g e)) (le-leb (length (events_of spec q)) e h)

-- a query that has given all its events and rests stays as it is
abbrev pub Rests : Rest → Type 0
Rests More = Unit {0}
Rests Prompting = Unit {0}
Rests Over = ⊥

comes_to_rests : (spec : Spec) (q : Query) (r : Rest) (es : List Event) → Rests r → comes_to spec q r es ≡ at (In q (length (events_of spec q))) es
comes_to_rests spec q More es h = refl
comes_to_rests spec q Prompting es h = refl
comes_to_rests spec q Over es h = absurd h

pub all_stays : (spec : Spec) (q : Query) (es : List Event) → Rests (part_of spec q).rest → gives_all_at spec (In q (length (events_of spec q))) es ≡ at (In q (length (events_of spec q))) es
all_stays spec q es h = comes_to_rests spec q (part_of spec q).rest _ h ∙ ap (λ l. at (In q (length (events_of spec q))) l) (no_span spec q (length (events_of spec q)) es)

pub stays : (spec : Spec) (q : Query) (n : ℕ) (es : List Event) → n < length (events_of spec q) → gives_at spec n (In q n) es ≡ at (In q n) es
stays spec q n es h = gives_some spec q n n es h ∙ ap (λ l. at (In q n) l) (no_span spec q n es)

-- after all the events of the query, it gives no more
gives_twice : (spec : Spec) (q : Query) (r : Rest) (e : ℕ) (es : List Event) → (part_of spec q).rest ≡ r → length (events_of spec q) ≤ e → gives spec e (comes_to spec q r es) ≡ comes_to spec q r es
gives_twice spec q More e es h k = gives_whole spec q _ e es k ∙ all_stays spec q es (subst Rests (sym h) tt)
gives_twice spec q Prompting e es h k = gives_whole spec q _ e es k ∙ all_stays spec q es (subst Rests (sym h) tt)
gives_twice spec q Over e es h k = go spec.destroys
  where
    go : (b : Bool) → gives spec e (closes b es) ≡ closes b es
    go true = refl
    go false = refl

-- a reading in a query has given no more than e events
abbrev pub Below : ℕ → Place → Type 0
Below e Free = Unit {0}
Below e (In q g) = g ≤ e
Below e Closed = Unit {0}

-- a strike at a later event may stop first at an earlier one
pub gives_on : (spec : Spec) (e f : ℕ) (p : Place) (es : List Event) → Below e p → e ≤ f → gives spec f (gives_at spec e p es) ≡ gives_at spec f p es
gives_on spec e f Free es h k = refl
gives_on spec e f (In q g) es h k = go (nat_le (length (events_of spec q)) e) refl
  where
    n : ℕ
    n = length (events_of spec q)

    go : (b : Bool) → nat_le (length (events_of spec q)) e ≡ b → gives spec f (gives_at spec e (In q g) es) ≡ gives_at spec f (In q g) es
    go true w =
        let l : length (events_of spec q) ≤ e = leb-true _ _ w in
        ap (gives spec f) (gives_whole spec q g e es l)
        ∙ gives_twice spec q (part_of spec q).rest f _ refl (omega arith)
        ∙ sym (gives_whole spec q g f es (omega arith))
    go false w =
        let l : e < length (events_of spec q) = leb-false _ _ w in
        ap (gives spec f) (gives_some spec q g e es l) ∙ last (nat_le (length (events_of spec q)) f) refl l
      where
        last : (b : Bool) → nat_le (length (events_of spec q)) f ≡ b → e < length (events_of spec q) → gives_at spec f (In q e) (es ++ span spec q g e) ≡ gives_at spec f (In q g) es
        last true v l =
            let m : length (events_of spec q) ≤ f = leb-true _ _ v in
            gives_whole spec q e f _ m
            ∙ ap (comes_to spec q (part_of spec q).rest) (spans spec q g e (length (events_of spec q)) es h (omega arith))
            ∙ sym (gives_whole spec q g f es m)
        last false v l =
            let m : f < length (events_of spec q) = leb-false _ _ v in
            gives_some spec q e f _ m
            ∙ ap (λ l. at (In q f) l) (spans spec q g e f es h k)
            ∙ sym (gives_some spec q g f es m)
gives_on spec e f Closed es h k = refl

pub all_on : (spec : Spec) (e : ℕ) (p : Place) (es : List Event) → Below e p → gives_all spec (gives_at spec e p es) ≡ gives_all_at spec p es
all_on spec e Free es h = refl
all_on spec e (In q g) es h = go (nat_le (length (events_of spec q)) e) refl
  where
    go : (b : Bool) → nat_le (length (events_of spec q)) e ≡ b → gives_all spec (gives_at spec e (In q g) es) ≡ gives_all_at spec (In q g) es
    go true w = ap (gives_all spec) (gives_whole spec q g e es (leb-true _ _ w)) ∙ rests spec (In q g) es
    go false w =
        let l : e < length (events_of spec q) = leb-false _ _ w in
        ap (gives_all spec) (gives_some spec q g e es l)
        ∙ ap (comes_to spec q (part_of spec q).rest) (spans spec q g e (length (events_of spec q)) es h (omega arith))
all_on spec e Closed es h = refl

-- what the query has given so far begins what it gives
pub gives_grows : (spec : Spec) (e : ℕ) (p : Place) (es : List Event) → Below e p → Begins (gives_at spec e p es).emitted (gives_all_at spec p es).emitted
gives_grows spec e p es h = subst (λ (x : Reading). Begins (gives_at spec e p es).emitted x.emitted) (all_on spec e p es h) (gives_all_grows spec (gives_at spec e p es).place (gives_at spec e p es).emitted)
