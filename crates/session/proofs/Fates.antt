-- What becomes of a turn that is out: it stays the one that is out until an abort or a destroy, and is lost from then on.
use Rattle.std.proofs.Common.{◌≡◌, ℕ, zero, suc, ◌-◌, Bool, true, false, ◌&&◌, ◌||◌, List, [], ◌∷◌, length, nat_lt, ◌==◌, if◌then◌else◌, Option, Some, None, ◌⊎◌, inl, inr, refl, ap, sym, ◌∙◌, eq-eqb, arith}
use Rattle.event_core.specs.Full.{Spec, Query}
use Rattle.session.specs.After.{Running, Pengine, waiting, first_consumed, consumes_now, settled, Entry, Sent, Pulled, Abort, Destroy, Taken, Given, losing, without, entered, after_entry, after, most_waiting}
use Rattle.session.specs.Legal.{TurnsAt, Holds, IsAllowed, IsLegal}
use Rattle.session.proofs.Growing.{entry_loses, lost_after}

-- whether one of them is so
abbrev pub some : {A : Type 0} → (A → Bool) → List A → Bool
some f [] = false
some f (x ∷ xs) = f x || some f xs

-- whether the entry breaks the query off
abbrev pub breaks : Entry → Bool
breaks Abort = true
breaks Destroy = true
breaks e = false

-- whether the entry gives a turn of the query k back
abbrev pub returns : ℕ → Entry → Bool
returns k (Given j n e starved kept) = j == k
returns k e = false

-- The turn of the query q, with the number k, is out.
pub record IsOut (q : Query) (k room n e : ℕ) (p : Pengine) : Type 0 where
  pub state : p.state ≡ Running q
  pub turn : p.turn ≡ Some room
  pub number : p.number ≡ k
  pub steps : p.steps ≡ n
  pub events : p.events ≡ e

abbrev pub Fate : (broken : Bool) → Query → (k room n e : ℕ) → Pengine → Type 0
Fate true q k room n e p = Holds k p.lost
Fate false q k room n e p = IsOut q k room n e p

pub still : (spec : Spec) (n : ℕ) (p : Pengine) → consumes_now p.state ≡ false → settled spec n p ≡ p
unfolding settled
still spec zero p h = refl
still spec (suc n) p h = go (consumes_now p.state) h
  where
    go : (b : Bool) → b ≡ false → elim (b && nat_lt (waiting p) most_waiting) as (λ z. Pengine) [ true ↦ settled spec n (first_consumed spec p.mailbox p) | false ↦ p ] ≡ p
    go true h = cc
    go false h = refl

runs_still : (spec : Spec) (q : Query) (p r : Pengine) → p.state ≡ Running q → r.state ≡ p.state → settled spec (length r.mailbox) r ≡ r
runs_still spec q p r h g = still spec (length r.mailbox) r (ap consumes_now (g ∙ h))

out_as : (q : Query) (k room n e : ℕ) (p r : Pengine) → r ≡ p → IsOut q k room n e p → IsOut q k room n e r
out_as q k room n e p r h o = rw h o

pub out_entry : (spec : Spec) (budget : ℕ) (q : Query) (k room n e : ℕ) (f : Entry) (p : Pengine) → IsOut q k room n e p → IsAllowed spec budget f p → returns k f ≡ false → breaks f ≡ false → IsOut q k room n e (after_entry spec f p)
out_entry spec budget q k room n e (Sent r) p o a b c =
    out_as q k room n e (entered spec (Sent r) p) _ (runs_still spec q p (entered spec (Sent r) p) o.state refl) (record { state = o.state; turn = o.turn; number = o.number; steps = o.steps; events = o.events })
out_entry spec budget q k room n e (Pulled m) p o a b c =
    out_as q k room n e (entered spec (Pulled m) p) _ (runs_still spec q p (entered spec (Pulled m) p) o.state refl) (record { state = o.state; turn = o.turn; number = o.number; steps = o.steps; events = o.events })
out_entry spec budget q k room n e Abort p o a b c = cc
out_entry spec budget q k room n e Destroy p o a b c = cc
out_entry spec budget q k room n e Taken p o a b c = absurd (two_turns p.turn o.turn a.1)
  where
    two_turns : (t : Option ℕ) → t ≡ Some room → t ≡ None → ⊥
    two_turns t g h = let w : Some room ≡ None = sym g ∙ h in cc
out_entry spec budget q k room n e (Given j m f starved false) p o a b c =
    out_as q k room n e (entered spec (Given j m f starved false) p) _ (runs_still spec q p (entered spec (Given j m f starved false) p) o.state refl) (record { state = o.state; turn = o.turn; number = o.number; steps = o.steps; events = o.events })
out_entry spec budget q k room n e (Given j m f starved true) p o a b c = let w : (j == k) ≡ true = eq-eqb j k (a.0 ∙ o.number) in absurd (apart (j == k) b w)
  where
    apart : (x : Bool) → x ≡ false → x ≡ true → ⊥
    apart x g h = cc

-- a turn that is lost stays so until it is given back

more_lost : (t : Option ℕ) (n k : ℕ) (ks : List ℕ) → Holds k ks → Holds k (losing t n ks)
unfolding Holds
more_lost None n k ks h = h
more_lost (Some room) n k ks h = inr h

now_lost : (t : Option ℕ) (room n k : ℕ) (ks : List ℕ) → t ≡ Some room → n ≡ k → Holds k (losing t n ks)
unfolding Holds
now_lost None room n k ks h g = cc
now_lost (Some r) room n k ks h g = inl g

without_other : (j k : ℕ) (ks : List ℕ) → (j == k) ≡ false → Holds k ks → Holds k (without j ks)
unfolding Holds
without_other j k [] d h = h
without_other j k (n ∷ ns) d h = go (n == j) refl h (without_other j k ns d)
  where
    go : (b : Bool) → (n == j) ≡ b → (n ≡ k) ⊎ Holds k ns → (Holds k ns → Holds k (without j ns)) → Holds k (if b then ns else (n ∷ without j ns))
    go true w (inl x) ih = absurd (grind (arith, w, x, d))
    go true w (inr x) ih = x
    go false w (inl x) ih = inl x
    go false w (inr x) ih = inr (ih x)

pub lost_entry : (spec : Spec) (k : ℕ) (f : Entry) (p : Pengine) → Holds k p.lost → returns k f ≡ false → Holds k (after_entry spec f p).lost
lost_entry spec k f p h r = rw (entry_loses spec f p) (go f r)
  where
    go : (f : Entry) → returns k f ≡ false → Holds k (lost_after f p)
    go (Sent x) r = h
    go (Pulled m) r = h
    go Abort r = more_lost p.turn p.number k p.lost h
    go Destroy r = more_lost p.turn p.number k p.lost h
    go Taken r = h
    go (Given j n e starved false) r = without_other j k p.lost r h
    go (Given j n e starved true) r = h

pub broken_entry : (spec : Spec) (q : Query) (k room n e : ℕ) (f : Entry) (p : Pengine) → IsOut q k room n e p → breaks f ≡ true → Holds k (after_entry spec f p).lost
broken_entry spec q k room n e f p o b = rw (entry_loses spec f p) (go f b)
  where
    go : (f : Entry) → breaks f ≡ true → Holds k (lost_after f p)
    go Abort r = now_lost p.turn room p.number k p.lost o.turn o.number
    go Destroy r = now_lost p.turn room p.number k p.lost o.turn o.number
    go (Sent x) r = cc
    go (Pulled m) r = cc
    go Taken r = cc
    go (Given j n e starved kept) r = cc

lost_stays : (spec : Spec) (k : ℕ) (fs : List Entry) (p : Pengine) → Holds k p.lost → some (returns k) fs ≡ false → Holds k (after spec fs p).lost
unfolding after
lost_stays spec k [] p h r = h
lost_stays spec k (f ∷ fs) p h r = go (returns k f) refl r (lost_stays spec k fs (after_entry spec f p))
  where
    go : (b : Bool) → returns k f ≡ b → b || some (returns k) fs ≡ false → (Holds k (after_entry spec f p).lost → some (returns k) fs ≡ false → Holds k (after spec fs (after_entry spec f p)).lost) → Holds k (after spec fs (after_entry spec f p)).lost
    go true w x ih = cc
    go false w x ih = ih (lost_entry spec k f p h w) x

-- the fate of a turn through a list of entries that doesn't give it back
pub fate : (spec : Spec) (budget : ℕ) (q : Query) (k room n e : ℕ) (fs : List Entry) (p : Pengine) → IsLegal spec budget fs p → IsOut q k room n e p → some (returns k) fs ≡ false → Fate (some breaks fs) q k room n e (after spec fs p)
unfolding IsLegal after
fate spec budget q k room n e [] p l o r = o
fate spec budget q k room n e (f ∷ fs) p l o r = go (returns k f) refl (breaks f) refl r (fate spec budget q k room n e fs (after_entry spec f p) l.1)
  where
    go : (b : Bool) → returns k f ≡ b → (c : Bool) → breaks f ≡ c → b || some (returns k) fs ≡ false → (IsOut q k room n e (after_entry spec f p) → some (returns k) fs ≡ false → Fate (some breaks fs) q k room n e (after spec fs (after_entry spec f p))) → Fate (c || some breaks fs) q k room n e (after spec fs (after_entry spec f p))
    go true w c v x ih = cc
    go false w true v x ih = lost_stays spec k fs (after_entry spec f p) (broken_entry spec q k room n e f p o v) x
    go false w false v x ih = ih (out_entry spec budget q k room n e f p o l.0 w v) x

-- a turn that was just taken
pub taken_out : (spec : Spec) (q : Query) (p : Pengine) → p.state ≡ Running q → IsOut q p.number (most_waiting - waiting p) p.steps p.events (after_entry spec Taken p)
taken_out spec q p h = out_as q p.number (most_waiting - waiting p) p.steps p.events (entered spec Taken p) _ (runs_still spec q p (entered spec Taken p) h refl) (record { state = h; turn = refl; number = refl; steps = refl; events = refl })

-- it may be given back as one that is kept or dropped
pub allowed_back : (spec : Spec) (budget : ℕ) (broken : Bool) (q : Query) (k room n e steps events : ℕ) (starved : Bool) (b p : Pengine) → Fate broken q k room n e p → b.steps ≡ n → b.events ≡ e → TurnsAt spec budget (Running q) (Some room) b steps events starved → (kept : Bool) → kept ≡ Rattle.std.specs.Prelude.not broken → IsAllowed spec budget (Given k steps events starved kept) p
allowed_back spec budget true q k room n e steps events starved b p f x y t true h = cc
allowed_back spec budget true q k room n e steps events starved b p f x y t false h = f
allowed_back spec budget false q k room n e steps events starved b p f x y t true h = (sym f.number, rw (f.state, f.turn, f.steps ∙ sym x, f.events ∙ sym y) t)
allowed_back spec budget false q k room n e steps events starved b p f x y t false h = cc
