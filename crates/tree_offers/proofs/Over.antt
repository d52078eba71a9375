-- Outcomes whose results' pairs each begin with one of the arguments.
use Rattle.std.proofs.Common.{◌≡◌, ℕ, ◌<◌, Bool, true, false, if◌then◌else◌, List, [], ◌∷◌, ◌++◌, length, get_or, map, Option, Some, None, bytes_eq, refl, sym, subst, arith}
use Rattle.std.specs.List.{All, Contains, flat_map}
use Rattle.std.specs.Cmp.Lexicographic.{bytes_decides}
use Rattle.std.proofs.lemmas.List.Elements.{All-cons, All-nil, All-append, All-map}
use Rattle.term_core.specs.Tree.{Tree}
use Rattle.builtin_table.specs.Outcomes.{Outcome, Ball, Offer, offer, unifies, fails, tested}
use Rattle.tree_offers.specs.Results.{BeginsWith, IsOver}
use Rattle.tree_offers.specs.Outcomes.{AreOver}

pub record Over (ts : List Tree) (o : Outcome) : Type 0 where
  pub over : AreOver ts o

pub pair_before : (ts : List Tree) (t u : Tree) (ps : List (Tree × Tree)) → Contains ts t → All (BeginsWith ts) ps → All (BeginsWith ts) ((t, u) ∷ ps)
pair_before ts t u ps c a = All-cons (BeginsWith ts) (t, u) ps c a

pub each_over : {A : Type 0} (ts : List Tree) (f : A → Offer) (xs : List A) → ((x : A) → IsOver ts (f x)) → All (IsOver ts) (map f xs)
each_over ts f xs h = All-map (IsOver ts) f xs (λ i d l. h _)

pub all_over : {A : Type 0} (ts : List Tree) (f : A → List Offer) (xs : List A) → ((x : A) → All (IsOver ts) (f x)) → All (IsOver ts) (flat_map f xs)
all_over ts f [] h = All-nil (IsOver ts)
all_over ts f (x ∷ xs) h = All-append (IsOver ts) (f x) (flat_map f xs) (h x) (all_over ts f xs h)

module _ {ts : List Tree} where
  pub ball_over : {b : Tree} → Over ts (Ball b)
  ball_over = record { over = tt }

  pub fails_over : Over ts fails
  fails_over = record { over = All-nil (IsOver ts) }

  pub one_over : (ps : List (Tree × Tree)) (n : ℕ) → All (BeginsWith ts) ps → Over ts (offer ps n)
  one_over ps n a = record { over = All-cons (IsOver ts) (record { pairs = ps; fresh = n }) [] a (All-nil (IsOver ts)) }

  pub unifies_over : (t u : Tree) → Contains ts t → Over ts (unifies t u)
  unifies_over t u c = one_over ((t, u) ∷ []) 0 (pair_before ts t u [] c (All-nil (BeginsWith ts)))

  pub tested_over : (b : Bool) → Over ts (tested b)
  tested_over true = one_over [] 0 (All-nil (BeginsWith ts))
  tested_over false = fails_over

  pub chosen : (b : Bool) {x y : Outcome} → Over ts x → Over ts y → Over ts (if b then x else y)
  chosen true h k = h
  chosen false h k = k

  pub option_over : {A : Type 0} (o : Option A) (f : A → Outcome) (y : Outcome) → ((a : A) → Over ts (f a)) → Over ts y → Over ts (elim o [ Some a ↦ f a | None ↦ y ])
  option_over (Some a) f y h k = h a
  option_over None f y h k = k

-- the term at this place is one of them
pub at : (t : Tree) (us vs : List Tree) → Contains (us ++ t ∷ vs) t
at t us vs = (length us, at_within us, at_is us) where
  at_within : (ws : List Tree) → length ws < length (ws ++ t ∷ vs)
  at_within [] = omega arith
  at_within (w ∷ ws) = omega (arith, at_within ws)

  at_is : (ws : List Tree) → get_or (ws ++ t ∷ vs) (length ws) t ≡ t
  at_is [] = refl
  at_is (w ∷ ws) = at_is ws

-- what holds of a name holds of each text that is the name
pub named : (P : List ℕ → Type 0) (f n : List ℕ) → bytes_eq f n ≡ true → P n → P f
named P f n e h = subst P (sym ((bytes_decides f n).0 e)) h
