-- Laws of the most general unifier.
use Rattle.std.specs.Prelude.{◌≡◌, ℕ, [], Option, Some, None, ⊤, option_map}
use Rattle.std.specs.List.{All}
use Rattle.std.specs.List.Sorted.{IsPermutation}
use Rattle.term_core.specs.Tree.{Tree}
use Rattle.term_core.specs.Substitution.{substituted, value_of, pairs_substituted, followed_by}
use Rattle.term_core.specs.Unifier.{Pairs, Pointwise, mgu}

-- g makes the two terms of each pair one
abbrev pub Unifies : (ℕ → Tree) → Pairs → Type 0
Unifies g ps = All (λ p. substituted g p.0 ≡ substituted g p.1) ps

-- h is g, and then h again
abbrev pub GoesThrough : (ℕ → Tree) → (ℕ → Tree) → Type 0
GoesThrough h g = (n : ℕ) → substituted h (g n) ≡ h n

-- The most general unifier makes the two terms of each pair one.
abbrev pub SolvesItsPairs : Type 0
SolvesItsPairs = (ps : Pairs) (c : Pointwise) → mgu ps [] ≡ Some c → Unifies (value_of c) ps

-- Pairs that have a unifier have a most general one, and every unifier of the pairs goes through it.
abbrev pub IsMostGeneral : Type 0
IsMostGeneral =
    (ps : Pairs) (h : ℕ → Tree) → Unifies h ps → (c : Pointwise) × (mgu ps [] ≡ Some c) × GoesThrough h (value_of c)

-- Applied twice, the most general unifier is as applied once.
abbrev pub IsIdempotent : Type 0
IsIdempotent = (ps : Pairs) (c : Pointwise) → mgu ps [] ≡ Some c → GoesThrough (value_of c) (value_of c)

-- both are none, or the same map
abbrev pub AreTheSameMap : Option Pointwise → Option Pointwise → Type 0
AreTheSameMap None None = ⊤
AreTheSameMap None (Some d) = ⊥
AreTheSameMap (Some c) None = ⊥
AreTheSameMap (Some c) (Some d) = (n : ℕ) → value_of c n ≡ value_of d n

-- As a map the most general unifier is the same for every order of the pairs.
abbrev pub OrderDoesntMatter : Type 0
OrderDoesntMatter = (ps qs : Pairs) → IsPermutation ps qs → AreTheSameMap (mgu ps []) (mgu qs [])

-- Pairs under a substitution are solved by it and then the most general unifier of what it makes of them.
abbrev pub FollowsWhatIsGiven : Type 0
FollowsWhatIsGiven =
    (ps : Pairs) (s : Pointwise) → mgu ps s ≡ option_map (followed_by s) (mgu (pairs_substituted (value_of s) ps) [])
