-- Stops that go on to an end, or to a prompt for which no reply is left.
use Rattle.std.specs.Prelude.{ℕ, zero, suc, true, false, List, [], ◌∷◌}
use Rattle.event_core.specs.declared.stop.Stop.{Stop}
use Rattle.event_core.specs.declared.stop.Stop.TheVariants.{Found, Output, Prompt, NoMore, Ball, Limit, Outside}

-- a prompt, where j replies are left
abbrev pub at_reply : ℕ → (ℕ → Type 0) → Type 0
at_reply zero K = Unit {0}
at_reply (suc j) K = K j

-- K holds of the replies that are left behind a stop, unless nothing is read behind it; X is what holds where the query reaches outside
abbrev pub AfterStop : (X : Type 0) → Stop → ℕ → (ℕ → Type 0) → Type 0
AfterStop X (Found t true) j K = K j
AfterStop X (Found t false) j K = Unit {0}
AfterStop X (Output t) j K = K j
AfterStop X (Prompt t) j K = at_reply j K
AfterStop X NoMore j K = Unit {0}
AfterStop X (Ball b) j K = Unit {0}
AfterStop X Limit j K = Unit {0}
AfterStop X (Outside i) j K = X

-- where there are j replies
unfoldable pub HasEnd : (X : Type 0) → List (ℕ × Stop) → ℕ → Type 0
HasEnd X [] j = ⊥
HasEnd X (p ∷ ps) j = AfterStop X p.1 j (HasEnd X ps)
