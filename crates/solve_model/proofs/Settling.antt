-- Whether a goal that would talk with its client is a call instead.
use Rattle.std.proofs.Common.{◌≡◌, Bool, true, false, ◌&&◌, if◌then◌else◌, refl, subst}
use Rattle.term_core.specs.declared.pi.Pi.{Pi}
use Rattle.term_core.specs.Tree.{Tree}
use Rattle.solve_model.specs.Goals.{Row, Predicate, indicator_of, settled, talks}

pub settled_silent : (out : Pi → Bool) (t : Tree) (r s : Row) → s ≡ r → talks s ≡ false → s ≡ settled out t r
unfolding settled
settled_silent out t r s e h = subst (λ (x : Row). s ≡ settled out t x) e (rw h refl)

pub settled_inside : (out : Pi → Bool) (t : Tree) (r s : Row) → s ≡ r → out (indicator_of t) ≡ false → s ≡ settled out t r
unfolding settled
settled_inside out t r s e h = subst (λ (x : Row). s ≡ settled out t x) e (rw h (at (talks s)))
  where
    at : (b : Bool) → s ≡ (if b && false then Predicate (indicator_of t) t else s)
    at true = refl
    at false = refl

pub settled_outside : (out : Pi → Bool) (t : Tree) (r s : Row) → s ≡ r → talks s ≡ true → out (indicator_of t) ≡ true → Predicate (indicator_of t) t ≡ settled out t r
unfolding settled
settled_outside out t r s e h k = subst (λ (x : Row). Predicate (indicator_of t) t ≡ settled out t x) e (rw (h, k) refl)
