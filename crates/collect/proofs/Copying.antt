-- Copies from a number on.
use Rattle.std.proofs.Common.{◌≡◌, ℕ, ◌+◌, ◌<◌, ◌≤◌, length, take, get_or, List, [], ◌∷◌, ◌++◌, refl, ap, sym, ◌∙◌, arith}
use Rattle.std.proofs.lemmas.List.{take_more}
use Rattle.term_core.specs.Tree.{Tree, greatest}
use Rattle.term_core.specs.Variables.{occurrences, above_all, renamed, first_free}
use Rattle.store.proofs.Terms.{map_variables-closed}
use Rattle.builtin_table.specs.Solutions.{copies, after_copies}

-- one copy more, behind the others
pub copies_more : (v : ℕ) (ts : List Tree) (t : Tree) → copies v (ts ++ t ∷ []) ≡ copies v ts ++ renamed (after_copies v ts) t ∷ []
copies_more v [] t = refl
copies_more v (u ∷ ts) t = ap (λ us. renamed v u ∷ us) (copies_more (v + first_free u) ts t)

pub after_more : (v : ℕ) (ts : List Tree) (t : Tree) → after_copies v (ts ++ t ∷ []) ≡ after_copies v ts + first_free t
after_more v [] t = refl
after_more v (u ∷ ts) t = after_more (v + first_free u) ts t

-- how far they reach doesn't depend on where they begin
pub after_from : (v : ℕ) (ts : List Tree) → after_copies v ts ≡ v + after_copies 0 ts
after_from v [] = omega arith
after_from v (t ∷ ts) =
    let here : after_copies (v + first_free t) ts ≡ v + first_free t + after_copies 0 ts = after_from (v + first_free t) ts in
    let there : after_copies (0 + first_free t) ts ≡ 0 + first_free t + after_copies 0 ts = after_from (0 + first_free t) ts in
    let sum : v + first_free t + after_copies 0 ts ≡ v + (0 + first_free t + after_copies 0 ts) = omega arith in
    here ∙ sum ∙ ap (λ (n : ℕ). v + n) (sym there)

-- ---- without variables

none_above : (ns : List ℕ) → above_all ns ≡ 0 → ns ≡ []
none_above [] e = refl
none_above (n ∷ ns) e = absurd (omega arith)

same_anywhere : (v : ℕ) (t : Tree) → first_free t ≡ 0 → renamed v t ≡ renamed 0 t
same_anywhere v t e =
    let none = none_above (occurrences t) e in
    map_variables-closed (λ n. n + v) t none ∙ sym (map_variables-closed (λ n. n + 0) t none)

none_after : (t : Tree) (ts : List Tree) → after_copies 0 (t ∷ ts) ≡ 0 → (first_free t ≡ 0) × (after_copies 0 ts ≡ 0)
none_after t ts e =
    let there : after_copies (0 + first_free t) ts ≡ 0 + first_free t + after_copies 0 ts = after_from (0 + first_free t) ts in
    let none : 0 + first_free t + after_copies 0 ts ≡ 0 = sym there ∙ e in
    (omega (arith, none), omega (arith, none))

-- such copies are the same wherever they begin, and take no number
pub copies_anywhere : (v : ℕ) (ts : List Tree) → after_copies 0 ts ≡ 0 → copies 0 ts ≡ copies v ts
copies_anywhere v [] e = refl
copies_anywhere v (t ∷ ts) e =
    let none = none_after t ts e in
    let there = copies_anywhere (v + first_free t) ts none.1 in
    let here = copies_anywhere (0 + first_free t) ts none.1 in
    let one = same_anywhere v t none.0 in
    (λ i. sym one i ∷ (sym here ∙ there) i)

pub after_none : (v : ℕ) (ts : List Tree) → after_copies 0 ts ≡ 0 → v ≡ after_copies v ts
after_none v ts e = omega (arith, e, after_from v ts)

-- ---- numbers that fit

pub greatest_le : (ns : List ℕ) → greatest ns ≤ above_all ns
greatest_le [] = omega arith
greatest_le (n ∷ ns) = omega (arith, greatest_le ns)

-- one term more of those that are taken from the left
pub after_taken : (v : ℕ) (ts : List Tree) (i : ℕ) (t : Tree) → i < length ts → t ≡ get_or ts i t → after_copies v (take (i + 1) ts) ≡ after_copies v (take i ts) + first_free t
after_taken v ts i t l e =
    ap (after_copies v) (take_more ts i t l ∙ ap (λ (u : Tree). take i ts ++ u ∷ []) (sym e)) ∙ after_more v (take i ts) t

pub copies_taken : (v : ℕ) (ts : List Tree) (i : ℕ) (t : Tree) → i < length ts → t ≡ get_or ts i t → copies v (take (i + 1) ts) ≡ copies v (take i ts) ++ renamed (after_copies v (take i ts)) t ∷ []
copies_taken v ts i t l e =
    ap (copies v) (take_more ts i t l ∙ ap (λ (u : Tree). take i ts ++ u ∷ []) (sym e)) ∙ copies_more v (take i ts) t
