-- Each tree of a heap is a term's.
use Rattle.std.proofs.Common.{◌≡◌, ℕ, ◌+◌, ℤ, List, [], ◌∷◌, ◌++◌, drop, map, refl, ap, ◌∙◌, sym, arith}
use Rattle.std.specs.List.{All}
use Rattle.std.proofs.lemmas.List.Elements.{All-nil, All-push, All-take, All-drop}
use Rattle.term_core.specs.Tree.{Tree, variable, integer, atom, compound, Trees, no_trees, tree, trees_of, arity, IsTerm}
use Rattle.term_core.specs.Variables.{occurrences, all_occurrences, distinct_after, variables, map_variables, map_all_variables, renamed, numbered, above_all, first_free}
use Rattle.term_core.specs.Substitution.{all_substituted, value_of, apply}
use Rattle.term_core.proofs.Lists.{arity-trees_of, AreTerms-trees_of}
use Rattle.store.specs.declared.word.Word.{Word}
use Rattle.store.specs.declared.word.Shape.{Shape}
use Rattle.store.specs.declared.word.Shape.TheVariants.{Var, Int, Large, Atom, Comp}
use Rattle.store.specs.declared.heap.Heap.{Heap}
use Rattle.store.specs.Words.{shape_of}
use Rattle.store.specs.Heap.{Known, block, shape_tree, IsShape, word_tree, IsWord, with_trees, spell, AreWords, known_of, IsHeap}
use Rattle.std.proofs.lemmas.List.{length-take-le, length-drop, map-append}

IsTerm-shape : (k : Known) (s : Shape) → All IsTerm k.trees → IsShape k s → IsTerm (shape_tree k s)
IsTerm-shape k (Var n) a h = tt
IsTerm-shape k (Int z) a h = tt
IsTerm-shape k (Large i) a h = tt
IsTerm-shape k (Atom i) a h = tt
IsTerm-shape k (Comp name count first closed) a h =
    let size : arity (trees_of (block k first count)) ≡ count = arity-trees_of (block k first count) ∙ length-take-le count (drop first k.trees) (omega (arith, length-drop first k.trees, h.within)) in
    (omega (arith, size, h.some), omega (arith, size, h.few), AreTerms-trees_of (block k first count) (All-take IsTerm count (drop first k.trees) (All-drop IsTerm first k.trees a)))

module _ (names : List (List ℕ)) (large : List ℤ) where
  are_terms : (ts : List Tree) (ws : List Word) → All IsTerm ts → AreWords names large ts ws → All IsTerm (spell names large ts ws)
  are_terms ts [] a h = a
  are_terms ts (w ∷ ws) a h =
      are_terms (ts ++ word_tree (with_trees names large ts) w ∷ []) ws
      (All-push IsTerm ts (word_tree (with_trees names large ts) w) a (IsTerm-shape (with_trees names large ts) (shape_of w) a h.0)) h.1

pub heap_terms : (h : Heap) → IsHeap h → All IsTerm (known_of h).trees
heap_terms h is = are_terms h.names.items h.large.items [] h.words.items (All-nil IsTerm) is.words

pub word_term : (h : Heap) → IsHeap h → (w : Word) → IsWord (known_of h) w → IsTerm (word_tree (known_of h) w)
word_term h is w p = IsTerm-shape (known_of h) (shape_of w) (heap_terms h is) p

-- ---- a term without variables

nothing_left : (xs ys : List ℕ) → xs ++ ys ≡ [] → (xs ≡ []) × (ys ≡ [])
nothing_left [] ys e = (refl, e)
nothing_left (x ∷ xs) ys e = absurd (cc)

mutual
  pub map_variables-closed : (f : ℕ → ℕ) (t : Tree) → occurrences t ≡ [] → map_variables f t ≡ t
  map_variables-closed f (variable n) e = absurd (cc)
  map_variables-closed f (integer z) e = refl
  map_variables-closed f (atom a) e = refl
  map_variables-closed f (compound g ts) e = ap (compound g) (map_all_variables-closed f ts e)

  map_all_variables-closed : (f : ℕ → ℕ) (ts : Trees) → all_occurrences ts ≡ [] → map_all_variables f ts ≡ ts
  map_all_variables-closed f no_trees e = refl
  map_all_variables-closed f (tree t ts) e =
      let both = nothing_left (occurrences t) (all_occurrences ts) e in
      (λ i. tree (map_variables-closed f t both.0 i) (map_all_variables-closed f ts both.1 i))

pub copy-closed : (base : ℕ) (t : Tree) → occurrences t ≡ [] → t ≡ renamed base (numbered t)
copy-closed base t e =
    let same = map_variables-closed _ t e in
    sym (ap (renamed base) same ∙ map_variables-closed (λ n. n + base) t e)

pub no_variables : (t : Tree) → occurrences t ≡ [] → variables t ≡ []
no_variables t e = ap (distinct_after []) e

-- ---- no bindings

mutual
  pub apply-nil : (t : Tree) → apply [] t ≡ t
  apply-nil (variable n) = refl
  apply-nil (integer z) = refl
  apply-nil (atom a) = refl
  apply-nil (compound f ts) = ap (compound f) (apply_all-nil ts)

  apply_all-nil : (ts : Trees) → all_substituted (value_of []) ts ≡ ts
  apply_all-nil no_trees = refl
  apply_all-nil (tree t ts) = (λ i. tree (apply-nil t i) (apply_all-nil ts i))

-- ---- the first number above those of a renamed term

mutual
  occurrences-map : (f : ℕ → ℕ) (t : Tree) → occurrences (map_variables f t) ≡ map f (occurrences t)
  occurrences-map f (variable n) = refl
  occurrences-map f (integer z) = refl
  occurrences-map f (atom a) = refl
  occurrences-map f (compound g ts) = all_occurrences-map f ts

  all_occurrences-map : (f : ℕ → ℕ) (ts : Trees) → all_occurrences (map_all_variables f ts) ≡ map f (all_occurrences ts)
  all_occurrences-map f no_trees = refl
  all_occurrences-map f (tree t ts) =
      (λ i. occurrences-map f t i ++ all_occurrences-map f ts i) ∙ sym (map-append f (occurrences t) (all_occurrences ts))

above_none : (ns : List ℕ) → above_all ns ≡ 0 → ns ≡ []
above_none [] e = refl
above_none (n ∷ ns) e = absurd (omega arith)

above_some : (base n : ℕ) (ns : List ℕ) → above_all (map (λ m. m + base) (n ∷ ns)) ≡ above_all (n ∷ ns) + base
above_some base n [] = omega arith
above_some base n (m ∷ ns) = omega (arith, above_some base m ns)

pub first_free-none : (base : ℕ) (t : Tree) → first_free t ≡ 0 → 0 ≡ first_free (renamed base t)
first_free-none base t e =
    sym (ap above_all (occurrences-map (λ m. m + base) t ∙ ap (map (λ m. m + base)) (above_none (occurrences t) e)))

some_above : (base : ℕ) (ns : List ℕ) → (above_all ns ≡ 0 → ⊥) → above_all ns + base ≡ above_all (map (λ m. m + base) ns)
some_above base [] h = absurd (h refl)
some_above base (n ∷ ns) h = sym (above_some base n ns)

pub first_free-some : (base : ℕ) (t : Tree) → (first_free t ≡ 0 → ⊥) → first_free t + base ≡ first_free (renamed base t)
first_free-some base t h = some_above base (occurrences t) h ∙ sym (ap above_all (occurrences-map (λ m. m + base) t))
