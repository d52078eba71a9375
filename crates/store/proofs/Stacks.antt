-- Words that wait for their compound, the last one first.
use Rattle.std.proofs.Common.{◌≡◌, ℕ, zero, suc, ◌+◌, ◌-◌, ◌<◌, ◌≤◌, Bool, true, Some, List, [], ◌∷◌, ◌++◌, length, take, drop, map, reverse, refl, ap, ◌∙◌, sym, subst, append_assoc, length-append, arith}
use native.Mathlib.Numerals.{unary_clauses}
use Rattle.std.proofs.lemmas.List.{reverse-append, drop-map, length-reverse, length-map, take_all, drop-drop, length-take-le, drop_at, get_or-reverse}
use Rattle.std.specs.List.{flat_map, All}
use Rattle.std.proofs.lemmas.List.Concat.{flat_map-append}
use Rattle.std.proofs.lemmas.List.Elements.{All-push, All-pop, All-from_get_or, All-get_or}
use Rattle.term_core.specs.Tree.{Tree, compound, trees_of}
use Rattle.term_core.specs.Variables.{occurrences, all_occurrences}
use Rattle.store.specs.declared.word.Word.{Word}
use Rattle.store.specs.declared.word.Shape.{Shape}
use Rattle.store.specs.declared.word.Shape.TheVariants.{Var, Int, Large, Atom, Comp}
use Rattle.store.specs.Words.{shape_of, is_closed_shape}
use Rattle.store.specs.Heap.{Known, name_at, block, shape_tree, IsShape, word_tree, IsWord, HasTree, trees_on, Grows, gathered, Lays}
use Rattle.store.proofs.Growing.{length-begins, get_or-begins, shape_tree-grows, IsShape-grows, All-grows}

pub reverse-push : {A : Type 0} (xs : List A) (x : A) → reverse (xs ++ x ∷ []) ≡ x ∷ reverse xs
reverse-push xs x = reverse-append xs (x ∷ [])

pub trees_on-push : (k : Known) (ws : List Word) (w : Word) → trees_on k (ws ++ w ∷ []) ≡ word_tree k w ∷ trees_on k ws
trees_on-push k ws w = ap (map (word_tree k)) (reverse-push ws w)

pub all_occurrences-trees_of : (ts : List Tree) → all_occurrences (trees_of ts) ≡ flat_map occurrences ts
all_occurrences-trees_of [] = refl
all_occurrences-trees_of (t ∷ ts) = ap (λ ns. occurrences t ++ ns) (all_occurrences-trees_of ts)

-- a word that is marked as closed stands for a tree without variables
pub closed_shape : (k : Known) (s : Shape) → IsShape k s → is_closed_shape s ≡ true → occurrences (shape_tree k s) ≡ []
closed_shape k (Var n) h e = cc
closed_shape k (Int z) h e = refl
closed_shape k (Large i) h e = refl
closed_shape k (Atom i) h e = refl
closed_shape k (Comp name count first closed) h e = all_occurrences-trees_of (block k first count) ∙ h.closed_is e

-- known words stand for the same trees when more is known
map-grows : (k m : Known) → Grows k m → (ws : List Word) → All (IsWord k) ws → map (word_tree m) ws ≡ map (word_tree k) ws
map-grows k m g [] h = refl
map-grows k m g (w ∷ ws) h = (λ i. shape_tree-grows k m g (shape_of w) (h 0 w (omega arith)) i ∷ map-grows k m g ws (λ j d l. h (suc j) d (omega arith)) i)

module _ {A : Type 0} where
  -- one element less, from the front
  pub drop_one : (n : ℕ) (xs : List A) (x : A) (ys : List A) → drop n xs ≡ x ∷ ys → drop (n + 1) xs ≡ ys
  drop_one n xs x ys e = sym (drop-drop 1 n xs) ∙ ap (drop 1) e

  pub take_one : (n : ℕ) (xs : List A) (x : A) (ys : List A) → drop n xs ≡ x ∷ ys → take (n + 1) xs ≡ take n xs ++ x ∷ []
  take_one zero [] x ys e = cc
  take_one zero (z ∷ xs) x ys e = cc
  take_one (suc n) [] x ys e = cc
  take_one (suc n) (z ∷ xs) x ys e = simp unary_clauses (ap (λ l. z ∷ l) (simp unary_clauses at (take_one n xs x ys e)))

module _ (k m : Known) (g : Grows k m) where
  -- the next word to be laid
  pub next_laid : (ws rest vs : List Word) (w : Word) (i : ℕ) → Lays k ws i m rest → rest ≡ vs ++ w ∷ [] → (drop i (reverse ws) ≡ w ∷ reverse vs) × All (IsWord k) vs × HasTree m w (word_tree k w) × IsWord k w
  next_laid ws rest vs w i h e =
      let all = All-pop (IsWord k) rest vs (Some w) e h.rest_words in (
        sym h.left ∙ ap reverse e ∙ reverse-push vs w,
        all.0,
        record { is_word = IsShape-grows k m g (shape_of w) all.1; tree_is = shape_tree-grows k m g (shape_of w) all.1 },
        all.1,
      )

-- one word more is laid
pub laid_more : (k m n : Known) (ws rest vs : List Word) (w : Word) (i : ℕ) → Lays k ws i m rest → drop i (reverse ws) ≡ w ∷ reverse vs → All (IsWord k) vs → n.trees ≡ m.trees ++ word_tree k w ∷ [] → Lays k ws (i + 1) n vs
laid_more k m n ws rest vs w i h e all t = record {
  trees =
      t ∙ ap (λ ts. ts ++ word_tree k w ∷ []) h.trees ∙ append_assoc k.trees (take i (trees_on k ws)) (word_tree k w ∷ [])
      ∙ ap (λ ts. k.trees ++ ts) (sym (take_one i (trees_on k ws) (word_tree k w) (trees_on k vs) (drop-map (word_tree k) i (reverse ws) ∙ ap (map (word_tree k)) e)));
  left = sym (drop_one i (reverse ws) w (reverse vs) e);
  rest_words = all;
}

-- and without a variable, where the trees so far have none
pub closed_more : (k : Known) (ws vs : List Word) (w : Word) (i : ℕ) → drop i (reverse ws) ≡ w ∷ reverse vs → IsWord k w → flat_map occurrences (take i (trees_on k ws)) ≡ [] → is_closed_shape (shape_of w) ≡ true → flat_map occurrences (take (i + 1) (trees_on k ws)) ≡ []
closed_more k ws vs w i e h none c =
    ap (flat_map occurrences) (take_one i (trees_on k ws) (word_tree k w) (trees_on k vs) (drop-map (word_tree k) i (reverse ws) ∙ ap (map (word_tree k)) e))
    ∙ flat_map-append occurrences (take i (trees_on k ws)) (word_tree k w ∷ [])
    ∙ (λ j. none j ++ (closed_shape k (shape_of w) h c j ++ []))

pub All-reverse : {A : Type 0} (P : A → Type 0) (xs : List A) (d : A) → All P xs → All P (reverse xs)
All-reverse P xs d h =
    All-from_get_or P (reverse xs) d
    (λ i l. let m : i < length xs = omega (arith, length-reverse xs) in subst P (sym (get_or-reverse xs i d m)) (All-get_or P xs (length xs - 1 - i) d (omega arith) h))

-- the compound of the words that were laid
module _ (k m : Known) (g : Grows k m) where
  laid_block : (ws rest : List Word) (count : ℕ) → Lays k ws count m rest → count ≤ length ws → (length k.trees + count ≤ length m.trees) × (block m (length k.trees) count ≡ take count (trees_on k ws))
  laid_block ws rest count h l =
      let T = trees_on k ws in
      let size : length (take count T) ≡ count = length-take-le count T (omega (arith, length-map (reverse ws) (word_tree k), length-reverse ws)) in (
        omega (arith, ap length h.trees, length-append k.trees (take count T), size),
        ap (λ ts. take count (drop (length k.trees) ts)) h.trees ∙ ap (take count) (drop_at k.trees (take count T) (length k.trees) refl) ∙ take_all count (take count T) (omega arith),
      )

  pub gathered_word : (ws rest : List Word) (name count first : ℕ) (closed : Bool) (w : Word) → Lays k ws count m rest → count ≤ length ws → 1 ≤ count → count ≤ 1024 → name < length k.names → first ≡ length k.trees → shape_of w ≡ Comp name count first closed → (closed ≡ true → flat_map occurrences (take count (trees_on k ws)) ≡ []) → HasTree m w (compound (name_at k name) (trees_of (take count (trees_on k ws))))
  gathered_word ws rest name count first closed w h l some few named at s c =
      let b = laid_block ws rest count h l in
      let same : block m first count ≡ take count (trees_on k ws) = ap (λ (f : ℕ). block m f count) at ∙ b.1 in
      let fits : IsShape m (Comp name count first closed) = record {
        named = omega (arith, length-begins k.names m.names g.names);
        some = some;
        few = few;
        within = omega (arith, b.0);
        closed_is = λ e. ap (flat_map occurrences) same ∙ c e;
      } in
      record {
        is_word = subst (IsShape m) (sym s) fits;
        tree_is =
            ap (shape_tree m) s
            ∙ ap (λ f. compound f (trees_of (block m first count))) (get_or-begins k.names m.names name [] g.names named)
            ∙ ap (λ ts. compound (name_at k name) (trees_of ts)) same;
      }

  pub gathered_all : (ws rest : List Word) (count : ℕ) (w : Word) → Lays k ws count m rest → IsWord m w → All (IsWord m) (rest ++ w ∷ [])
  gathered_all ws rest count w h p = All-push (IsWord m) rest w (All-grows k m g rest h.rest_words) p

  pub gathered_trees : (ws rest : List Word) (name : List ℕ) (count : ℕ) (w : Word) → Lays k ws count m rest → word_tree m w ≡ compound name (trees_of (take count (trees_on k ws))) → trees_on m (rest ++ w ∷ []) ≡ gathered name count (trees_on k ws)
  gathered_trees ws rest name count w h t =
      trees_on-push m rest w
      ∙ (λ i. t i ∷ map (word_tree m) (reverse rest))
      ∙ ap (λ ts. compound name (trees_of (take count (trees_on k ws))) ∷ ts)
      (map-grows k m g (reverse rest) (All-reverse (IsWord k) rest w h.rest_words) ∙ ap (map (word_tree k)) h.left ∙ sym (drop-map (word_tree k) count (reverse ws)))

pub trees_on-grows : (k m : Known) → Grows k m → (ws : List Word) (d : Word) → All (IsWord k) ws → trees_on m ws ≡ trees_on k ws
trees_on-grows k m g ws d h = map-grows k m g (reverse ws) (All-reverse (IsWord k) ws d h)

pub length-trees_on : (k : Known) (ws : List Word) → length (trees_on k ws) ≡ length ws
length-trees_on k ws = length-map (reverse ws) (word_tree k) ∙ length-reverse ws

-- a leaf on top
pub leaf_on : (k m : Known) → Grows k m → (ws vs : List Word) (w : Word) (t : Tree) → All (IsWord k) ws → HasTree m w t → trees_on m vs ≡ word_tree m w ∷ trees_on m ws → trees_on m vs ≡ t ∷ trees_on k ws
leaf_on k m g ws vs w t h has e = e ∙ (λ i. has.tree_is i ∷ trees_on-grows k m g ws w h i)

-- a compound on top, whose name was put down first
pub compound_on : (k m n : Known) → Grows k m → (ws vs : List Word) (f g : List ℕ) (count : ℕ) → All (IsWord k) ws → f ≡ g → trees_on n vs ≡ gathered f count (trees_on m ws) → trees_on n vs ≡ gathered g count (trees_on k ws)
compound_on k m n grows ws vs f g count h e t =
    t ∙ (λ i. gathered (e i) count (trees_on-grows k m grows ws (record { bits = 0 }) h i))
