-- A heap that grows: what was known stays so.
use Rattle.std.proofs.Common.{◌≡◌, ℕ, zero, suc, ◌+◌, ◌<◌, ◌≤◌, ℤ, pos, List, [], ◌∷◌, ◌++◌, length, get_or, take, drop, refl, ap, ◌∙◌, sym, subst, append_assoc, append-nil, length-append, arith}
use Rattle.std.proofs.lemmas.List.{get_or_append_left, take-append-le, drop-append-le, length-drop, get_or-append-add, take_all}
use Rattle.std.specs.List.{flat_map, All}
use Rattle.std.proofs.lemmas.List.Elements.{All-weaker}
use Rattle.term_core.specs.Tree.{Tree, compound, integer, atom, trees_of}
use Rattle.term_core.specs.Variables.{occurrences}
use Rattle.store.specs.declared.word.Word.{Word}
use Rattle.store.specs.declared.word.Shape.{Shape}
use Rattle.store.specs.declared.word.Shape.TheVariants.{Var, Int, Large, Atom, Comp}
use Rattle.store.specs.Words.{shape_of}
use Rattle.store.specs.Heap.{Known, name_at, block, shape_tree, IsShape, word_tree, IsWord, HasTree, with_trees, spell, AreWords, Begins, Grows}

-- ---- first parts

pub Begins-same : {A : Type 0} (xs : List A) → Begins xs xs
Begins-same xs = record { more = []; same = sym (append-nil xs) }

pub Begins-equal : {A : Type 0} (xs ys : List A) → ys ≡ xs → Begins xs ys
Begins-equal xs ys e = record { more = []; same = e ∙ sym (append-nil xs) }

pub Begins-more : {A : Type 0} (xs ys zs : List A) → ys ≡ xs ++ zs → Begins xs ys
Begins-more xs ys zs e = record { more = zs; same = e }

pub Begins-after : {A : Type 0} (xs ys zs : List A) → Begins xs ys → Begins ys zs → Begins xs zs
Begins-after xs ys zs h g = record {
  more = h.more ++ g.more;
  same = g.same ∙ ap (λ l. l ++ g.more) h.same ∙ append_assoc xs h.more g.more;
}

pub length-begins : {A : Type 0} (xs ys : List A) → Begins xs ys → length xs ≤ length ys
length-begins xs ys h = omega (arith, ap length h.same, length-append xs h.more)

pub get_or-begins : {A : Type 0} (xs ys : List A) (i : ℕ) (d : A) → Begins xs ys → i < length xs → get_or ys i d ≡ get_or xs i d
get_or-begins xs ys i d h l = ap (λ l. get_or l i d) h.same ∙ get_or_append_left xs h.more d i l

pub take-begins : {A : Type 0} (xs ys : List A) (n : ℕ) → Begins xs ys → n ≤ length xs → take n ys ≡ take n xs
take-begins xs ys n h l = ap (take n) h.same ∙ take-append-le n xs h.more l

pub block-begins : {A : Type 0} (xs ys : List A) (first count : ℕ) → Begins xs ys → first + count ≤ length xs → take count (drop first ys) ≡ take count (drop first xs)
block-begins xs ys first count h l =
    ap (λ l. take count (drop first l)) h.same
    ∙ ap (take count) (drop-append-le first xs h.more (omega arith))
    ∙ take-append-le count (drop first xs) h.more (omega (arith, length-drop first xs))

-- ---- what is known

pub Grows-same : (k : Known) → Grows k k
Grows-same k = record { names = Begins-same k.names; large = Begins-same k.large; trees = Begins-same k.trees }

pub Grows-after : (k l m : Known) → Grows k l → Grows l m → Grows k m
Grows-after k l m h g = record {
  names = Begins-after k.names l.names m.names h.names g.names;
  large = Begins-after k.large l.large m.large h.large g.large;
  trees = Begins-after k.trees l.trees m.trees h.trees g.trees;
}

module _ (k m : Known) (g : Grows k m) where
  pub shape_tree-grows : (s : Shape) → IsShape k s → shape_tree m s ≡ shape_tree k s
  shape_tree-grows (Var n) h = refl
  shape_tree-grows (Int z) h = refl
  shape_tree-grows (Large i) h = ap integer (get_or-begins k.large m.large i (pos 0) g.large h)
  shape_tree-grows (Atom i) h = ap atom (get_or-begins k.names m.names i [] g.names h)
  shape_tree-grows (Comp name count first closed) h =
      ap (λ f. compound f (trees_of (block m first count))) (get_or-begins k.names m.names name [] g.names h.named)
      ∙ ap (λ ts. compound (name_at k name) (trees_of ts)) (block-begins k.trees m.trees first count g.trees h.within)

  pub IsShape-grows : (s : Shape) → IsShape k s → IsShape m s
  IsShape-grows (Var n) h = tt
  IsShape-grows (Int z) h = tt
  IsShape-grows (Large i) h = omega (arith, h, length-begins k.large m.large g.large)
  IsShape-grows (Atom i) h = omega (arith, h, length-begins k.names m.names g.names)
  IsShape-grows (Comp name count first closed) h = record {
    named = omega (arith, length-begins k.names m.names g.names, h.named);
    some = h.some;
    few = h.few;
    within = omega (arith, length-begins k.trees m.trees g.trees, h.within);
    closed_is = λ e. ap (flat_map occurrences) (block-begins k.trees m.trees first count g.trees h.within) ∙ h.closed_is e;
  }

  pub HasTree-grows : (w : Word) (t : Tree) → HasTree k w t → HasTree m w t
  HasTree-grows w t h = record {
    is_word = IsShape-grows (shape_of w) h.is_word;
    tree_is = shape_tree-grows (shape_of w) h.is_word ∙ h.tree_is;
  }

  pub All-grows : (ws : List Word) → All (IsWord k) ws → All (IsWord m) ws
  All-grows ws h = All-weaker (IsWord k) (IsWord m) (λ w p. IsShape-grows (shape_of w) p) ws h

-- ---- words over trees

module _ (names : List (List ℕ)) (large : List ℤ) where
  abbrev over : List Tree → Known
  over ts = with_trees names large ts

  abbrev next_tree : List Tree → Word → Tree
  next_tree ts w = word_tree (over ts) w

  pub spell-begins : (ts : List Tree) (ws : List Word) → Begins ts (spell names large ts ws)
  spell-begins ts [] = Begins-same ts
  spell-begins ts (w ∷ ws) =
      Begins-after ts (ts ++ next_tree ts w ∷ []) _ (Begins-more ts (ts ++ next_tree ts w ∷ []) (next_tree ts w ∷ []) refl) (spell-begins (ts ++ next_tree ts w ∷ []) ws)

  pub length-spell : (ts : List Tree) (ws : List Word) → length (spell names large ts ws) ≡ length ts + length ws
  length-spell ts [] = omega arith
  length-spell ts (w ∷ ws) =
      length-spell (ts ++ next_tree ts w ∷ []) ws ∙ omega (arith, length-append ts (next_tree ts w ∷ []))

  pub spell-push : (ts : List Tree) (ws : List Word) (w : Word) → spell names large ts (ws ++ w ∷ []) ≡ spell names large ts ws ++ next_tree (spell names large ts ws) w ∷ []
  spell-push ts [] w = refl
  spell-push ts (v ∷ ws) w = spell-push (ts ++ next_tree ts v ∷ []) ws w

  pub AreWords-push : (ts : List Tree) (ws : List Word) (w : Word) → AreWords names large ts ws → IsWord (over (spell names large ts ws)) w → AreWords names large ts (ws ++ w ∷ [])
  AreWords-push ts [] w h g = (g, tt)
  AreWords-push ts (v ∷ ws) w h g = (h.0, AreWords-push (ts ++ next_tree ts v ∷ []) ws w h.1 g)

  grown_by : (ts us : List Tree) → Begins ts us → Grows (over ts) (over us)
  grown_by ts us b = record { names = Begins-same names; large = Begins-same large; trees = b }

  -- the word at a place stands for the tree there
  pub word_at : (ts : List Tree) (ws : List Word) (p : ℕ) (d : Word) (e : Tree) → AreWords names large ts ws → p < length ws → HasTree (over (spell names large ts ws)) (get_or ws p d) (get_or (spell names large ts ws) (length ts + p) e)
  word_at ts [] p d e h l = absurd (omega arith)
  word_at ts (w ∷ ws) zero d e h l =
      let us = ts ++ next_tree ts w ∷ [] in
      let all = spell names large us ws in
      let b = Begins-after ts us all (Begins-more ts us (next_tree ts w ∷ []) refl) (spell-begins us ws) in
      let here : get_or us (length ts + 0) e ≡ next_tree ts w = get_or-append-add ts (next_tree ts w ∷ []) 0 e in
      let there : get_or all (length ts + 0) e ≡ next_tree ts w = get_or-begins us all (length ts + 0) e (spell-begins us ws) (omega (arith, length-append ts (next_tree ts w ∷ []))) ∙ here in
      record {
        is_word = IsShape-grows (over ts) (over all) (grown_by ts all b) (shape_of w) h.0;
        tree_is = shape_tree-grows (over ts) (over all) (grown_by ts all b) (shape_of w) h.0 ∙ sym there;
      }
  word_at ts (w ∷ ws) (suc p) d e h l =
      let us = ts ++ next_tree ts w ∷ [] in
      let all = spell names large us ws in
      let same : length us + p ≡ length ts + suc p = omega (arith, length-append ts (next_tree ts w ∷ [])) in
      subst (λ (i : ℕ). HasTree (over all) (get_or ws p d) (get_or all i e)) same (word_at us ws p d e h.1 (omega arith))

  -- fewer words
  pub spell-take : (ts : List Tree) (ws : List Word) (p : ℕ) → spell names large ts (take p ws) ≡ take (length ts + p) (spell names large ts ws)
  spell-take ts ws zero =
      sym (ap (λ i. take i (spell names large ts ws)) (let f : length ts + 0 ≡ length ts = omega arith in f) ∙ take-begins ts (spell names large ts ws) (length ts) (spell-begins ts ws) (omega arith) ∙ take_all (length ts) ts (omega arith))
  spell-take ts [] (suc p) = sym (take_all (length ts + suc p) ts (omega arith))
  spell-take ts (w ∷ ws) (suc p) =
      let us = ts ++ next_tree ts w ∷ [] in
      spell-take us ws p ∙ ap (λ i. take i (spell names large us ws)) (let f : length us + p ≡ length ts + suc p = omega (arith, length-append ts (next_tree ts w ∷ [])) in f)

  pub AreWords-take : (ts : List Tree) (ws : List Word) (p : ℕ) → AreWords names large ts ws → AreWords names large ts (take p ws)
  AreWords-take ts ws zero h = tt
  AreWords-take ts [] (suc p) h = tt
  AreWords-take ts (w ∷ ws) (suc p) h = (h.0, AreWords-take (ts ++ next_tree ts w ∷ []) ws p h.1)

-- larger tables
module _ (names : List (List ℕ)) (large : List ℤ) (names' : List (List ℕ)) (large' : List ℤ) (bn : Begins names names') (bl : Begins large large') where
  wider : (ts : List Tree) → Grows (with_trees names large ts) (with_trees names' large' ts)
  wider ts = record { names = bn; large = bl; trees = Begins-same ts }

  same_next : (ts : List Tree) (w : Word) → IsWord (with_trees names large ts) w → word_tree (with_trees names' large' ts) w ≡ word_tree (with_trees names large ts) w
  same_next ts w h = shape_tree-grows (with_trees names large ts) (with_trees names' large' ts) (wider ts) (shape_of w) h

  pub spell-tables : (ts : List Tree) (ws : List Word) → AreWords names large ts ws → spell names' large' ts ws ≡ spell names large ts ws
  spell-tables ts [] h = refl
  spell-tables ts (w ∷ ws) h =
      ap (λ t. spell names' large' (ts ++ t ∷ []) ws) (same_next ts w h.0)
      ∙ spell-tables (ts ++ word_tree (with_trees names large ts) w ∷ []) ws h.1

  pub AreWords-tables : (ts : List Tree) (ws : List Word) → AreWords names large ts ws → AreWords names' large' ts ws
  AreWords-tables ts [] h = tt
  AreWords-tables ts (w ∷ ws) h = (
    IsShape-grows (with_trees names large ts) (with_trees names' large' ts) (wider ts) (shape_of w) h.0,
    subst (λ (t : Tree). AreWords names' large' (ts ++ t ∷ []) ws) (sym (same_next ts w h.0)) (AreWords-tables (ts ++ word_tree (with_trees names large ts) w ∷ []) ws h.1),
  )
