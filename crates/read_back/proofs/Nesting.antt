-- How many brackets are open at once in the text of a term: at most two more than twice its depth.
use Rattle.std.specs.Prelude.{◌≡◌, refl, ℕ, suc, ◌+◌, ◌-◌, ◌*◌, ◌≤◌, max, pos, negsuc, Bool, true, false, cond, ◌&&◌, nat_lt, List, [], ◌∷◌, length, slice_index, codes, bytes_eq}
use Rattle.std.specs.List.{AllByRecursion}
use Rattle.std.proofs.Common.{arith, ap, sym, subst}
use Rattle.term_core.specs.Tree.{Tree, variable, integer, atom, compound, Trees, no_trees, tree, arity, depth, depths, greatest, is_cell, IsTerm, AreTerms}
use Rattle.op_table.specs.declared.op.Op.{Op}
use Rattle.op_table.specs.Table.{left_of, right_of}
use Rattle.prolog_write.specs.declared.mode.Mode.{Mode}
use Rattle.prolog_write.specs.declared.place.Place.{Place}
use Rattle.prolog_write.specs.declared.place.Place.TheVariants.{Whole, Argument, Operand}
use Rattle.prolog_write.specs.declared.form.Form.{Form}
use Rattle.prolog_write.specs.declared.form.Form.TheVariants.{Curly, Cell, Prefix, Infix, Call}
use Rattle.prolog_write.specs.Text.{form, is_operand, is_operator, most}
use Rattle.read_back.proofs.Spelled.{Item, mark_item, infix_item, close_round, close_square, close_curly, comma, bar, is_brackets, brackets}
use Rattle.read_back.proofs.TermLayout.{Layout, unknown, number, plain, call, round, curly, listed, partial, before, between, Layouts, one, and, in_brackets, with_element, layout, by_form, arguments, items, all_items}
use Rattle.read_back.proofs.Forms.{IsForm, IsForm-form, NoCell}

-- ---- of a layout

-- how many brackets of its own are open at once, where a name may be two
unfoldable mutual
  nesting : Layout → ℕ
  nesting (unknown n) = 0
  nesting (number z) = 0
  nesting (plain f) = 1
  nesting (call f ls) = suc (all_nesting ls)
  nesting (round l) = suc (nesting l)
  nesting (curly l) = suc (nesting l)
  nesting (listed ls) = suc (all_nesting ls)
  nesting (partial ls l) = suc (max (all_nesting ls) (nesting l))
  nesting (before f o l) = nesting l
  nesting (between l f o r) = max (nesting l) (nesting r)

  all_nesting : Layouts → ℕ
  all_nesting (one l) = nesting l
  all_nesting (and l ls) = max (nesting l) (all_nesting ls)

abbrev Below : ℕ → List ℕ → Type 0
Below most ns = AllByRecursion (λ n. n ≤ most) ns

name_below : (most n : ℕ) (b : Bool) → n + 1 ≤ most → cond b (suc n) n ≤ most
name_below most n true h = omega arith
name_below most n false h = omega arith

module _ (top : ℕ) where
  -- the item behind a closing bracket
  closed : (n : ℕ) (xs : List Item) → Below top (brackets n xs) → Below top (brackets (suc n - 1) xs)
  closed n xs b = let e : n ≡ suc n - 1 = omega arith in subst (λ k. Below top (brackets k xs)) e b

  mutual
    unfolding items all_items brackets nesting all_nesting

    within : (l : Layout) (n : ℕ) (xs : List Item) → n + nesting l ≤ top → Below top (brackets n xs) → n ≤ top → Below top (brackets n (items l xs))
    within (unknown k) n xs h b s = (s, b)
    within (number (pos k)) n xs h b s = (s, b)
    within (number (negsuc k)) n xs h b s = (s, (s, b))
    within (plain f) n xs h b s = (name_below top n (is_brackets f) h, b)
    within (call f ls) n xs h b s =
        (name_below top n (is_brackets f) (omega arith), (omega arith, all_within ls (suc n) (mark_item close_round ∷ xs) (omega arith) (omega arith, closed n xs b) (omega arith)))
    within (round l) n xs h b s = (omega arith, within l (suc n) (mark_item close_round ∷ xs) (omega arith) (omega arith, closed n xs b) (omega arith))
    within (curly l) n xs h b s = (omega arith, within l (suc n) (mark_item close_curly ∷ xs) (omega arith) (omega arith, closed n xs b) (omega arith))
    within (listed ls) n xs h b s = (omega arith, all_within ls (suc n) (mark_item close_square ∷ xs) (omega arith) (omega arith, closed n xs b) (omega arith))
    within (partial ls l) n xs h b s = (
      omega arith,
      all_within ls (suc n) (mark_item bar ∷ items l (mark_item close_square ∷ xs)) (omega arith)
          (omega arith, within l (suc n) (mark_item close_square ∷ xs) (omega arith) (omega arith, closed n xs b) (omega arith)) (omega arith),
    )
    within (before f o l) n xs h b s = (s, within l n xs h b s)
    within (between l f o r) n xs h b s = within l n (infix_item f ∷ items r xs) (omega arith) (s, within r n xs (omega arith) b s) s

    all_within : (ls : Layouts) (n : ℕ) (xs : List Item) → n + all_nesting ls ≤ top → Below top (brackets n xs) → n ≤ top → Below top (brackets n (all_items ls xs))
    all_within (one l) n xs h b s = within l n xs h b s
    all_within (and l ls) n xs h b s = within l n (mark_item comma ∷ all_items ls xs) (omega arith) (s, all_within ls n xs (omega arith) b s) s

-- ---- of a term

-- of the rest of a list, within its bracket
unfoldable rest_nesting : Layout → ℕ
rest_nesting (listed ls) = all_nesting ls
rest_nesting (partial ls l) = max (all_nesting ls) (nesting l)
rest_nesting l = nesting l

rest_below : (l : Layout) → rest_nesting l ≤ nesting l
unfolding nesting rest_nesting
rest_below (unknown n) = omega arith
rest_below (number z) = omega arith
rest_below (plain f) = omega arith
rest_below (call f ls) = omega arith
rest_below (round l) = omega arith
rest_below (curly l) = omega arith
rest_below (listed ls) = omega arith
rest_below (partial ls l) = omega arith
rest_below (before f o l) = omega arith
rest_below (between l f o r) = omega arith

by_nil : (e : Layout) (f : List ℕ) (b : Bool) → nesting (cond b (listed (one e)) (partial (one e) (plain f))) ≤ suc (max (nesting e) 1)
unfolding nesting all_nesting
by_nil e f true = omega arith
by_nil e f false = omega arith

nesting-with_element : (e l : Layout) → nesting (with_element e l) ≤ suc (max (nesting e) (rest_nesting l))
unfolding nesting all_nesting rest_nesting
nesting-with_element e (plain f) = by_nil e f (bytes_eq f (codes "[]"))
nesting-with_element e (unknown n) = omega arith
nesting-with_element e (number z) = omega arith
nesting-with_element e (call f ls) = omega arith
nesting-with_element e (round l) = omega arith
nesting-with_element e (curly l) = omega arith
nesting-with_element e (listed ls) = omega arith
nesting-with_element e (partial ls l) = omega arith
nesting-with_element e (before f o l) = omega arith
nesting-with_element e (between l f o r) = omega arith

rest_by_nil : (e : Layout) (f : List ℕ) (b : Bool) → suc (rest_nesting (cond b (listed (one e)) (partial (one e) (plain f)))) ≤ nesting (cond b (listed (one e)) (partial (one e) (plain f)))
unfolding nesting all_nesting rest_nesting
rest_by_nil e f true = omega arith
rest_by_nil e f false = omega arith

rest-with_element : (e l : Layout) → suc (rest_nesting (with_element e l)) ≤ nesting (with_element e l)
unfolding nesting all_nesting rest_nesting
rest-with_element e (plain f) = rest_by_nil e f (bytes_eq f (codes "[]"))
rest-with_element e (unknown n) = omega arith
rest-with_element e (number z) = omega arith
rest-with_element e (call f ls) = omega arith
rest-with_element e (round l) = omega arith
rest-with_element e (curly l) = omega arith
rest-with_element e (listed ls) = omega arith
rest-with_element e (partial ls l) = omega arith
rest-with_element e (before f o l) = omega arith
rest-with_element e (between l f o r) = omega arith

-- a layout of a term of this depth, by itself and as the rest of a list
record Bounded (l : Layout) (d : ℕ) : Type 0 where
  whole : nesting l ≤ 2 * d + 2
  rest : rest_nesting l ≤ 2 * max 1 d + 1

bounded_list : (e l : Layout) (c d : ℕ) → Bounded e c → Bounded l d → Bounded (with_element e l) (max (suc c) d)
bounded_list e l c d a b =
    let w = nesting-with_element e l in
    let r = rest-with_element e l in
    let x = a.whole in
    let y = b.rest in
    record { whole = omega arith; rest = omega arith }

-- a layout that is no list, of a compound whose arguments have at most this depth
bounded_layout : (l : Layout) (d : ℕ) → nesting l ≤ 2 * d + 3 → Bounded l (suc d)
bounded_layout l d h = let r = rest_below l in record { whole = omega arith; rest = omega arith }

by_brackets : (b : Bool) (l : Layout) → nesting (in_brackets b l) ≤ suc (nesting l)
unfolding nesting
by_brackets true l = omega arith
by_brackets false l = omega arith

length-depths : (ts : Trees) → length (depths ts) ≡ arity ts
length-depths no_trees = refl
length-depths (tree t ts) = ap suc (length-depths ts)

no_cell : (b : Bool) (p q : ℕ) → b ≡ false → cond b p q ≡ q
no_cell b p q e = rw e refl

depth-compound : (f : List ℕ) (ts : Trees) → NoCell f (arity ts) → depth (compound f ts) ≡ suc (greatest (depths ts))
depth-compound f ts e =
    no_cell (is_cell f (depths ts)) (max (suc (slice_index (depths ts) 0)) (slice_index (depths ts) 1)) (suc (greatest (depths ts))) (rw (length-depths ts) e)

depth-cell : (f : List ℕ) (t u : Tree) → f ≡ codes "." → depth (compound f (tree t (tree u no_trees))) ≡ max (suc (depth t)) (depth u)
depth-cell f t u e = rw e refl

bounded_compound : (f : List ℕ) (ts : Trees) (l : Layout) → NoCell f (arity ts) → nesting l ≤ 2 * greatest (depths ts) + 3 → Bounded l (depth (compound f ts))
bounded_compound f ts l e h = subst (Bounded l) (sym (depth-compound f ts e)) (bounded_layout l (greatest (depths ts)) h)

bounded_small : (l : Layout) → nesting l ≤ 2 → Bounded l 0
bounded_small l h = let r = rest_below l in record { whole = omega arith; rest = omega arith }

nesting-before : (b : Bool) (f : List ℕ) (o : Op) (l : Layout) → nesting (in_brackets b (before f o l)) ≤ suc (nesting l)
unfolding nesting
nesting-before b f o l = by_brackets b (before f o l)

nesting-between : (b : Bool) (l : Layout) (f : List ℕ) (o : Op) (r : Layout) → nesting (in_brackets b (between l f o r)) ≤ suc (max (nesting l) (nesting r))
unfolding nesting
nesting-between b l f o r = by_brackets b (between l f o r)

module _ (m : Mode) where
  mutual
    unfolding layout by_form arguments nesting all_nesting

    bounded : (t : Tree) (at : Place) → IsTerm t → Bounded (layout m t at) (depth t)
    bounded (variable n) at h = bounded_small (unknown n) (omega arith)
    bounded (integer z) at h = bounded_small (number z) (omega arith)
    bounded (atom f) at h = bounded_small (layout m (atom f) at) (by_brackets (is_operand at && is_operator f) (plain f))
    bounded (compound f ts) at h = bounded_form (form m f (arity ts)) f ts at (IsForm-form m f (arity ts)) h.0 h.2

    bounded_form : (x : Form) (f : List ℕ) (ts : Trees) (at : Place) → IsForm f (arity ts) x → 1 ≤ arity ts → AreTerms ts → Bounded (by_form m x f ts at) (depth (compound f ts))
    bounded_form Call f no_trees at is some h = absurd (omega arith)
    bounded_form Call f (tree t ts) at is some h =
        let w = (bounded t Argument h.0).whole in
        let r = all_bounded (layout m t Argument) ts h.1 in
        bounded_compound f (tree t ts) (call f (arguments m (layout m t Argument) ts)) is (omega arith)
    bounded_form Curly f no_trees at is some h = absurd (omega arith)
    bounded_form Curly f (tree t ts) at is some h =
        let w = (bounded t Whole h.0).whole in
        bounded_compound f (tree t ts) (curly (layout m t Whole)) is.2 (omega arith)
    bounded_form Cell f no_trees at is some h = absurd (omega arith)
    bounded_form Cell f (tree t no_trees) at is some h = absurd (omega arith)
    bounded_form Cell f (tree t (tree u no_trees)) at is some h =
        rw (depth-cell f t u is.1) (bounded_list (layout m t Argument) (layout m u Argument) (depth t) (depth u) (bounded t Argument h.0) (bounded u Argument h.1.0))
    bounded_form Cell f (tree t (tree u (tree v vs))) at is some h = absurd (omega arith)
    bounded_form (Prefix o) f no_trees at is some h = absurd (omega arith)
    bounded_form (Prefix o) f (tree t ts) at is some h =
        let l = layout m t (Operand (right_of o)) in
        let w = (bounded t (Operand (right_of o)) h.0).whole in
        let b = nat_lt (most at) o.priority in
        let n = nesting-before b f o l in
        bounded_compound f (tree t ts) (in_brackets b (before f o l)) is.2 (omega arith)
    bounded_form (Infix o) f no_trees at is some h = absurd (omega arith)
    bounded_form (Infix o) f (tree t no_trees) at is some h = absurd (omega arith)
    bounded_form (Infix o) f (tree t (tree u us)) at is some h =
        let l = layout m t (Operand (left_of o)) in
        let r = layout m u (Operand (right_of o)) in
        let w = (bounded t (Operand (left_of o)) h.0).whole in
        let x = (bounded u (Operand (right_of o)) h.1.0).whole in
        let b = nat_lt (most at) o.priority in
        let n = nesting-between b l f o r in
        bounded_compound f (tree t (tree u us)) (in_brackets b (between l f o r)) is.2 (omega arith)

    all_bounded : (l : Layout) (ts : Trees) → AreTerms ts → all_nesting (arguments m l ts) ≤ max (nesting l) (2 * greatest (depths ts) + 2)
    all_bounded l no_trees h = omega arith
    all_bounded l (tree t ts) h =
        let r = all_bounded (layout m t Argument) ts h.1 in
        let w = (bounded t Argument h.0).whole in
        omega arith

-- the items of a term that is at most 1,000 deep
pub brackets_below : (m : Mode) (t : Tree) (at : Place) → IsTerm t → depth t ≤ 1000 → AllByRecursion (λ n. n ≤ 4000) (brackets 0 (items (layout m t at) []))
unfolding brackets
brackets_below m t at h d =
    let w = (bounded m t at h).whole in
    within 4000 (layout m t at) 0 [] (omega arith) tt (omega arith)
