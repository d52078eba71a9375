-- The pieces of a term are those of its items.
use Rattle.std.specs.Prelude.{◌≡◌, refl, ℕ, ◌≤◌, Bool, true, false, ◌&&◌, cond, nat_lt, List, [], ◌∷◌, ◌++◌, map, codes, bytes_eq}
use Rattle.std.proofs.Common.{arith, ap, ◌∙◌, sym, append_assoc}
use Rattle.term_core.specs.Tree.{Tree, variable, integer, atom, compound, Trees, no_trees, tree, arity, IsTerm, AreTerms}
use Rattle.op_table.specs.declared.op.Op.{Op}
use Rattle.op_table.specs.Table.{left_of, right_of}
use Rattle.prolog_write.specs.declared.mode.Mode.{Mode}
use Rattle.prolog_write.specs.declared.place.Place.{Place}
use Rattle.prolog_write.specs.declared.place.Place.TheVariants.{Whole, Argument, Operand}
use Rattle.prolog_write.specs.declared.form.Form.{Form}
use Rattle.prolog_write.specs.declared.form.Form.TheVariants.{Curly, Cell, Prefix, Infix, Call}
use Rattle.prolog_write.specs.Text.{Piece, piece, mark, prefix_piece, infix_piece, atom_text, form, is_operand, is_operator, most, pieces, more_arguments, rest_of_list, rest_by_form, after_bar}
use Rattle.prolog_write.specs.Text as text
use Rattle.read_back.proofs.Spelled.{Item, name_item, mark_item, infix_item, open_round, close_round, open_square, close_square, open_curly, close_curly, comma, bar, piece_of}
use Rattle.read_back.proofs.TermLayout.{Layout, plain, call, round, curly, listed, partial, before, between, one, in_brackets, with_element, layout, by_form, arguments, items, all_items}
use Rattle.read_back.proofs.Forms.{IsForm, IsForm-form}

-- what stands behind an element, where the rest of its list is laid out so
unfoldable rest_items : Layout → List Item → List Item
rest_items (plain f) xs = cond (bytes_eq f (codes "[]")) (mark_item close_square ∷ xs) (mark_item bar ∷ name_item f ∷ mark_item close_square ∷ xs)
rest_items (listed ls) xs = mark_item comma ∷ all_items ls (mark_item close_square ∷ xs)
rest_items (partial ls l) xs = mark_item comma ∷ all_items ls (mark_item bar ∷ items l (mark_item close_square ∷ xs))
rest_items l xs = mark_item bar ∷ items l (mark_item close_square ∷ xs)

by_nil : (e : Layout) (f : List ℕ) (xs : List Item) (b : Bool) → items (cond b (listed (one e)) (partial (one e) (plain f))) xs
    ≡ mark_item open_square ∷ items e (cond b (mark_item close_square ∷ xs) (mark_item bar ∷ name_item f ∷ mark_item close_square ∷ xs))
unfolding items
by_nil e f xs true = refl
by_nil e f xs false = refl

items-with_element : (e l : Layout) (xs : List Item) → items (with_element e l) xs ≡ mark_item open_square ∷ items e (rest_items l xs)
unfolding items rest_items
items-with_element e (plain f) xs = by_nil e f xs (bytes_eq f (codes "[]"))
items-with_element e l xs = refl

by_nil_in_rest : (e : Layout) (f : List ℕ) (xs : List Item) (b : Bool) → rest_items (cond b (listed (one e)) (partial (one e) (plain f))) xs
    ≡ mark_item comma ∷ items e (cond b (mark_item close_square ∷ xs) (mark_item bar ∷ name_item f ∷ mark_item close_square ∷ xs))
unfolding items rest_items
by_nil_in_rest e f xs true = refl
by_nil_in_rest e f xs false = refl

rest-with_element : (e l : Layout) (xs : List Item) → rest_items (with_element e l) xs ≡ mark_item comma ∷ items e (rest_items l xs)
unfolding items rest_items
rest-with_element e (plain f) xs = by_nil_in_rest e f xs (bytes_eq f (codes "[]"))
rest-with_element e l xs = refl

module _ (m : Mode) where
  abbrev its : List Item → List Piece
  its xs = map (piece_of m) xs

  abbrev Spells : (List Item → List Item) → List Piece → Type 0
  Spells f ps = (xs : List Item) → its (f xs) ≡ ps ++ its xs

  -- between two pieces
  enclosed : (x y : Item) (f : List Item → List Item) (ps : List Piece) → Spells f ps → Spells (λ xs. x ∷ f (y ∷ xs)) (piece_of m x ∷ (ps ++ piece_of m y ∷ []))
  enclosed x y f ps e xs = ap (λ qs. piece_of m x ∷ qs) (e (y ∷ xs) ∙ sym (append_assoc ps (piece_of m y ∷ []) (its xs)))

  by_brackets : (b : Bool) (l : Layout) (ps : List Piece) → Spells (items l) ps → Spells (items (in_brackets b l)) (text.in_brackets b ps)
  unfolding items
  by_brackets true l ps e xs = enclosed (mark_item open_round) (mark_item close_round) (items l) ps e xs
  by_brackets false l ps e xs = e xs

  spelled_between : (l r : Layout) (f : List ℕ) (o : Op) (ps qs : List Piece) → Spells (items l) ps → Spells (items r) qs → Spells (items (between l f o r)) (ps ++ infix_piece f ∷ qs)
  unfolding items
  spelled_between l r f o ps qs d e xs =
      d (infix_item f ∷ items r xs) ∙ ap (λ qs. ps ++ infix_piece f ∷ qs) (e xs) ∙ sym (append_assoc ps (infix_piece f ∷ qs) (its xs))

  -- an element, and the rest of its list
  spelled_cell : (x : Item) (e l : Layout) (ps qs : List Piece) → Spells (items e) ps → Spells (rest_items l) qs → Spells (λ xs. x ∷ items e (rest_items l xs)) (piece_of m x ∷ (ps ++ qs))
  spelled_cell x e l ps qs d h xs = ap (λ rs. piece_of m x ∷ rs) (d (rest_items l xs) ∙ ap (λ rs. ps ++ rs) (h xs) ∙ sym (append_assoc ps qs (its xs)))

  -- a rest that is no list
  by_bar : (l : Layout) (ps : List Piece) → Spells (items l) ps → Spells (λ xs. mark_item bar ∷ items l (mark_item close_square ∷ xs)) (mark "|" ∷ (ps ++ mark "]" ∷ []))
  by_bar l ps e xs = enclosed (mark_item bar) (mark_item close_square) (items l) ps e xs

  rest_brackets : (b : Bool) (l : Layout) (ps : List Piece) → ((xs : List Item) → rest_items l xs ≡ mark_item bar ∷ items l (mark_item close_square ∷ xs)) → Spells (items (in_brackets b l)) ps →
      Spells (rest_items (in_brackets b l)) (mark "|" ∷ (ps ++ mark "]" ∷ []))
  unfolding rest_items
  rest_brackets true l ps r e xs = by_bar (round l) ps e xs
  rest_brackets false l ps r e xs = ap its (r xs) ∙ by_bar l ps e xs

  rest_atom : (f : List ℕ) (b : Bool) → Spells (λ xs. cond b (mark_item close_square ∷ xs) (mark_item bar ∷ name_item f ∷ mark_item close_square ∷ xs)) (cond b (mark "]" ∷ []) (mark "|" ∷ piece (atom_text m f) ∷ mark "]" ∷ []))
  rest_atom f true xs = refl
  rest_atom f false xs = refl

  mutual
    unfolding layout by_form arguments items all_items rest_items

    pub spelled : (t : Tree) (at : Place) → IsTerm t → Spells (items (layout m t at)) (pieces m t at)
    spelled (variable n) at h xs = refl
    spelled (integer z) at h xs = refl
    spelled (atom f) at h xs = by_brackets (is_operand at && is_operator f) (plain f) (piece (atom_text m f) ∷ []) (λ xs. refl) xs
    spelled (compound f ts) at h xs = spelled_form (form m f (arity ts)) f ts at (IsForm-form m f (arity ts)) h.0 h.2 xs

    spelled_form : (x : Form) (f : List ℕ) (ts : Trees) (at : Place) → IsForm f (arity ts) x → 1 ≤ arity ts → AreTerms ts → Spells (items (by_form m x f ts at)) (text.by_form m x f ts at)
    spelled_form Call f no_trees at is some h xs = absurd (omega arith)
    spelled_form Call f (tree t ts) at is some h xs =
        ap (λ ps. piece (atom_text m f) ∷ mark "(" ∷ ps) (spelled_all (layout m t Argument) (pieces m t Argument) ts (spelled t Argument h.0) h.1 xs)
    spelled_form Curly f no_trees at is some h xs = absurd (omega arith)
    spelled_form Curly f (tree t ts) at is some h xs = enclosed (mark_item open_curly) (mark_item close_curly) (items (layout m t Whole)) (pieces m t Whole) (spelled t Whole h.0) xs
    spelled_form Cell f no_trees at is some h xs = absurd (omega arith)
    spelled_form Cell f (tree t no_trees) at is some h xs = absurd (omega arith)
    spelled_form Cell f (tree t (tree u us)) at is some h xs =
        ap its (items-with_element (layout m t Argument) (layout m u Argument) xs)
        ∙ spelled_cell (mark_item open_square) (layout m t Argument) (layout m u Argument) (pieces m t Argument) (rest_of_list m u (pieces m u)) (spelled t Argument h.0) (spelled_rest u h.1.0) xs
    spelled_form (Prefix o) f no_trees at is some h xs = absurd (omega arith)
    spelled_form (Prefix o) f (tree t ts) at is some h xs =
        by_brackets (nat_lt (most at) o.priority) (before f o (layout m t (Operand (right_of o)))) (prefix_piece f ∷ pieces m t (Operand (right_of o)))
        (λ xs. ap (λ ps. prefix_piece f ∷ ps) (spelled t (Operand (right_of o)) h.0 xs)) xs
    spelled_form (Infix o) f no_trees at is some h xs = absurd (omega arith)
    spelled_form (Infix o) f (tree t no_trees) at is some h xs = absurd (omega arith)
    spelled_form (Infix o) f (tree t (tree u us)) at is some h xs =
        by_brackets (nat_lt (most at) o.priority) (between (layout m t (Operand (left_of o))) f o (layout m u (Operand (right_of o))))
        (pieces m t (Operand (left_of o)) ++ infix_piece f ∷ pieces m u (Operand (right_of o)))
        (spelled_between (layout m t (Operand (left_of o))) (layout m u (Operand (right_of o))) f o (pieces m t (Operand (left_of o))) (pieces m u (Operand (right_of o)))
        (spelled t (Operand (left_of o)) h.0) (spelled u (Operand (right_of o)) h.1.0)) xs

    -- arguments, the closing bracket, and what follows
    spelled_all : (l : Layout) (ps : List Piece) (ts : Trees) → Spells (items l) ps → AreTerms ts → Spells (λ xs. all_items (arguments m l ts) (mark_item close_round ∷ xs)) (ps ++ more_arguments m ts)
    spelled_all l ps no_trees e h xs = e (mark_item close_round ∷ xs) ∙ sym (append_assoc ps (mark ")" ∷ []) (its xs))
    spelled_all l ps (tree t ts) e h xs =
        e (mark_item comma ∷ all_items (arguments m (layout m t Argument) ts) (mark_item close_round ∷ xs))
        ∙ ap (λ qs. ps ++ mark "," ∷ qs) (spelled_all (layout m t Argument) (pieces m t Argument) ts (spelled t Argument h.0) h.1 xs)
        ∙ sym (append_assoc ps (more_arguments m (tree t ts)) (its xs))

    spelled_rest : (u : Tree) → IsTerm u → Spells (rest_items (layout m u Argument)) (rest_of_list m u (pieces m u))
    spelled_rest (variable n) h xs = refl
    spelled_rest (integer z) h xs = refl
    spelled_rest (atom f) h xs = rest_atom f (bytes_eq f (codes "[]")) xs
    spelled_rest (compound f ts) h xs =
        spelled_rest_form (form m f (arity ts)) f ts (IsForm-form m f (arity ts)) h.0 h.2
        (spelled_form (form m f (arity ts)) f ts Argument (IsForm-form m f (arity ts)) h.0 h.2) xs

    spelled_rest_form : (x : Form) (f : List ℕ) (ts : Trees) → IsForm f (arity ts) x → 1 ≤ arity ts → AreTerms ts →
        Spells (items (by_form m x f ts Argument)) (text.by_form m x f ts Argument) →
        Spells (rest_items (by_form m x f ts Argument)) (rest_by_form m x ts (text.by_form m x f ts))
    spelled_rest_form Call f no_trees is some h alone xs = absurd (omega arith)
    spelled_rest_form Call f (tree t ts) is some h alone xs =
        by_bar (call f (arguments m (layout m t Argument) ts)) (text.by_form m Call f (tree t ts) Argument) alone xs
    spelled_rest_form Curly f no_trees is some h alone xs = absurd (omega arith)
    spelled_rest_form Curly f (tree t ts) is some h alone xs =
        by_bar (curly (layout m t Whole)) (text.by_form m Curly f (tree t ts) Argument) alone xs
    spelled_rest_form Cell f no_trees is some h alone xs = absurd (omega arith)
    spelled_rest_form Cell f (tree t no_trees) is some h alone xs = absurd (omega arith)
    spelled_rest_form Cell f (tree t (tree u us)) is some h alone xs =
        ap its (rest-with_element (layout m t Argument) (layout m u Argument) xs)
        ∙ spelled_cell (mark_item comma) (layout m t Argument) (layout m u Argument) (pieces m t Argument) (rest_of_list m u (pieces m u)) (spelled t Argument h.0) (spelled_rest u h.1.0) xs
    spelled_rest_form (Prefix o) f no_trees is some h alone xs = absurd (omega arith)
    spelled_rest_form (Prefix o) f (tree t ts) is some h alone xs =
        rest_brackets (nat_lt 999 o.priority) (before f o (layout m t (Operand (right_of o)))) (text.by_form m (Prefix o) f (tree t ts) Argument) (λ xs. refl)
        alone xs
    spelled_rest_form (Infix o) f no_trees is some h alone xs = absurd (omega arith)
    spelled_rest_form (Infix o) f (tree t no_trees) is some h alone xs = absurd (omega arith)
    spelled_rest_form (Infix o) f (tree t (tree u us)) is some h alone xs =
        rest_brackets (nat_lt 999 o.priority) (between (layout m t (Operand (left_of o))) f o (layout m u (Operand (right_of o)))) (text.by_form m (Infix o) f (tree t (tree u us)) Argument) (λ xs. refl)
        alone xs
