-- The reading of a term's layout means the term, with the keys of its variables for their numbers.
use Rattle.std.specs.Prelude.{◌≡◌, refl, ℕ, ℤ, pos, negsuc, ◌≤◌, Bool, true, false, ◌&&◌, cond, nat_lt, List, codes, bytes_eq}
use Rattle.std.proofs.Common.{arith, ap, ◌∙◌, sym}
use Rattle.term_core.specs.Tree.{Tree, variable, integer, atom, compound, Trees, no_trees, tree, arity, IsTerm, AreTerms}
use Rattle.term_core.specs.Variables.{map_variables, map_all_variables}
use Rattle.op_table.specs.Table.{left_of, right_of}
use Rattle.prolog_grammar.specs.Readings.{meaning, meanings, cells, pair, dot, nil}
use Rattle.prolog_write.specs.declared.mode.Mode.{Mode}
use Rattle.prolog_write.specs.declared.place.Place.{Place}
use Rattle.prolog_write.specs.declared.place.Place.TheVariants.{Whole, Argument, Operand}
use Rattle.prolog_write.specs.declared.form.Form.{Form}
use Rattle.prolog_write.specs.declared.form.Form.TheVariants.{Curly, Cell, Prefix, Infix, Call}
use Rattle.prolog_write.specs.Text.{form, is_operand, is_operator, most}
use Rattle.read_back.proofs.Spelled.{is_tight, infix_item}
use Rattle.read_back.proofs.TermLayout.{Layout, number, plain, listed, partial, before, between, one, in_brackets, with_element, layout, by_form, arguments, read_as, all_read_as}
use Rattle.read_back.proofs.Ops.{same_name}
use Rattle.read_back.proofs.Forms.{IsForm, IsForm-form}

-- the key of each variable
module _ (key : ℕ → ℕ) where
  abbrev Means : Layout → Tree → Type 0
  Means l t = (d : Bool) → meaning (read_as key d l) ≡ t

  means_integer : (z : ℤ) → Means (number z) (integer z)
  unfolding meaning read_as
  means_integer (pos n) d = refl
  means_integer (negsuc n) d = refl

  by_brackets : (b : Bool) (l : Layout) (t : Tree) → Means l t → Means (in_brackets b l) t
  unfolding meaning read_as
  by_brackets true l t e d = e true
  by_brackets false l t e d = e d

  by_nil : (e : Layout) (f : List ℕ) (b : Bool) → bytes_eq f nil ≡ b → (d : Bool) → meaning (read_as key d (cond b (listed (one e)) (partial (one e) (plain f)))) ≡ pair dot (meaning (read_as key true e)) (atom f)
  unfolding meaning read_as all_read_as cells
  by_nil e f true is d = ap (λ g. pair dot (meaning (read_as key true e)) (atom g)) (sym (same_name f nil is))
  by_nil e f false is d = refl

  means_list : (e l : Layout) (d : Bool) → meaning (read_as key d (with_element e l)) ≡ pair dot (meaning (read_as key true e)) (meaning (read_as key true l))
  unfolding meaning read_as all_read_as cells
  means_list e (plain f) d = by_nil e f (bytes_eq f nil) refl d
  means_list e (number z) d = refl
  means_list e l d = refl

  module _ (m : Mode) where
    mutual
      unfolding layout by_form arguments read_as all_read_as meaning meanings

      pub means : (t : Tree) (at : Place) → IsTerm t → Means (layout m t at) (map_variables key t)
      means (variable n) at h d = refl
      means (integer z) at h d = means_integer z d
      means (atom f) at h d = by_brackets (is_operand at && is_operator f) (plain f) (atom f) (λ d. refl) d
      means (compound f ts) at h d = means_form (form m f (arity ts)) f ts at (IsForm-form m f (arity ts)) h.0 h.2 d

      means_form : (x : Form) (f : List ℕ) (ts : Trees) (at : Place) → IsForm f (arity ts) x → 1 ≤ arity ts → AreTerms ts → Means (by_form m x f ts at) (compound f (map_all_variables key ts))
      means_form Call f no_trees at is some h d = absurd (omega arith)
      means_form Call f (tree t ts) at is some h d = ap (compound f) (means_all (layout m t Argument) (map_variables key t) ts (means t Argument h.0) h.1)
      means_form Curly f no_trees at is some h d = absurd (omega arith)
      means_form Curly f (tree t no_trees) at is some h d = rw (is.1) (ap (λ u. compound (codes "{}") (tree u no_trees)) (means t Whole h.0 true))
      means_form Curly f (tree t (tree u us)) at is some h d = absurd (omega arith)
      means_form Cell f no_trees at is some h d = absurd (omega arith)
      means_form Cell f (tree t no_trees) at is some h d = absurd (omega arith)
      means_form Cell f (tree t (tree u no_trees)) at is some h d =
          rw (is.1) (means_list (layout m t Argument) (layout m u Argument) d ∙ rw (means t Argument h.0 true, means u Argument h.1.0 true) refl)
      means_form Cell f (tree t (tree u (tree v vs))) at is some h d = absurd (omega arith)
      means_form (Prefix o) f no_trees at is some h d = absurd (omega arith)
      means_form (Prefix o) f (tree t no_trees) at is some h d =
          by_brackets (nat_lt (most at) o.priority) (before f o (layout m t (Operand (right_of o)))) (compound f (tree (map_variables key t) no_trees))
          (λ d. ap (λ u. compound f (tree u no_trees)) (means t (Operand (right_of o)) h.0 false)) d
      means_form (Prefix o) f (tree t (tree u us)) at is some h d = absurd (omega arith)
      means_form (Infix o) f no_trees at is some h d = absurd (omega arith)
      means_form (Infix o) f (tree t no_trees) at is some h d = absurd (omega arith)
      means_form (Infix o) f (tree t (tree u no_trees)) at is some h d =
          by_brackets (nat_lt (most at) o.priority) (between (layout m t (Operand (left_of o))) f o (layout m u (Operand (right_of o)))) (compound f (tree (map_variables key t) (tree (map_variables key u) no_trees)))
          (λ d. rw (means t (Operand (left_of o)) h.0 d, means u (Operand (right_of o)) h.1.0 (is_tight (infix_item f))) refl) d
      means_form (Infix o) f (tree t (tree u (tree v vs))) at is some h d = absurd (omega arith)

      means_all : (l : Layout) (t : Tree) (ts : Trees) → Means l t → AreTerms ts → meanings (all_read_as key (arguments m l ts)) ≡ tree t (map_all_variables key ts)
      means_all l t no_trees e h = ap (λ u. tree u no_trees) (e true)
      means_all l t (tree u us) e h = rw (e true, means_all (layout m u Argument) (map_variables key u) us (means u Argument h.0) h.1) refl
