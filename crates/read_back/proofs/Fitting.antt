-- How a term is laid out fits the rules of the grammar.
use Rattle.std.specs.Prelude.{◌≡◌, refl, ℕ, ℤ, pos, negsuc, Bool, true, false, not, cond, ◌&&◌, ◌||◌, nat_le, nat_lt, List, Some, codes, bytes_eq}
use Rattle.std.proofs.Common.{arith, inl, inr}
use Rattle.std.proofs.lemmas.Bool.{false≢true, and_from}
use Rattle.term_core.specs.Tree.{Tree, variable, integer, atom, compound, Trees, no_trees, tree, arity}
use Rattle.op_table.specs.declared.op.Op.{Op}
use Rattle.op_table.specs.declared.op.OpKind.{OpKind}
use Rattle.op_table.specs.declared.op.OpKind.TheVariants.{Xfx, Xfy, Yfx, Fx, Fy}
use Rattle.op_table.specs.Table.{left_of, right_of}
use Rattle.prolog_grammar.specs.declared.grammar.lexeme.Word.{Word}
use Rattle.prolog_grammar.specs.Readings.{Reading, priority, joins_front, ends}
use Rattle.prolog_grammar.specs.Readings as g
use Rattle.prolog_write.specs.declared.mode.Mode.{Mode}
use Rattle.prolog_write.specs.declared.place.Place.{Place}
use Rattle.prolog_write.specs.declared.place.Place.TheVariants.{Whole, Argument, Operand}
use Rattle.prolog_write.specs.declared.form.Form.{Form}
use Rattle.prolog_write.specs.declared.form.Form.TheVariants.{Curly, Cell, Prefix, Infix, Call}
use Rattle.prolog_write.specs.Text.{form, is_operand, is_operator, most}
use Rattle.read_back.proofs.Spelled.{word, infix_lexeme, is_tight, infix_item}
use Rattle.read_back.proofs.TermLayout.{Layout, unknown, number, plain, call, round, curly, listed, partial, before, between, Layouts, one, and, in_brackets, with_element, layout, by_form, arguments, read_as, all_read_as}
use Rattle.read_back.proofs.Ops.{IsOperator, apart, before_row, between_row, prefix_small, infix_small, row-infix_lexeme}
use Rattle.read_back.proofs.Forms.{IsForm, IsForm-form}

none_least : (n : ℕ) → nat_le 0 n ≡ true
none_least n = grind arith

at_least : (p n : ℕ) → nat_lt n p ≡ false → nat_le p n ≡ true
at_least p n e = grind (arith, e)

le_self : (n : ℕ) → nat_le n n ≡ true
le_self n = grind arith

le_trans : (a b c : ℕ) → nat_le a b ≡ true → nat_le b c ≡ true → nat_le a c ≡ true
le_trans a b c e f = grind (arith, e, f)

rights : (p : ℕ) (k : OpKind) → nat_le (right_of (record { priority = p; kind = k })) p ≡ true
rights p Xfx = grind arith
rights p Xfy = grind arith
rights p Yfx = grind arith
rights p Fx = grind arith
rights p Fy = grind arith

right_below : (o : Op) (n : ℕ) → nat_le o.priority n ≡ true → nat_le (right_of o) n ≡ true
right_below o n e = le_trans (right_of o) o.priority n (rights o.priority o.kind) e

negated : (a : Bool) → a ≡ false → not a ≡ true
negated a e = rw e refl

or_left : (a b : Bool) → a ≡ false → (not a || b) ≡ true
or_left a b e = rw e refl

no_operator : (o i : Bool) → (o && i) ≡ false → o ≡ true → i ≡ false
no_operator true i e f = e
no_operator false i e f = absurd (false≢true f)

-- the key of each variable
module _ (key : ℕ → ℕ) where
  abbrev Quiet : Layout → Type 0
  Quiet l = (d : Bool) (f : List ℕ) (p : Op) → between_row f ≡ Some p → nat_le (priority (read_as key d l)) (left_of p) ≡ true → g.quiet before_row between_row (infix_lexeme f) (read_as key d l) ≡ true

  -- how a term stands at a place
  pub record Right (l : Layout) (at : Place) : Type 0 where
    pub fits : (d : Bool) → g.Fits before_row between_row (read_as key d l)
    pub priority : (d : Bool) → nat_le (priority (read_as key d l)) (most at) ≡ true
    pub apart : (w : Word) → joins_front w (read_as key false l) ≡ false
    pub quiet : is_operand at ≡ true → Quiet l

  Fill : Layouts → Type 0
  Fill ls = g.FitAll before_row between_row (all_read_as key ls)

  -- an operator and its operands, before brackets
  record Core (l : Layout) (p : ℕ) : Type 0 where
    fits : (d : Bool) → g.Fits before_row between_row (read_as key d l)
    priority : (d : Bool) → priority (read_as key d l) ≡ p
    apart : (w : Word) → joins_front w (read_as key false l) ≡ false
    quiet : Quiet l

  by_brackets : (at : Place) (p : ℕ) (l : Layout) (b : Bool) → nat_lt (most at) p ≡ b → nat_le p 1200 ≡ true → Core l p → Right (in_brackets b l) at
  unfolding g.Fits g.quiet read_as
  by_brackets at p l true e small c =
      record { fits = λ d. (c.fits true, rw (c.priority true) small); priority = λ d. none_least (most at); apart = λ w. refl; quiet = λ t d f q i h. refl }
  by_brackets at p l false e small c =
      record { fits = c.fits; priority = λ d. rw (c.priority d) (at_least p (most at) e); apart = c.apart; quiet = λ t. c.quiet }

  right_atom : (at : Place) (f : List ℕ) (b : Bool) → (is_operand at && is_operator f) ≡ b → Right (in_brackets b (plain f)) at
  unfolding g.Fits g.quiet read_as g.is_operator is_operator
  right_atom at f true e =
      record { fits = λ d. (tt, refl); priority = λ d. none_least (most at); apart = λ w. refl; quiet = λ t d h q i l. refl }
  right_atom at f false e =
      record {
        fits = λ d. tt;
        priority = λ d. none_least (most at);
        apart = λ w. refl;
        quiet = λ t d h q i l. or_left (is_operator f) (ends (infix_lexeme h)) (no_operator (is_operand at) (is_operator f) e t);
      }

  closed_list : (at : Place) (ls : Layouts) → Fill ls → Right (listed ls) at
  unfolding g.Fits g.quiet read_as Fill
  closed_list at ls h =
      record { fits = λ d. h; priority = λ d. none_least (most at); apart = λ w. refl; quiet = λ t d f q i l. refl }

  open_list : (at : Place) (ls : Layouts) (l : Layout) → Fill ls → g.Fits before_row between_row (read_as key true l) → nat_le (priority (read_as key true l)) 999 ≡ true → Right (partial ls l) at
  unfolding g.Fits g.quiet read_as Fill
  open_list at ls l h f p =
      record { fits = λ d. (h, f, p); priority = λ d. none_least (most at); apart = λ w. refl; quiet = λ t d f q i l. refl }

  fill_one : (l : Layout) → Right l Argument → Fill (one l)
  unfolding g.FitAll all_read_as Fill
  fill_one l r = (r.fits true, r.priority true)

  fill_and : (l : Layout) (ls : Layouts) → Right l Argument → Fill ls → Fill (and l ls)
  unfolding g.FitAll all_read_as Fill
  fill_and l ls r h = (r.fits true, r.priority true, h)

  by_bar : (at : Place) (e l : Layout) → Right e Argument → Right l Argument → Right (partial (one e) l) at
  by_bar at e l r s = open_list at (one e) l (fill_one e r) (s.fits true) (s.priority true)

  by_nil : (at : Place) (e : Layout) (f : List ℕ) (b : Bool) → Right e Argument → Right (plain f) Argument → Right (cond b (listed (one e)) (partial (one e) (plain f))) at
  by_nil at e f true r s = closed_list at (one e) (fill_one e r)
  by_nil at e f false r s = by_bar at e (plain f) r s

  right_list : (at : Place) (e l : Layout) → Right e Argument → Right l Argument → Right (with_element e l) at
  unfolding g.Fits read_as Fill
  right_list at e (plain f) r s = by_nil at e f (bytes_eq f (codes "[]")) r s
  right_list at e (listed ls) r s = closed_list at (and e ls) (fill_and e ls r (s.fits true))
  right_list at e (partial ls l) r s = let rest = s.fits true in open_list at (and e ls) l (fill_and e ls r rest.0) rest.1 rest.2
  right_list at e l r s = by_bar at e l r s

  right_call : (at : Place) (f : List ℕ) (ls : Layouts) → Fill ls → Right (call f ls) at
  unfolding g.Fits g.quiet read_as Fill
  right_call at f ls h =
      record { fits = λ d. h; priority = λ d. none_least (most at); apart = λ w. refl; quiet = λ t d f q i l. refl }

  right_curly : (at : Place) (l : Layout) → Right l Whole → Right (curly l) at
  unfolding g.Fits g.quiet read_as
  right_curly at l r =
      record { fits = λ d. (r.fits true, r.priority true); priority = λ d. none_least (most at); apart = λ w. refl; quiet = λ t d f q i l. refl }

  right_round : (at : Place) (f : List ℕ) → Right (round (plain f)) at
  unfolding g.Fits g.quiet read_as
  right_round at f =
      record { fits = λ d. (tt, refl); priority = λ d. none_least (most at); apart = λ w. refl; quiet = λ t d f q i l. refl }

  right_number : (at : Place) (z : ℤ) → Right (number z) at
  unfolding g.Fits g.quiet read_as
  right_number at (pos n) =
      record { fits = λ d. tt; priority = λ d. none_least (most at); apart = λ w. refl; quiet = λ t d f q i l. refl }
  right_number at (negsuc n) =
      record { fits = λ d. refl; priority = λ d. none_least (most at); apart = λ w. refl; quiet = λ t d f q i l. refl }

  right_unknown : (at : Place) (n : ℕ) → Right (unknown n) at
  unfolding g.Fits g.quiet read_as
  right_unknown at n =
      record { fits = λ d. tt; priority = λ d. none_least (most at); apart = λ w. refl; quiet = λ t d f q i l. refl }

  -- the token goes on neither with the operator's term nor with its right operand
  still : (f h : List ℕ) (o p : Op) (r : Reading) → IsOperator f o → between_row h ≡ Some p → nat_le o.priority (left_of p) ≡ true →
      nat_le (priority r) (right_of o) ≡ true → (nat_le (priority r) (left_of p) ≡ true → g.quiet before_row between_row (infix_lexeme h) r ≡ true) →
      (not (g.goes_on before_row between_row (right_of o) (priority r) (infix_lexeme h)) && g.quiet before_row between_row (infix_lexeme h) r) ≡ true
  unfolding g.goes_on
  still f h o p r is i l b q =
      and_from _ _ (negated _ (rw (row-infix_lexeme h p i) (below (apart f h o p is i l)))) (q (le_trans (priority r) (right_of o) (left_of p) b (right_below o (left_of p) l)))
    where
      below : nat_le p.priority (right_of o) ≡ false → (nat_le p.priority (right_of o) && nat_le (priority r) (left_of p)) ≡ false
      below e = rw e refl

  core_prefix : (f : List ℕ) (o : Op) (l : Layout) → before_row f ≡ Some o → Right l (Operand (right_of o)) → Core (before f o l) o.priority
  unfolding g.Fits g.quiet read_as
  core_prefix f o l e r = record {
    fits = λ d. (r.fits false, e, r.priority false, r.apart (word f));
    priority = λ d. refl;
    apart = λ w. refl;
    quiet = λ d h p i k. still f h o p (read_as key false l) (inl e) i k (r.priority false) (r.quiet refl false h p i);
  }

  core_infix : (l : Layout) (f : List ℕ) (o : Op) (r : Layout) → between_row f ≡ Some o → Right l (Operand (left_of o)) → Right r (Operand (right_of o)) → Core (between l f o r) o.priority
  unfolding g.Fits g.quiet read_as
  core_infix l f o r e s t =
      let d = is_tight (infix_item f) in
      record {
        fits = λ c. (s.fits c, t.fits d, row-infix_lexeme f o e, s.priority c, t.priority d, s.quiet refl c f o e (s.priority c));
        priority = λ c. refl;
        apart = s.apart;
        quiet = λ c h p i k. still f h o p (read_as key d r) (inr e) i k (t.priority d) (t.quiet refl d h p i);
      }

  module _ (m : Mode) where
    mutual
      unfolding layout by_form arguments

      pub right : (t : Tree) (at : Place) → Right (layout m t at) at
      right (variable n) at = right_unknown at n
      right (integer z) at = right_number at z
      right (atom f) at = right_atom at f (is_operand at && is_operator f) refl
      right (compound f ts) at = right_form (form m f (arity ts)) f ts at (IsForm-form m f (arity ts))

      right_form : (x : Form) (f : List ℕ) (ts : Trees) (at : Place) → IsForm f (arity ts) x → Right (by_form m x f ts at) at
      right_form Call f (tree t ts) at is = right_call at f (arguments m (layout m t Argument) ts) (right_all (layout m t Argument) ts (right t Argument))
      right_form Curly f (tree t ts) at is = right_curly at (layout m t Whole) (right t Whole)
      right_form Cell f (tree t (tree u us)) at is = right_list at (layout m t Argument) (layout m u Argument) (right t Argument) (right u Argument)
      right_form (Prefix o) f (tree t ts) at is =
          by_brackets at o.priority (before f o (layout m t (Operand (right_of o)))) (nat_lt (most at) o.priority) refl (prefix_small f o is.1)
          (core_prefix f o (layout m t (Operand (right_of o))) is.1 (right t (Operand (right_of o))))
      right_form (Infix o) f (tree t (tree u us)) at is =
          by_brackets at o.priority (between (layout m t (Operand (left_of o))) f o (layout m u (Operand (right_of o)))) (nat_lt (most at) o.priority) refl (infix_small f o is.1)
          (core_infix (layout m t (Operand (left_of o))) f o (layout m u (Operand (right_of o))) is.1 (right t (Operand (left_of o))) (right u (Operand (right_of o))))
      right_form x f ts at is = right_round at f

      right_all : (l : Layout) (ts : Trees) → Right l Argument → Fill (arguments m l ts)
      right_all l no_trees r = fill_one l r
      right_all l (tree t ts) r = fill_and l (arguments m (layout m t Argument) ts) r (right_all (layout m t Argument) ts (right t Argument))
