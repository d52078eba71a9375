-- What is known of a compound by the form in which it is written.
use Rattle.std.specs.Prelude.{◌≡◌, refl, ℕ, Bool, true, false, ◌==◌, ◌&&◌, cond, List, Option, Some, None, codes, bytes_eq}
use Rattle.std.proofs.Common.{arith}
use Rattle.std.proofs.lemmas.Bool.Decides.{nat_tests}
use Rattle.std.proofs.lemmas.Option.{none-some}
use Rattle.op_table.specs.declared.op.Op.{Op}
use Rattle.op_table.specs.Table.{row, iso_prefix, iso_infix}
use Rattle.prolog_write.specs.declared.mode.Mode.{Mode}
use Rattle.prolog_write.specs.declared.mode.Mode.TheVariants.{Plain, Quoted, Canonical}
use Rattle.prolog_write.specs.declared.form.Form.{Form}
use Rattle.prolog_write.specs.declared.form.Form.TheVariants.{Curly, Cell, Prefix, Infix, Call}
use Rattle.prolog_write.specs.Text.{form, operators, form_of_one, form_of_two}
use Rattle.read_back.proofs.Ops.{same_name}

-- no list cell
abbrev pub NoCell : List ℕ → ℕ → Type 0
NoCell f k = (bytes_eq f (codes ".") && k == 2) ≡ false

-- the arguments and the name that go with a form
abbrev pub IsForm : List ℕ → ℕ → Form → Type 0
IsForm f k Curly = (k ≡ 1) × (f ≡ codes "{}") × NoCell f k
IsForm f k Cell = (k ≡ 2) × (f ≡ codes ".")
IsForm f k (Prefix o) = (k ≡ 1) × (row f iso_prefix ≡ Some o) × NoCell f k
IsForm f k (Infix o) = (k ≡ 2) × (row f iso_infix ≡ Some o) × NoCell f k
IsForm f k Call = NoCell f k

and_no : (a b : Bool) → b ≡ false → (a && b) ≡ false
and_no true b e = e
and_no false b e = refl

no_and : (a b : Bool) → a ≡ false → (a && b) ≡ false
no_and a b e = rw e refl

not_two : (k : ℕ) → k ≡ 1 → (k == 2) ≡ false
not_two k e = rw e refl

allowed : (m : Mode) (o : Option Op) (p : Op) → operators m o ≡ Some p → o ≡ Some p
allowed Plain o p e = e
allowed Quoted o p e = e
allowed Canonical o p e = absurd (none-some p e)

one_of : (f : List ℕ) (k : ℕ) (o : Option Op) → k ≡ 1 → ((p : Op) → o ≡ Some p → row f iso_prefix ≡ Some p) → IsForm f k (form_of_one o)
one_of f k None e is = and_no (bytes_eq f (codes ".")) (k == 2) (not_two k e)
one_of f k (Some o) e is = (e, is o refl, and_no (bytes_eq f (codes ".")) (k == 2) (not_two k e))

two_of : (f : List ℕ) (k : ℕ) (o : Option Op) → k ≡ 2 → bytes_eq f (codes ".") ≡ false → ((p : Op) → o ≡ Some p → row f iso_infix ≡ Some p) → IsForm f k (form_of_two o)
two_of f k None e other is = no_and (bytes_eq f (codes ".")) (k == 2) other
two_of f k (Some o) e other is = (e, is o refl, no_and (bytes_eq f (codes ".")) (k == 2) other)

module _ (m : Mode) (f : List ℕ) (k : ℕ) where
  one : (b : Bool) → k ≡ 1 → bytes_eq f (codes "{}") ≡ b → IsForm f k (cond b Curly (form_of_one (operators m (row f iso_prefix))))
  one true e is = (e, same_name f (codes "{}") is, and_no (bytes_eq f (codes ".")) (k == 2) (not_two k e))
  one false e is = one_of f k (operators m (row f iso_prefix)) e (allowed m (row f iso_prefix))

  two : (b : Bool) → k ≡ 2 → bytes_eq f (codes ".") ≡ b → IsForm f k (cond b Cell (form_of_two (operators m (row f iso_infix))))
  two true e is = (e, same_name f (codes ".") is)
  two false e is = two_of f k (operators m (row f iso_infix)) e is (allowed m (row f iso_infix))

  at_two : (b : Bool) → (k == 2) ≡ b → IsForm f k (cond b (cond (bytes_eq f (codes ".")) Cell (form_of_two (operators m (row f iso_infix)))) Call)
  at_two true e = two (bytes_eq f (codes ".")) (let only : k ≡ 2 = grind (arith, nat_tests) in only) refl
  at_two false e = and_no (bytes_eq f (codes ".")) (k == 2) e

  at_one : (b : Bool) → (k == 1) ≡ b → IsForm f k (cond b (cond (bytes_eq f (codes "{}")) Curly (form_of_one (operators m (row f iso_prefix)))) (cond (k == 2) (cond (bytes_eq f (codes ".")) Cell (form_of_two (operators m (row f iso_infix)))) Call))
  at_one true e = one (bytes_eq f (codes "{}")) (let only : k ≡ 1 = grind (arith, nat_tests) in only) refl
  at_one false e = at_two (k == 2) refl

  pub IsForm-form : IsForm f k (form m f k)
  unfolding form
  IsForm-form = at_one (k == 1) refl
