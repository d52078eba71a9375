-- How many arguments each form takes.
use Rattle.std.proofs.Common.{◌≡◌, ℕ, Bool, true, false, cond, ◌==◌, bytes_eq, List}
use Rattle.std.specs.Prelude.{Option, Some, None, codes, refl, ⊤}
use Rattle.std.proofs.Common.{arith}
use Rattle.std.proofs.lemmas.Bool.Decides.{nat_tests}
use Rattle.op_table.specs.declared.op.Op.{Op}
use Rattle.op_table.specs.Table.{row, iso_prefix, iso_infix}
use Rattle.prolog_write.specs.declared.mode.Mode.{Mode}
use Rattle.prolog_write.specs.declared.form.Form.{Form}
use Rattle.prolog_write.specs.declared.form.Form.TheVariants.{Curly, Cell, Prefix, Infix, Call}
use Rattle.prolog_write.specs.Text.{form, operators, form_of_one, form_of_two}

abbrev pub Takes : ℕ → Form → Type 0
Takes k Curly = k ≡ 1
Takes k (Prefix o) = k ≡ 1
Takes k Cell = k ≡ 2
Takes k (Infix o) = k ≡ 2
Takes k Call = ⊤

one_of : (k : ℕ) (o : Option Op) → k ≡ 1 → Takes k (form_of_one o)
one_of k None e = tt
one_of k (Some o) e = e

two_of : (k : ℕ) (o : Option Op) → k ≡ 2 → Takes k (form_of_two o)
two_of k None e = tt
two_of k (Some o) e = e

one : (k : ℕ) (b : Bool) (o : Option Op) → k ≡ 1 → Takes k (cond b Curly (form_of_one o))
one k true o e = e
one k false o e = one_of k o e

two : (k : ℕ) (b : Bool) (o : Option Op) → k ≡ 2 → Takes k (cond b Cell (form_of_two o))
two k true o e = e
two k false o e = two_of k o e

at_two : (k : ℕ) (b c : Bool) (o : Option Op) → (k == 2) ≡ b → Takes k (cond b (cond c Cell (form_of_two o)) Call)
at_two k true c o e = two k c o (let two : k ≡ 2 = grind (arith, nat_tests) in two)
at_two k false c o e = tt

at_one : (k : ℕ) (a b c : Bool) (o p : Option Op) → (k == 1) ≡ a → Takes k (cond a (cond b Curly (form_of_one o)) (cond (k == 2) (cond c Cell (form_of_two p)) Call))
at_one k true b c o p e = one k b o (let only : k ≡ 1 = grind (arith, nat_tests) in only)
at_one k false b c o p e = at_two k (k == 2) c p refl

pub takes : (m : Mode) (f : List ℕ) (k : ℕ) → Takes k (form m f k)
unfolding form
takes m f k = at_one k (k == 1) (bytes_eq f (codes "{}")) (bytes_eq f (codes ".")) (operators m (row f iso_prefix)) (operators m (row f iso_infix)) refl
