use Rattle.std.proofs.Common.{◌≡◌, ℕ, ◌^◌, ◌<◌, ◌≤◌, true, false, ◌&&◌, List, [], ◌∷◌, length, get_or, take, refl, sym, ap, ◌∙◌, arith}
use Rattle.std.specs.List.{list_all}
use Rattle.std.specs.Str.{all_ascii_digits}
use Rattle.std.specs.Char.{is_ascii_digit, digit_value}
use Rattle.std.specs.Str.Parse.{digits_value}
use Rattle.std.proofs.lemmas.Bool.{and_right, cond-false}
use Rattle.std.proofs.lemmas.Bool.Decides.{nat_tests}
use Rattle.std.proofs.lemmas.Int.Digits.{digits_value_more}
use Rattle.std.proofs.lemmas.List.{length-take-le}
use Rattle.std.proofs.lemmas.List.Folds.{list_all_more, list_all_at}
use Rattle.std.proofs.lemmas.Str.Parse.{digits_value_short, numerals_by_value, tells_all_ascii_digits}
use Rattle.cmdline.specs.Numbers.{is_numeral}
use Rattle.cmdline.proofs.numbers.numeral.Goals as goal

digits_test : (ds : List ℕ) → all_ascii_digits ds ≡ list_all is_ascii_digit ds
digits_test [] = refl
digits_test (c ∷ cs) = ap (λ t. is_ascii_digit c && t) (digits_test cs)

-- fewer than 9 digits write a small number
small : (ds : List ℕ) (i : ℕ) → i < length ds → length ds ≤ 9 → list_all is_ascii_digit (take i ds) ≡ true → digits_value 10 (take i ds) < 10 ^ 8
small ds i inside short digits =
    digits_value_short (numerals_by_value _ tells_all_ascii_digits) (take i ds) 8 (digits_test (take i ds) ∙ digits)
    (let size : length (take i ds) ≡ i = length-take-le i ds (omega arith) in omega arith)

pub returns-then-not-is_ascii_digit : goal.returns-then-not-is_ascii_digit
returns-then-not-is_ascii_digit c =
    let fails : list_all is_ascii_digit c.args.digits.now ≡ false =
    list_all_at is_ascii_digit c.args.digits.now c.digits.b-index 0 c.digits-test.true (sym c.if-not-is_ascii_digit.ensures.value) in
    let none : is_numeral c.args.digits.now ≡ false = and_right _ _ fails in
    sym (cond-false _ _ _ none)

pub overflow_mul-n : goal.overflow_mul-n
overflow_mul-n c =
    let bound = small c.args.digits.now c.digits.b-index c.digits-test.true c.digits.invariant.short c.digits.invariant.digits in
    omega (arith, bound, c.digits.invariant.value)

pub overflow_add-n : goal.overflow_add-n
overflow_add-n c =
    let bound = small c.args.digits.now c.digits.b-index c.digits-test.true c.digits.invariant.short c.digits.invariant.digits in
    let digit : digit_value (get_or c.args.digits.now c.digits.b-index 0) ≡ c.from.result = grind (arith, nat_tests) in
    let less : digit_value (get_or c.args.digits.now c.digits.b-index 0) < 10 = c.if-not-is_ascii_digit.ensures.bound in
    omega (arith, bound, c.digits.invariant.value, digit, less)

pub digits-preserved : goal.digits-preserved
digits-preserved c =
    let digit : digit_value (get_or c.args.digits.now c.digits.b-index 0) ≡ c.from.result = grind (arith, nat_tests) in
    let here : is_ascii_digit (get_or c.args.digits.now c.digits.b-index 0) ≡ true = sym c.if-not-is_ascii_digit.ensures.value in
    record {
      value = omega (arith, digits_value_more 10 c.args.digits.now c.digits.b-index c.digits-test.true, c.digits.invariant.value, digit);
      digits = list_all_more is_ascii_digit c.args.digits.now c.digits.b-index 0 c.digits-test.true ∙ (λ k. c.digits.invariant.digits k && here k);
      short = c.digits.invariant.short;
    }
