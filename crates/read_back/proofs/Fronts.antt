-- What stands at the front of a text that was written.
use Rattle.std.specs.Prelude.{◌≡◌, refl, ℕ, suc, ◌+◌, ◌^◌, ◌≤◌, Bool, true, false, not, ◌&&◌, ◌||◌, ◌==◌, nat_lt, [], ◌∷◌, ◌++◌, length, if◌then◌else◌, slice_index}
use Rattle.std.specs.List.{list_all, prefix_len}
use Rattle.std.specs.Char.{is_whitespace, is_ascii_lowercase, is_ascii_digit, is_digit}
use Rattle.std.proofs.Common.{arith, ap, ◌∙◌, sym}
use Rattle.std.proofs.Math.Seq.{take-append_seam}
use Rattle.std.proofs.lemmas.Bool.{and_parts, and_from, and_left, and_right, not-true, eqb-true, le-ltb, false≢true}
use Rattle.std.proofs.lemmas.Bool.Decides.{nat_tests}
use Rattle.term_core.specs.Tokens.{Text, Kind, token, name_token, variable_token, integer_token, open_token, close_token, open_list_token, close_list_token, open_curly_token, close_curly_token, comma_token, bar_token}
use Rattle.term_core.specs.Tokens as spec
use Rattle.prolog_lex.specs.Scanned.{front, continues}
use Rattle.prolog_write.specs.Text.{is_symbol, is_word}
use Rattle.read_back.proofs.Classes.{lower, digit, symbol, word_below, symbol_below, continues_is, symbol_is}

-- these characters are a token of this kind, where the next one passes a test
pub record IsToken (kind : Kind) (w : Text) (before : ℕ → Bool) : Type 0 where
  pub some : 1 ≤ length w
  pub reads : (rest : Text) → before (slice_index rest 0) ≡ true → front (w ++ rest) ≡ token kind (length w)

abbrev pub ends_word : ℕ → Bool
ends_word d = not (continues d)

abbrev pub ends_symbols : ℕ → Bool
ends_symbols d = not (spec.is_symbol d)

-- no letter, digit, point or quote
abbrev pub ends_number : ℕ → Bool
ends_number d = not (continues d) && (not (d == 46) && not (d == 39))

abbrev pub ends_quote : ℕ → Bool
ends_quote d = not (d == 39)

abbrev pub is_any : ℕ → Bool
is_any d = true

-- all of w passes and the rest doesn't begin with what passes
pub run_of : (p : ℕ → Bool) (w rest : Text) → list_all p w ≡ true → p (slice_index rest 0) ≡ false → prefix_len p (w ++ rest) ≡ length w
run_of p [] [] e s = refl
run_of p [] (d ∷ rest) e s = rw s refl
run_of p (c ∷ w) rest e s = let h = and_parts (p c) (list_all p w) e in rw (h.0, run_of p w rest h.1 s) (omega arith)

-- each that passes p passes q
pub all_too : (p q : ℕ → Bool) → ((c : ℕ) → p c ≡ true → q c ≡ true) → (w : Text) → list_all p w ≡ true → list_all q w ≡ true
all_too p q h [] e = refl
all_too p q h (c ∷ w) e = let f = and_parts (p c) (list_all p w) e in and_from _ _ (h c f.0) (all_too p q h w f.1)

word_goes_on : (c : ℕ) → is_word c ≡ true → continues c ≡ true
word_goes_on c e = continues_is c (word_below c e) ∙ e

symbol_goes_on : (c : ℕ) → is_symbol c ≡ true → spec.is_symbol c ≡ true
symbol_goes_on c e = symbol_is c (symbol_below c e) ∙ e

-- ---- names of letters, and variables

pub word_token : (c : ℕ) (w : Text) → is_ascii_lowercase c ≡ true → list_all is_word w ≡ true → IsToken name_token (c ∷ w) ends_word
unfolding spec.front
word_token c w e f = record { some = omega arith; reads = reads }
  where
    reads : (rest : Text) → ends_word (slice_index rest 0) ≡ true → front (c ∷ w ++ rest) ≡ token name_token (suc (length w))
    reads rest s =
        let l = lower c e in
        let n = run_of continues w rest (all_too is_word continues word_goes_on w f) (not-true _ s) in
        rw (l.space, l.percent, l.slash, l.begins, n) (ap (λ k. token name_token k) (omega arith))

pub underscore_token : (w : Text) → list_all is_word w ≡ true → IsToken variable_token (95 ∷ w) ends_word
unfolding spec.front spec.begins_name
underscore_token w f = record { some = omega arith; reads = reads }
  where
    reads : (rest : Text) → ends_word (slice_index rest 0) ≡ true → front (95 ∷ w ++ rest) ≡ token variable_token (suc (length w))
    reads rest s =
        let n = run_of continues w rest (all_too is_word continues word_goes_on w f) (not-true _ s) in
        rw n (ap (λ k. token variable_token k) (omega arith))

-- ---- names of symbol characters, that open no comment and are no end

no_star : (d : ℕ) → ends_symbols d ≡ true → (d == 42) ≡ false
unfolding spec.is_symbol
no_star d s = grind (arith, nat_tests, s)

no_comment : (c : ℕ) (w rest : Text) → (c == 47 && slice_index w 0 == 42) ≡ false → ends_symbols (slice_index rest 0) ≡ true → (c == 47 && slice_index (w ++ rest) 0 == 42) ≡ false
no_comment c [] rest o s = and_right _ _ (no_star _ s)
no_comment c (d ∷ w) rest o s = o

alone : (a : Bool) → (a && true) ≡ false → a ≡ false
alone true e = e
alone false e = refl

no_end : (c : ℕ) (w rest : Text) → list_all is_symbol w ≡ true → (c == 46 && length w == 0) ≡ false → spec.is_end (c ∷ w ++ rest) ≡ false
no_end c [] rest e p = and_left _ _ (alone (c == 46) p)
no_end c (d ∷ w) rest e p =
    let longer : (length (c ∷ d ∷ w ++ rest) == 1) ≡ false = grind (arith, nat_tests) in
    let f = symbol d (and_parts _ _ e).0 in
    let plain : (length (c ∷ d ∷ w ++ rest) == 1 || is_whitespace d || d == 37) ≡ false = rw (longer, f.space, f.percent) refl in
    and_right (c == 46) _ plain

pub symbols_token : (c : ℕ) (w : Text) → list_all is_symbol (c ∷ w) ≡ true → (c == 47 && slice_index w 0 == 42) ≡ false → (c == 46 && length w == 0) ≡ false → IsToken name_token (c ∷ w) ends_symbols
unfolding spec.front
symbols_token c w e o p = record { some = omega arith; reads = reads }
  where
    reads : (rest : Text) → ends_symbols (slice_index rest 0) ≡ true → front (c ∷ w ++ rest) ≡ token name_token (suc (length w))
    reads rest s =
        let i = and_parts (is_symbol c) (list_all is_symbol w) e in
        let f = symbol c i.0 in
        let n = run_of spec.is_symbol w rest (all_too is_symbol spec.is_symbol symbol_goes_on w i.1) (not-true _ s) in
        rw (f.space, f.percent, no_comment c w rest o s, f.name, f.variable, f.digit, f.quote, f.double, no_end c w rest i.1 p, symbol_goes_on c i.0, n) (ap (λ k. token name_token k) (omega arith))

-- ---- punctuation

pub open_round : IsToken open_token (40 ∷ []) is_any
unfolding spec.front spec.begins_name spec.is_symbol spec.mark
open_round = record { some = omega arith; reads = λ rest s. refl }

pub close_round : IsToken close_token (41 ∷ []) is_any
unfolding spec.front spec.begins_name spec.is_symbol spec.mark
close_round = record { some = omega arith; reads = λ rest s. refl }

pub open_square : IsToken open_list_token (91 ∷ []) is_any
unfolding spec.front spec.begins_name spec.is_symbol spec.mark
open_square = record { some = omega arith; reads = λ rest s. refl }

pub close_square : IsToken close_list_token (93 ∷ []) is_any
unfolding spec.front spec.begins_name spec.is_symbol spec.mark
close_square = record { some = omega arith; reads = λ rest s. refl }

pub open_curly : IsToken open_curly_token (123 ∷ []) is_any
unfolding spec.front spec.begins_name spec.is_symbol spec.mark
open_curly = record { some = omega arith; reads = λ rest s. refl }

pub close_curly : IsToken close_curly_token (125 ∷ []) is_any
unfolding spec.front spec.begins_name spec.is_symbol spec.mark
close_curly = record { some = omega arith; reads = λ rest s. refl }

pub comma : IsToken comma_token (44 ∷ []) is_any
unfolding spec.front spec.begins_name spec.is_symbol spec.mark
comma = record { some = omega arith; reads = λ rest s. refl }

pub bar : IsToken bar_token (124 ∷ []) is_any
unfolding spec.front spec.begins_name spec.is_symbol spec.mark
bar = record { some = omega arith; reads = λ rest s. refl }

pub cut : IsToken name_token (33 ∷ []) is_any
unfolding spec.front spec.begins_name spec.is_symbol spec.mark
cut = record { some = omega arith; reads = λ rest s. refl }

pub semicolon : IsToken name_token (59 ∷ []) is_any
unfolding spec.front spec.begins_name spec.is_symbol spec.mark
semicolon = record { some = omega arith; reads = λ rest s. refl }

-- ---- integers

digit_is : (c : ℕ) → is_digit c 10 ≡ is_ascii_digit c
digit_is c = grind (arith, nat_tests)

pub digit_word : (c : ℕ) → is_ascii_digit c ≡ true → is_word c ≡ true
unfolding is_word
digit_word c e = grind (arith, e)

digit_read : (c : ℕ) → is_ascii_digit c ≡ true → is_digit c 10 ≡ true
digit_read c e = digit_is c ∙ e

word_digit : (d : ℕ) → continues d ≡ false → (b : Bool) → is_ascii_digit d ≡ b → b ≡ false
word_digit d e true f = absurd (false≢true (sym e ∙ word_goes_on d (digit_word d f)))
word_digit d e false f = refl

no_digit : (d : ℕ) → continues d ≡ false → is_digit d 10 ≡ false
no_digit d e = digit_is d ∙ word_digit d e (is_ascii_digit d) refl

-- no letter that tells a radix, and no quote
record Plain (d : ℕ) : Type 0 where
  x : (d == 120) ≡ false
  o : (d == 111) ≡ false
  b : (d == 98) ≡ false
  quote : (d == 39) ≡ false

digit_plain : (d : ℕ) → is_ascii_digit d ≡ true → Plain d
digit_plain d e = record { x = grind (arith, nat_tests, e); o = grind (arith, nat_tests, e); b = grind (arith, nat_tests, e); quote = grind (arith, nat_tests, e) }

not_that : (c d : ℕ) → continues c ≡ true → continues d ≡ false → (b : Bool) → (d == c) ≡ b → b ≡ false
not_that c d e f true g = let same : d ≡ c = eqb-true d c g in absurd (false≢true (sym f ∙ ap continues same ∙ e))
not_that c d e f false g = refl

end_plain : (d : ℕ) → ends_number d ≡ true → Plain d
unfolding spec.continues
end_plain d e =
    let f = and_parts _ _ e in
    let stop = not-true (continues d) f.0 in
    record { x = not_that 120 d refl stop _ refl; o = not_that 111 d refl stop _ refl; b = not_that 98 d refl stop _ refl; quote = not-true _ (and_parts _ _ f.1).1 }

next_plain : (w rest : Text) → list_all is_ascii_digit w ≡ true → ends_number (slice_index rest 0) ≡ true → Plain (slice_index (w ++ rest) 0)
next_plain [] rest e s = end_plain _ s
next_plain (d ∷ w) rest e s = digit_plain d (and_parts _ _ e).0

last_plain : (w : Text) → list_all is_ascii_digit w ≡ true → Plain (slice_index w 0)
last_plain [] e = record { x = refl; o = refl; b = refl; quote = refl }
last_plain (d ∷ w) e = digit_plain d (and_parts _ _ e).0

one_way : {A : Type 0} (b : Bool) (x : A) → (if b then x else x) ≡ x
one_way true x = refl
one_way false x = refl

number_decimal : (c : ℕ) (t : Text) → Plain (slice_index t 0) → spec.number (c ∷ t) ≡ spec.decimal (c ∷ t)
unfolding spec.number
number_decimal c t p = rw (p.x, p.o, p.b, p.quote) (one_way (not (c == 48)) (spec.decimal (c ∷ t)))

-- the value of a number without a radix
pub integer_value : (c : ℕ) (w : Text) → list_all is_ascii_digit w ≡ true → spec.integer (c ∷ w) ≡ spec.value_in 10 (c ∷ w)
unfolding spec.integer
integer_value c w e = let p = last_plain w e in rw (p.x, p.o, p.b, p.quote) refl

behind_all : (w rest : Text) → slice_index (w ++ rest) (length w) ≡ slice_index rest 0
behind_all [] rest = refl
behind_all (c ∷ w) rest = behind_all w rest

small : (n : ℕ) → n ≤ 2 ^ 127 → nat_lt spec.greatest_integer n ≡ false
small n l = le-ltb (2 ^ 127) n l

counted_all : (c : ℕ) (w rest : Text) → list_all is_ascii_digit w ≡ true → spec.value_in 10 (c ∷ w) ≤ 2 ^ 127 → spec.counted (suc (length w)) (c ∷ w ++ rest) ≡ token integer_token (suc (length w))
counted_all c w rest e l = rw (take-append_seam w rest, integer_value c w e, small (spec.value_in 10 (c ∷ w)) l) refl

decimal_all : (c : ℕ) (w rest : Text) → list_all is_ascii_digit w ≡ true → spec.value_in 10 (c ∷ w) ≤ 2 ^ 127 → ends_number (slice_index rest 0) ≡ true → spec.decimal (c ∷ w ++ rest) ≡ token integer_token (suc (length w))
decimal_all c w rest e l s =
    let f = and_parts _ _ s in
    let n = run_of (λ d. is_digit d 10) w rest (all_too is_ascii_digit (λ d. is_digit d 10) digit_read w e) (no_digit _ (not-true _ f.0)) in
    let more : 1 + length w ≡ suc (length w) = omega arith in
    let point : (slice_index rest 0 == 46) ≡ false = not-true _ (and_parts _ _ f.1).0 in
    rw (n, more, behind_all w rest, point) (counted_all c w rest e l)

pub number_token : (c : ℕ) (w : Text) → list_all is_ascii_digit (c ∷ w) ≡ true → spec.value_in 10 (c ∷ w) ≤ 2 ^ 127 → IsToken integer_token (c ∷ w) ends_number
unfolding spec.front
number_token c w e l = record { some = omega arith; reads = reads }
  where
    reads : (rest : Text) → ends_number (slice_index rest 0) ≡ true → front (c ∷ w ++ rest) ≡ token integer_token (suc (length w))
    reads rest s =
        let i = and_parts (is_ascii_digit c) (list_all is_ascii_digit w) e in
        let f = digit c i.0 in
        rw (f.space, f.percent, f.slash, f.name, f.variable, i.0) (number_decimal c (w ++ rest) (next_plain w rest i.1 s) ∙ decimal_all c w rest i.1 l s)
