-- The tokens of variables, integers, brackets and commas.
use Rattle.std.specs.Prelude.{◌≡◌, refl, ℕ, suc, ◌^◌, ◌<◌, ◌≤◌, Bool, true, false, nat_lt, cond, ℤ, pos, negsuc, List, [], ◌∷◌, ◌++◌, slice_index, decimal}
use Rattle.std.specs.Char.{is_ascii, is_ascii_digit}
use Rattle.std.specs.List.{list_all}
use Rattle.std.specs.Str.{encode_utf8_all}
use Rattle.std.proofs.Common.{arith, ap, ◌∙◌, sym}
use Rattle.std.proofs.lemmas.Bool.{not_from_false, and_parts, and_from, lt-ltb, ltb-true}
use Rattle.std.proofs.lemmas.Bool.Decides.{nat_tests}
use Rattle.std.proofs.lemmas.Str.{encodes-append}
use Rattle.term_core.specs.Tokens.{Text, Kind, name_token, variable_token, integer_token, open_token, close_token, open_list_token, close_list_token, open_curly_token, close_curly_token, comma_token, bar_token}
use Rattle.term_core.specs.Tokens as spec
use Rattle.prolog_write.specs.Text.{is_word, is_symbol, first, last}
use Rattle.prolog_grammar.specs.declared.grammar.lexeme.Lexeme.TheVariants.{Variable, Integer}
use Rattle.prolog_read.specs.Variables.{Numbering, number_of, with_variable}
use Rattle.prolog_read.specs.Reads.{is_end}
use Rattle.prolog_read.specs.Lexemes.{is_pair, variables_behind}
use Rattle.prolog_read.specs.Lexemes as reader
use Rattle.read_back.proofs.Spelled.{Item, variable_item, integer_item, mark_item, Mark, mark_text, mark_lexeme, is_opening, is_close_square, is_close_curly, open_behind}
use Rattle.read_back.proofs.Spelled as item
use Rattle.read_back.specs.Sound.{IsSized}
use Rattle.read_back.proofs.Ascii.{last_behind, Digits, digits_of, ascii_encodes, ascii_scalars, scalars_append, last_all}
use Rattle.read_back.proofs.Classes.{digit_below, symbol_is}
use Rattle.read_back.proofs.Fronts.{digit_word, IsToken, is_any, ends_word, ends_number, ends_symbols, all_too, underscore_token, symbols_token, number_token, integer_value}
use Rattle.read_back.proofs.Fronts as front
use Rattle.read_back.proofs.Segments.{Segment, written, text_of}
use Rattle.read_back.proofs.Seen.{Seen, seen, closes, one_of, read_seen}
use Rattle.read_back.proofs.Keys.{item_counted, variable_name}
use Rattle.read_back.proofs.Spelt.{Spelt, single, Next, Unpaired, after_word, after_number}

-- a kind that opens no list and no curly term
pub never_closes : (kind : Kind) → ((k : Kind) → is_pair kind k ≡ false) → (ts : List Seen) → closes kind ts ≡ false
never_closes kind h [] = refl
never_closes kind h (u ∷ us) = h u.kind

digit_ascii : (c : ℕ) → is_ascii_digit c ≡ true → is_ascii c ≡ true
digit_ascii c e = lt-ltb c 128 (digit_below c e)

-- ---- variables

are_digits : (n : ℕ) → n < 2 ^ 128 → list_all is_ascii_digit (decimal n) ≡ true
are_digits n l = let h = digits_of n l in rw (h.are) h.digits

pub variable_spelt : (n : ℕ) → n < 2 ^ 64 → Spelt (variable_item n)
unfolding is_word
variable_spelt n l =
    let digits = are_digits n (omega arith) in
    let words : list_all is_word (variable_name n) ≡ true = all_too is_ascii_digit is_word digit_word (decimal n) digits in
    let ascii : list_all is_ascii (variable_name n) ≡ true = all_too is_ascii_digit is_ascii digit_ascii (decimal n) digits in
    let bytes = ascii_encodes (variable_name n) ascii in
    single (variable_item n) variable_token (variable_name n) ends_word (record {
      bytes = bytes;
      scalars = ascii_scalars (variable_name n) ascii;
      small = omega arith;
      front = refl;
      no_end = refl;
      counted = λ d k s. ap (λ w. (Variable (number_of s w), k) ∷ []) bytes;
      opens = λ k. refl;
      names = λ s. ap (with_variable s) bytes;
      alone = λ ts u. never_closes variable_token (λ k. refl) ts;
      leaves_on = refl;
      square = refl;
      curly = refl;
    }) (underscore_token (decimal n) words) (λ d m. after_word (last (variable_name n)) d false m.apart (last_all is_word 95 (decimal n) words) m.small)

-- ---- integers

one_digit : (n : ℕ) (h : Digits n) → is_ascii_digit h.head ≡ true
one_digit n h = (and_parts _ _ h.digits).0

pub last_digit : (n : ℕ) → Digits n → is_word (last (decimal n)) ≡ true
last_digit n h = rw (h.are) (last_all is_word h.head h.tail (all_too is_ascii_digit is_word digit_word (h.head ∷ h.tail) h.digits))

natural_of : (n : ℕ) → n < 2 ^ 127 → Digits n → Spelt (integer_item (pos n))
natural_of n l h =
    let cs = h.head ∷ h.tail in
    let ascii : list_all is_ascii cs ≡ true = all_too is_ascii_digit is_ascii digit_ascii cs h.digits in
    let small : spec.value_in 10 cs ≤ 2 ^ 127 = (let v = h.value in omega (arith, v)) in
    let value : spec.integer cs ≡ n = integer_value h.head h.tail (and_parts _ _ h.digits).1 ∙ h.value in
    single (integer_item (pos n)) integer_token cs ends_number (record {
      bytes = ascii_encodes cs ascii ∙ sym h.are;
      scalars = ascii_scalars cs ascii;
      small = digit_below h.head (one_digit n h);
      front = ap first (sym h.are);
      no_end = refl;
      counted = λ d k s. ap (λ v. (Integer v d, k) ∷ []) value;
      opens = λ k. refl;
      names = λ s. refl;
      alone = λ ts u. never_closes integer_token (λ k. refl) ts;
      leaves_on = refl;
      square = refl;
      curly = refl;
    }) (number_token h.head h.tail h.digits small) (λ d m. after_number (last (decimal n)) d m.apart (last_digit n h) m.small (m.plain refl))

pub natural_spelt : (n : ℕ) → n < 2 ^ 127 → Spelt (integer_item (pos n))
natural_spelt n l = natural_of n l (digits_of n (omega arith))

-- a minus and the digits directly behind it
minus_token : IsToken name_token (45 ∷ []) ends_symbols
unfolding is_symbol
minus_token = symbols_token 45 [] refl refl refl

pub digit_no_symbol : (c : ℕ) → is_ascii_digit c ≡ true → is_symbol c ≡ false
unfolding is_symbol
digit_no_symbol c e = grind (arith, nat_tests, e)

ends_at_digit : (c : ℕ) → is_ascii_digit c ≡ true → ends_symbols c ≡ true
ends_at_digit c e = not_from_false _ (symbol_is c (digit_below c e) ∙ digit_no_symbol c e)

negative_of : (n : ℕ) → n < 2 ^ 127 → Digits (suc n) → Spelt (integer_item (negsuc n))
negative_of n l h = record {
  segments = written name_token (45 ∷ []) ∷ written integer_token cs ∷ [];
  small = omega arith;
  bytes = λ ss. bytes ss;
  scalars = λ ss u. and_from _ _ refl (scalars_append cs (text_of ss) (ascii_scalars cs ascii) u);
  front = λ ss. refl;
  reads = λ ss m r. (omega arith, minus_token.reads (cs ++ text_of ss) (ends_at_digit h.head (one_digit (suc n) h)), (digits.some, digits.reads (text_of ss) (may (slice_index (text_of ss) 0) m), r));
  no_end = λ ss u. u;
  hides = λ ss u. (λ s a. a, (λ s a. a, u));
  lexemes = λ d k s ss u. read d k s (seen true ss) (never_closes integer_token (λ k. refl) (seen true ss));
  square = λ d ss. refl;
  curly = λ d ss. refl;
}
  where
    cs : List ℕ
    cs = h.head ∷ h.tail

    ascii : list_all is_ascii cs ≡ true
    ascii = all_too is_ascii_digit is_ascii digit_ascii cs h.digits

    value : spec.integer cs ≡ suc n
    value = integer_value h.head h.tail (and_parts (is_ascii_digit h.head) (list_all is_ascii_digit h.tail) h.digits).1 ∙ h.value

    small : spec.value_in 10 cs ≤ 2 ^ 127
    small = let v = h.value in omega (arith, v, l)

    digits : IsToken integer_token cs ends_number
    digits = number_token h.head h.tail h.digits small

    bytes : (ss : List Segment) → encode_utf8_all (45 ∷ (cs ++ text_of ss)) ≡ (45 ∷ decimal (suc n)) ++ encode_utf8_all (text_of ss)
    bytes ss = encodes-append (45 ∷ cs) (text_of ss) ∙ ap (λ bs. bs ++ encode_utf8_all (text_of ss)) (ascii_encodes (45 ∷ cs) ascii ∙ ap (λ ds. 45 ∷ ds) (sym h.are))

    last_word : is_word (last (45 ∷ decimal (suc n))) ≡ true
    last_word = rw (h.are) (ap is_word (last_behind 45 h.head h.tail) ∙ last_all is_word h.head h.tail (all_too is_ascii_digit is_word digit_word cs h.digits))

    may : (d : ℕ) → Next (integer_item (negsuc n)) d → ends_number d ≡ true
    may d m = after_number (last (45 ∷ decimal (suc n))) d m.apart last_word m.small (m.plain refl)

    read : (d : Bool) (k : ℕ) (s : Numbering) (ts : List Seen) → closes integer_token ts ≡ false →
        read_seen false k s (record { kind = name_token; value = spec.value name_token (45 ∷ []); direct = d } ∷ record { kind = integer_token; value = spec.value integer_token cs; direct = true } ∷ ts) ≡
        item_counted k s d (integer_item (negsuc n)) ++ read_seen false k s ts
    read d k s ts e = let minus : encode_utf8_all (45 ∷ []) ≡ 45 ∷ [] = ascii_encodes (45 ∷ []) refl in rw (minus, e, value) refl

pub integer_spelt : (z : ℤ) → IsSized z → Spelt (integer_item z)
integer_spelt (pos n) l = natural_spelt n l
integer_spelt (negsuc n) l = negative_of n l (digits_of (suc n) (omega (arith, l)))

-- ---- punctuation

one_mark : (k : Mark) (kind : Kind) (c : ℕ) → mark_text k ≡ c ∷ [] → nat_lt c 128 ≡ true → is_end kind ≡ false →
    ((d : Bool) (n : ℕ) (s : Numbering) → one_of (record { kind = kind; value = spec.value kind (c ∷ []); direct = d }) n s ≡ (mark_lexeme d k, cond (is_opening k) (suc n) n)) →
    ((n : ℕ) → reader.open_behind kind n ≡ open_behind n (mark_item k)) → ((s : Numbering) → variables_behind (spec.value kind (c ∷ [])) s ≡ s) →
    is_pair open_list_token kind ≡ is_close_square (mark_item k) → is_pair open_curly_token kind ≡ is_close_curly (mark_item k) →
    ((ts : List Seen) → Unpaired (mark_item k) ts → closes kind ts ≡ false) → IsToken kind (c ∷ []) is_any → Spelt (mark_item k)
one_mark k kind c e l no_end counted opens names square curly alone t =
    let ascii : list_all is_ascii (c ∷ []) ≡ true = rw l refl in
    single (mark_item k) kind (c ∷ []) is_any (record {
      bytes = ascii_encodes (c ∷ []) ascii ∙ sym e;
      scalars = ascii_scalars (c ∷ []) ascii;
      small = ltb-true c 128 l;
      front = ap first (sym e);
      no_end = no_end;
      counted = λ d n s. ap (λ x. x ∷ []) (counted d n s);
      opens = opens;
      names = names;
      alone = alone;
      leaves_on = refl;
      square = square;
      curly = curly;
    }) t (λ d m. refl)

pub mark_spelt : (k : Mark) → Spelt (mark_item k)
mark_spelt item.open_round = one_mark item.open_round open_token 40 refl refl refl (λ d n s. refl) (λ n. refl) (λ s. refl) refl refl (λ ts u. never_closes open_token (λ k. refl) ts) front.open_round
mark_spelt item.close_round = one_mark item.close_round close_token 41 refl refl refl (λ d n s. refl) (λ n. refl) (λ s. refl) refl refl (λ ts u. never_closes close_token (λ k. refl) ts) front.close_round
mark_spelt item.open_square = one_mark item.open_square open_list_token 91 refl refl refl (λ d n s. refl) (λ n. refl) (λ s. refl) refl refl (λ ts u. u) front.open_square
mark_spelt item.close_square = one_mark item.close_square close_list_token 93 refl refl refl (λ d n s. refl) (λ n. refl) (λ s. refl) refl refl (λ ts u. never_closes close_list_token (λ k. refl) ts) front.close_square
mark_spelt item.open_curly = one_mark item.open_curly open_curly_token 123 refl refl refl (λ d n s. refl) (λ n. refl) (λ s. refl) refl refl (λ ts u. u) front.open_curly
mark_spelt item.close_curly = one_mark item.close_curly close_curly_token 125 refl refl refl (λ d n s. refl) (λ n. refl) (λ s. refl) refl refl (λ ts u. never_closes close_curly_token (λ k. refl) ts) front.close_curly
mark_spelt item.comma = one_mark item.comma comma_token 44 refl refl refl (λ d n s. refl) (λ n. refl) (λ s. refl) refl refl (λ ts u. never_closes comma_token (λ k. refl) ts) front.comma
mark_spelt item.bar = one_mark item.bar bar_token 124 refl refl refl (λ d n s. refl) (λ n. refl) (λ s. refl) refl refl (λ ts u. never_closes bar_token (λ k. refl) ts) front.bar
