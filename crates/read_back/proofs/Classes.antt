-- What the characters of ASCII are, for the lexer and for the writer.
use Rattle.std.specs.Prelude.{◌≡◌, refl, ℕ, ◌<◌, Bool, true, false, not, ◌&&◌, ◌||◌, ◌==◌}
use Rattle.std.specs.Char.{is_whitespace, is_ascii_lowercase, is_ascii_digit}
use Rattle.std.proofs.Common.{arith}
use Rattle.std.proofs.lemmas.Bool.{agree_below, agree_below_at, false≢true, and_parts, not-true}
use Rattle.term_core.specs.Tokens as spec
use Rattle.prolog_lex.specs.Scanned.{begins_name, continues}
use Rattle.prolog_write.specs.Text.{is_symbol, is_word}

-- what holds of each number below 128, by computing
abbrev pub each_ascii : (ℕ → Bool) → Bool
each_ascii p = agree_below p (λ c. true) 128

pub at_ascii : (p : ℕ → Bool) (c : ℕ) → each_ascii p ≡ true → c < 128 → p c ≡ true
at_ascii p c e l = agree_below_at p (λ c. true) 128 c e l

implies : Bool → Bool → Bool
implies a b = not a || b

implied : (a b : Bool) → implies a b ≡ true → a ≡ true → b ≡ true
unfolding implies
implied true b e f = e
implied false b e f = absurd (false≢true f)

pub word_below : (c : ℕ) → is_word c ≡ true → c < 128
unfolding is_word
word_below c e = grind (arith, e)

pub symbol_below : (c : ℕ) → is_symbol c ≡ true → c < 128
unfolding is_symbol
symbol_below c e = grind (arith, e)

pub lower_below : (c : ℕ) → is_ascii_lowercase c ≡ true → c < 128
lower_below c e = grind (arith, e)

pub digit_below : (c : ℕ) → is_ascii_digit c ≡ true → c < 128
digit_below c e = grind (arith, e)

-- ---- the lexer's classes are the writer's

words : agree_below continues is_word 128 ≡ true
unfolding spec.continues is_word
words = refl

pub continues_is : (c : ℕ) → c < 128 → continues c ≡ is_word c
continues_is c l = agree_below_at continues is_word 128 c words l

symbols : agree_below spec.is_symbol is_symbol 128 ≡ true
unfolding spec.is_symbol is_symbol
symbols = refl

pub symbol_is : (c : ℕ) → c < 128 → spec.is_symbol c ≡ is_symbol c
symbol_is c l = agree_below_at spec.is_symbol is_symbol 128 c symbols l

-- ---- what a first character is not

pub record Lower (c : ℕ) : Type 0 where
  pub space : is_whitespace c ≡ false
  pub percent : (c == 37) ≡ false
  pub slash : (c == 47) ≡ false
  pub begins : begins_name c ≡ true

lower_facts : ℕ → Bool
lower_facts c = implies (is_ascii_lowercase c) (not (is_whitespace c) && (not (c == 37) && (not (c == 47) && begins_name c)))

lower_all : each_ascii lower_facts ≡ true
unfolding lower_facts implies spec.begins_name
lower_all = refl

pub lower : (c : ℕ) → is_ascii_lowercase c ≡ true → Lower c
unfolding lower_facts
lower c e =
    let f = and_parts _ _ (implied (is_ascii_lowercase c) _ (at_ascii lower_facts c lower_all (lower_below c e)) e) in
    let g = and_parts _ _ f.1 in
    let h = and_parts _ _ g.1 in
    record { space = not-true _ f.0; percent = not-true _ g.0; slash = not-true _ h.0; begins = h.1 }

pub record Digit (c : ℕ) : Type 0 where
  pub space : is_whitespace c ≡ false
  pub percent : (c == 37) ≡ false
  pub slash : (c == 47) ≡ false
  pub name : begins_name c ≡ false
  pub variable : spec.begins_variable c ≡ false

digit_facts : ℕ → Bool
digit_facts c = implies (is_ascii_digit c) (not (is_whitespace c) && (not (c == 37) && (not (c == 47) && (not (begins_name c) && not (spec.begins_variable c)))))

digit_all : each_ascii digit_facts ≡ true
unfolding digit_facts implies spec.begins_name
digit_all = refl

pub digit : (c : ℕ) → is_ascii_digit c ≡ true → Digit c
unfolding digit_facts
digit c e =
    let f = and_parts _ _ (implied (is_ascii_digit c) _ (at_ascii digit_facts c digit_all (digit_below c e)) e) in
    let g = and_parts _ _ f.1 in
    let h = and_parts _ _ g.1 in
    let i = and_parts _ _ h.1 in
    record { space = not-true _ f.0; percent = not-true _ g.0; slash = not-true _ h.0; name = not-true _ i.0; variable = not-true _ i.1 }

pub record Symbol (c : ℕ) : Type 0 where
  pub space : is_whitespace c ≡ false
  pub percent : (c == 37) ≡ false
  pub name : begins_name c ≡ false
  pub variable : spec.begins_variable c ≡ false
  pub digit : is_ascii_digit c ≡ false
  pub quote : (c == 39) ≡ false
  pub double : (c == 34) ≡ false

symbol_facts : ℕ → Bool
symbol_facts c = implies (is_symbol c) (not (is_whitespace c) && (not (c == 37) && (not (begins_name c) && (not (spec.begins_variable c) && (not (is_ascii_digit c) && (not (c == 39) && not (c == 34)))))))

symbol_all : each_ascii symbol_facts ≡ true
unfolding symbol_facts implies spec.begins_name is_symbol
symbol_all = refl

pub symbol : (c : ℕ) → is_symbol c ≡ true → Symbol c
unfolding symbol_facts
symbol c e =
    let f = and_parts _ _ (implied (is_symbol c) _ (at_ascii symbol_facts c symbol_all (symbol_below c e)) e) in
    let g = and_parts _ _ f.1 in
    let h = and_parts _ _ g.1 in
    let i = and_parts _ _ h.1 in
    let j = and_parts _ _ i.1 in
    let k = and_parts _ _ j.1 in
    record { space = not-true _ f.0; percent = not-true _ g.0; name = not-true _ h.0; variable = not-true _ i.0; digit = not-true _ j.0; quote = not-true _ k.0; double = not-true _ k.1 }
