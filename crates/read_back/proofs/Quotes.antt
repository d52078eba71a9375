-- A name in quotes: its characters are read as they were written.
use Rattle.std.specs.Prelude.{◌≡◌, refl, ℕ, suc, ◌+◌, ◌-◌, ◌*◌, ◌/◌, ◌%◌, ◌<◌, ◌≤◌, Bool, true, false, ◌||◌, ◌==◌, nat_lt, cond, List, [], ◌∷◌, ◌++◌, length, slice_index, codes, None}
use Rattle.std.specs.List.{flat_map}
use Rattle.std.specs.Char.{is_digit, digit_value}
use Rattle.std.proofs.Common.{arith, ap, ◌∙◌, append_assoc, length-append}
use Rattle.std.proofs.lemmas.Bool.{not-true, eqb-true, le-ltb, ltb-true, ltb-false, cond_both}
use Rattle.std.proofs.lemmas.Bool.Decides.{nat_tests}
use lib.Utf8.{scalar, low_scalar}
use Rattle.term_core.specs.Tokens.{Text, Kind, token, quoted_token, Part, character, joint, refused, closing, parts, begun}
use Rattle.term_core.specs.Tokens as spec
use Rattle.prolog_lex.specs.Scanned.{front}
use Rattle.prolog_write.specs.Text.{escaped, hex_digit, hex_digits}
use Rattle.read_back.proofs.Fronts.{IsToken, ends_quote}

-- ---- a byte of a character past ASCII is written as it is

pub high : (b : ℕ) → 128 ≤ b → escaped b ≡ b ∷ []
unfolding escaped
high b l =
    let a : (b == 92) ≡ false = grind (arith, nat_tests) in
    let q : (b == 39) ≡ false = grind (arith, nat_tests) in
    let n : (b == 10) ≡ false = grind (arith, nat_tests) in
    let t : (b == 9) ≡ false = grind (arith, nat_tests) in
    let c : nat_lt b 32 ≡ false = le-ltb b 32 (omega arith) in
    let d : (b == 127) ≡ false = grind (arith, nat_tests) in
    rw (a, q, n, t, c, d) refl

-- ---- hexadecimal digits

record Hex (d h : ℕ) : Type 0 where
  is : is_digit h 16 ≡ true
  value : digit_value h ≡ d

hex : (d : ℕ) → d < 16 → Hex d (hex_digit d)
hex d l = by (nat_lt d 10) refl
  where
    by : (b : Bool) → nat_lt d 10 ≡ b → Hex d (cond b (48 + d) (87 + d))
    by true e = let small = ltb-true d 10 e in record { is = grind (arith, nat_tests, small); value = grind (arith, nat_tests, small) }
    by false e = let big = ltb-false d 10 e in record { is = grind (arith, nat_tests, big, l); value = grind (arith, nat_tests, big, l) }

-- ---- a part of a text in quotes

by_escape : (c n : ℕ) (t : Text) → spec.escape (92 ∷ t) ≡ character c n → parts 39 0 (92 ∷ t) ≡ character c n ∷ parts 39 (n - 1) t
unfolding parts spec.part
by_escape c n t e = rw e refl

longer : (x : ℕ) (t : Text) → (length (92 ∷ x ∷ t) == 1) ≡ false
longer x t = grind (arith, nat_tests)

-- a backslash and a character that stands for one
simple : (x c : ℕ) (t : Text) → ((length (92 ∷ x ∷ t) == 1) ≡ false → spec.escape (92 ∷ x ∷ t) ≡ character c 2) → parts 39 0 (92 ∷ x ∷ t) ≡ character c 2 ∷ parts 39 0 t
unfolding parts
simple x c t h = by_escape c 2 (x ∷ t) (h (longer x t))

slash : (t : Text) → parts 39 0 (92 ∷ 92 ∷ t) ≡ character 92 2 ∷ parts 39 0 t
unfolding spec.escape
slash t = simple 92 92 t (λ e. rw e refl)

quote : (t : Text) → parts 39 0 (92 ∷ 39 ∷ t) ≡ character 39 2 ∷ parts 39 0 t
unfolding spec.escape
quote t = simple 39 39 t (λ e. rw e refl)

newline : (t : Text) → parts 39 0 (92 ∷ 110 ∷ t) ≡ character 10 2 ∷ parts 39 0 t
unfolding spec.escape
newline t = simple 110 10 t (λ e. rw e refl)

tab : (t : Text) → parts 39 0 (92 ∷ 116 ∷ t) ≡ character 9 2 ∷ parts 39 0 t
unfolding spec.escape
tab t = simple 116 9 t (λ e. rw e refl)

plain : (c : ℕ) (t : Text) → (c == 92) ≡ false → (c == 39) ≡ false → parts 39 0 (c ∷ t) ≡ character c 1 ∷ parts 39 0 t
unfolding parts spec.part
plain c t e f = rw (e, f) refl

-- a backslash, x, hexadecimal digits and a backslash
numbered_escape : (t : Text) → spec.escape (92 ∷ 120 ∷ t) ≡ spec.numbered 2 16 (92 ∷ 120 ∷ t)
unfolding spec.escape
numbered_escape t = rw (longer 120 t) refl

one_digit : (c h : ℕ) (t : Text) → Hex c h → scalar c ≡ true → parts 39 0 (92 ∷ 120 ∷ h ∷ 92 ∷ t) ≡ character c 4 ∷ parts 39 0 t
unfolding parts spec.numbered
one_digit c h t x s =
    let only : 0 * 16 + c ≡ c = omega arith in
    let numbered : spec.numbered 2 16 (92 ∷ 120 ∷ h ∷ 92 ∷ t) ≡ character c 4 = rw (x.is, x.value, only, s) refl in
    by_escape c 4 (120 ∷ h ∷ 92 ∷ t) (numbered_escape (h ∷ 92 ∷ t) ∙ numbered)

two_digits : (c a b g h : ℕ) (t : Text) → Hex a g → Hex b h → a * 16 + b ≡ c → scalar c ≡ true → parts 39 0 (92 ∷ 120 ∷ g ∷ h ∷ 92 ∷ t) ≡ character c 5 ∷ parts 39 0 t
unfolding parts spec.numbered
two_digits c a b g h t x y e s =
    let both : (0 * 16 + a) * 16 + b ≡ c = omega (arith, e) in
    let numbered : spec.numbered 2 16 (92 ∷ 120 ∷ g ∷ h ∷ 92 ∷ t) ≡ character c 5 = rw (x.is, y.is, x.value, y.value, both, s) refl in
    by_escape c 5 (120 ∷ g ∷ h ∷ 92 ∷ t) (numbered_escape (g ∷ h ∷ 92 ∷ t) ∙ numbered)

-- ---- a character, as it is written

-- these bytes are read as the character
abbrev IsRead : ℕ → List ℕ → Type 0
IsRead c bs = (t : Text) → parts 39 0 (bs ++ t) ≡ character c (length bs) ∷ parts 39 0 t

by_number : (c : ℕ) → c < 128 → IsRead c (codes "\\x" ++ hex_digits c ++ codes "\\")
by_number c l t = by (nat_lt c 16) refl
  where
    is_scalar : scalar c ≡ true
    is_scalar = low_scalar c (omega arith)

    digits : Bool → List ℕ
    digits b = 92 ∷ 120 ∷ (cond b (hex_digit c ∷ []) (hex_digit (c / 16) ∷ hex_digit (c % 16) ∷ []) ++ 92 ∷ [])

    by : (b : Bool) → nat_lt c 16 ≡ b → parts 39 0 (digits b ++ t) ≡ character c (length (digits b)) ∷ parts 39 0 t
    by true e = one_digit c (hex_digit c) t (hex c (ltb-true c 16 e)) is_scalar
    by false e = two_digits c (c / 16) (c % 16) (hex_digit (c / 16)) (hex_digit (c % 16)) t (hex (c / 16) (omega arith)) (hex (c % 16) (omega arith)) (omega arith) is_scalar

unseen : (c : ℕ) → (nat_lt c 32 || c == 127) ≡ true → c < 128
unseen c e = grind (arith, nat_tests, e)

escaped_read : (c : ℕ) → IsRead c (escaped c)
unfolding escaped
escaped_read c =
    cond_both (c == 92) _ _ (IsRead c) (λ e. rw (eqb-true c 92 e) slash) (λ a.
    cond_both (c == 39) _ _ (IsRead c) (λ e. rw (eqb-true c 39 e) quote) (λ q.
    cond_both (c == 10) _ _ (IsRead c) (λ e. rw (eqb-true c 10 e) newline) (λ n.
    cond_both (c == 9) _ _ (IsRead c) (λ e. rw (eqb-true c 9 e) tab) (λ b.
    cond_both (nat_lt c 32 || c == 127) _ _ (IsRead c) (λ e. by_number c (unseen c e)) (λ o t. plain c t a q)))))

-- ---- the whole name

abbrev quoted_parts : Text → List Part
quoted_parts [] = closing ∷ []
quoted_parts (c ∷ cs) = character c (length (escaped c)) ∷ quoted_parts cs

closed_read : (rest : Text) → ends_quote (slice_index rest 0) ≡ true → parts 39 0 (39 ∷ rest) ≡ closing ∷ []
unfolding parts spec.part
closed_read rest s = rw (not-true (slice_index rest 0 == 39) s) refl

parts_read : (cs rest : Text) → ends_quote (slice_index rest 0) ≡ true → parts 39 0 (flat_map escaped cs ++ 39 ∷ rest) ≡ quoted_parts cs
parts_read [] rest s = closed_read rest s
parts_read (c ∷ cs) rest s =
    ap (parts 39 0) (append_assoc (escaped c) (flat_map escaped cs) (39 ∷ rest)) ∙ escaped_read c (flat_map escaped cs ++ 39 ∷ rest) ∙ ap (λ ps. character c (length (escaped c)) ∷ ps) (parts_read cs rest s)

closes : (cs : Text) → spec.is_closed (quoted_parts cs) ≡ true
closes [] = refl
closes (c ∷ cs) = closes cs

none_refused : (cs : Text) → spec.first_refused (quoted_parts cs) ≡ None
none_refused [] = refl
none_refused (c ∷ cs) = rw (none_refused cs) refl

their_length : (cs : Text) → spec.parts_len (quoted_parts cs) ≡ suc (length (flat_map escaped cs))
their_length [] = refl
their_length (c ∷ cs) = let h = their_length cs in let l = length-append (escaped c) (flat_map escaped cs) in omega (arith, h, l)

their_characters : (cs : Text) → spec.characters_of (quoted_parts cs) ≡ cs
their_characters [] = refl
their_characters (c ∷ cs) = ap (λ ds. c ∷ ds) (their_characters cs)

-- the characters of a name in quotes, of the characters of the name
abbrev pub in_quotes : Text → Text
in_quotes cs = 39 ∷ (flat_map escaped cs ++ 39 ∷ [])

pub quoted_token_of : (cs : Text) → IsToken quoted_token (in_quotes cs) ends_quote
unfolding spec.front spec.begins_name spec.quoted
quoted_token_of cs = record { some = omega arith; reads = reads }
  where
    reads : (rest : Text) → ends_quote (slice_index rest 0) ≡ true → front (in_quotes cs ++ rest) ≡ token quoted_token (length (in_quotes cs))
    reads rest s = rw (append_assoc (flat_map escaped cs) (39 ∷ []) rest, parts_read cs rest s, closes cs, none_refused cs) (ap (token quoted_token) (let h = their_length cs in let l = length-append (flat_map escaped cs) (39 ∷ []) in omega (arith, h, l)))

pub held_of : (cs : Text) → spec.held 39 (in_quotes cs) ≡ cs
unfolding spec.held
held_of cs = ap spec.characters_of (parts_read cs [] refl) ∙ their_characters cs
