-- The bytes of a name in quotes are those of its characters in quotes.
use Rattle.std.specs.Prelude.{◌≡◌, refl, ℕ, ◌+◌, ◌/◌, ◌%◌, ◌<◌, ◌≤◌, Bool, true, not, nat_lt, List, [], ◌∷◌, ◌++◌}
use Rattle.std.specs.Char.{is_ascii, encode_utf8}
use Rattle.std.specs.List.{list_all, flat_map}
use Rattle.std.specs.Str.{encode_utf8_all, all_scalars}
use Rattle.std.proofs.Common.{arith, ap, ◌∙◌, sym, inl, inr, append-nil}
use Rattle.std.proofs.lemmas.Bool.{and_parts, and_from, not_from_false, not-true, ltb-true, ltb-false, le-ltb, cond_both, cases_lt}
use Rattle.std.proofs.lemmas.List.Concat.{flat_map-append}
use Rattle.std.proofs.lemmas.Str.{encodes-append, encode_ascii}
use lib.Utf8.{scalar}
use Rattle.term_core.specs.Tokens.{Text}
use Rattle.prolog_write.specs.Text.{escaped, quoted}
use Rattle.read_back.proofs.Ascii.{ascii_first, ascii_encodes, ascii_scalars, scalars_append}
use Rattle.read_back.proofs.Classes.{each_ascii, at_ascii}
use Rattle.read_back.proofs.Quotes.{in_quotes, high}

escaped_ascii : each_ascii (λ c. list_all is_ascii (escaped c)) ≡ true
unfolding escaped
escaped_ascii = refl

low_escaped : (c : ℕ) → c < 128 → list_all is_ascii (escaped c) ≡ true
low_escaped c l = at_ascii (λ c. list_all is_ascii (escaped c)) c escaped_ascii l

is_high : ℕ → Bool
is_high b = not (nat_lt b 128)

up : (a x : ℕ) → 128 ≤ a → is_high (a + x) ≡ true
unfolding is_high
up a x l = not_from_false _ (le-ltb (a + x) 128 (omega arith))

all_high : (c : ℕ) → 128 ≤ c → list_all is_high (encode_utf8 c) ≡ true
unfolding encode_utf8
all_high c l =
    cond_both (nat_lt c 128) _ _ (λ bs. list_all is_high bs ≡ true) (λ e. absurd (let s = ltb-true c 128 e in omega (arith, s, l))) (λ a.
    cond_both (nat_lt c 2048) _ _ (λ bs. list_all is_high bs ≡ true) (λ e. rw (up 192 (c / 64) (omega arith), up 128 (c % 64) (omega arith)) refl) (λ b.
    cond_both (nat_lt c 65536) _ _ (λ bs. list_all is_high bs ≡ true) (λ e. rw (up 224 (c / 4096) (omega arith), up 128 (c / 64 % 64) (omega arith), up 128 (c % 64) (omega arith)) refl)
    (λ d. rw (up 240 (c / 262144) (omega arith), up 128 (c / 4096 % 64) (omega arith), up 128 (c / 64 % 64) (omega arith), up 128 (c % 64) (omega arith)) refl)))

stays : (w : List ℕ) → list_all is_high w ≡ true → flat_map escaped w ≡ w
unfolding is_high
stays [] e = refl
stays (b ∷ w) e = let h = and_parts (is_high b) (list_all is_high w) e in rw (high b (ltb-false b 128 (not-true _ h.0)), stays w h.1) refl

-- the bytes of what is written for a character are what is written for its bytes
escaped_bytes : (c : ℕ) → encode_utf8_all (escaped c) ≡ flat_map escaped (encode_utf8 c)
escaped_bytes c = elim (cases_lt c 128) [
  | inl l ↦ ascii_encodes (escaped c) (low_escaped c l) ∙ sym (ap (flat_map escaped) (encode_ascii c l) ∙ append-nil (escaped c))
  | inr g ↦ ap encode_utf8_all (high c g) ∙ append-nil (encode_utf8 c) ∙ sym (stays (encode_utf8 c) (all_high c g))
]

escaped_scalars : (c : ℕ) → scalar c ≡ true → all_scalars (escaped c) ≡ true
escaped_scalars c u = elim (cases_lt c 128) [
  | inl l ↦ ascii_scalars (escaped c) (low_escaped c l)
  | inr g ↦ rw (high c g) (and_from _ _ u refl)
]

all_bytes : (cs : Text) → encode_utf8_all (flat_map escaped cs) ≡ flat_map escaped (encode_utf8_all cs)
all_bytes [] = refl
all_bytes (c ∷ cs) =
    encodes-append (escaped c) (flat_map escaped cs) ∙ ap (λ bs. bs ++ encode_utf8_all (flat_map escaped cs)) (escaped_bytes c) ∙ ap (λ bs. flat_map escaped (encode_utf8 c) ++ bs) (all_bytes cs)
    ∙ sym (flat_map-append escaped (encode_utf8 c) (encode_utf8_all cs))

flat_scalars : (cs : Text) → all_scalars cs ≡ true → all_scalars (flat_map escaped cs) ≡ true
flat_scalars [] u = refl
flat_scalars (c ∷ cs) u = let h = and_parts (scalar c) (all_scalars cs) u in scalars_append (escaped c) (flat_map escaped cs) (escaped_scalars c h.0) (flat_scalars cs h.1)

pub quoted_bytes : (cs : Text) → encode_utf8_all (in_quotes cs) ≡ quoted (encode_utf8_all cs)
quoted_bytes cs =
    ascii_first 39 (flat_map escaped cs ++ 39 ∷ []) (omega arith) ∙ ap (λ bs. 39 ∷ bs) (encodes-append (flat_map escaped cs) (39 ∷ []) ∙ ap (λ bs. encode_utf8_all (flat_map escaped cs) ++ bs) (ascii_first 39 [] (omega arith)) ∙ ap (λ bs. bs ++ 39 ∷ []) (all_bytes cs))

pub quoted_scalars : (cs : Text) → all_scalars cs ≡ true → all_scalars (in_quotes cs) ≡ true
quoted_scalars cs u = scalars_append (flat_map escaped cs) (39 ∷ []) (flat_scalars cs u) refl
