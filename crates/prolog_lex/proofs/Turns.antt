-- What a turn of the loop over the tokens takes.
use Rattle.std.specs.Prelude.{◌≡◌, refl, ℕ, zero, suc, ◌+◌, ◌-◌, ◌≤◌, List, [], ◌∷◌, ◌++◌, length, take, drop, Ok, Err}
use Rattle.std.specs.Char.{len_utf8, encode_utf8}
use Rattle.std.specs.Str.{chars, encode_utf8_all, IsUtf8}
use Rattle.std.proofs.Common.{arith, ap, ◌∙◌, sym, length-append}
use Rattle.std.proofs.lemmas.Str.{length-encode, len_utf8_bounds, encodes-chars}
use Rattle.unicode_ident.specs.Ident.{is_xid_start, is_xid_continue}
use Rattle.term_core.specs.Tokens.{Text, Kind, Reason, layout, token, fault, Token, Fault, Tokens, size, with_token, tokens_from}
use Rattle.prolog_lex.specs.Scanned.{front, IsWithin}

abbrev pub read_from : ℕ → Text → Tokens
read_from at t = tokens_from is_xid_start is_xid_continue at 0 t

-- ---- places

pub size-take-drop : (n : ℕ) (t : Text) → size (take n t) + size (drop n t) ≡ size t
size-take-drop zero t = omega arith
size-take-drop (suc n) [] = omega arith
size-take-drop (suc n) (c ∷ t) = let e = size-take-drop n t in omega (arith, e)

pub size-length : (cs : Text) → length (encode_utf8_all cs) ≡ size cs
size-length [] = refl
size-length (c ∷ cs) = length-append (encode_utf8 c) (encode_utf8_all cs) ∙ (let e = length-encode c in let h = size-length cs in omega (arith, e, h))

pub size-chars : (text : List ℕ) → IsUtf8 text → size (chars text) ≡ length text
size-chars text u = sym (size-length (chars text)) ∙ ap length (encodes-chars text u)

-- ---- turns

-- so many characters of what was read before
skipped : (at n : ℕ) (t : Text) → n ≤ length t → tokens_from is_xid_start is_xid_continue at n t ≡ read_from (at + size (take n t)) (drop n t)
unfolding tokens_from
skipped at zero t l = ap (λ k. read_from k t) (omega arith)
skipped at (suc n) [] l = absurd (omega arith)
skipped at (suc n) (c ∷ t) l = skipped (at + len_utf8 c) n t (omega arith) ∙ ap (λ k. read_from k (drop n t)) (omega arith)

rest_read : (at n c : ℕ) (t : Text) → 1 ≤ n → n ≤ suc (length t) → tokens_from is_xid_start is_xid_continue (at + len_utf8 c) (n - 1) t ≡ read_from (at + size (take n (c ∷ t))) (drop n (c ∷ t))
rest_read at zero c t l u = absurd (omega arith)
rest_read at (suc n) c t l u =
    let less : suc n - 1 ≡ n = omega arith in
    rw less (skipped (at + len_utf8 c) n t (omega arith) ∙ ap (λ k. read_from k (drop n t)) (omega arith))

pub after_layout : (at n : ℕ) (t : Text) → 1 ≤ length t → layout n ≡ front t → IsWithin (layout n) (length t) → read_from at t ≡ read_from (at + size (take n t)) (drop n t)
unfolding tokens_from
after_layout at n [] z e w = absurd (omega arith)
after_layout at n (c ∷ t) z e w = rw (sym e) (rest_read at n c t w.0 (omega (arith, w)))

pub after_token : (at n : ℕ) (kind : Kind) (t : Text) → 1 ≤ length t → token kind n ≡ front t → IsWithin (token kind n) (length t) →
    read_from at t ≡ with_token (record { kind = kind; from = at; to = at + size (take n t) }) (read_from (at + size (take n t)) (drop n t))
unfolding tokens_from
after_token at n kind [] z e w = absurd (omega arith)
after_token at n kind (c ∷ t) z e w = rw (sym e) (ap (with_token (record { kind = kind; from = at; to = at + size (take n (c ∷ t)) })) (rest_read at n c t w.0 (omega (arith, w))))

pub at_fault : (at n : ℕ) (reason : Reason) (t : Text) → 1 ≤ length t → fault reason n ≡ front t → read_from at t ≡ Err (record { reason = reason; at = at + size (take n t) })
unfolding tokens_from
at_fault at n reason [] z e = absurd (omega arith)
at_fault at n reason (c ∷ t) z e = rw (sym e) refl

pub none_left : (at : ℕ) (t : Text) → size t ≡ 0 → read_from at t ≡ Ok []
unfolding tokens_from
none_left at [] e = refl
none_left at (c ∷ t) e = let b = len_utf8_bounds c in absurd (omega (arith, b, e))

pub some_left : (t : Text) → 1 ≤ size t → 1 ≤ length t
some_left [] e = e
some_left (c ∷ t) e = omega arith

-- ---- tokens that were read before others

abbrev pub before : List Token → Tokens → Tokens
before [] rest = rest
before (x ∷ xs) rest = with_token x (before xs rest)

pub before_one : (xs : List Token) (x : Token) (r : Tokens) → before xs (with_token x r) ≡ before (xs ++ x ∷ []) r
before_one [] x r = refl
before_one (y ∷ xs) x r = ap (with_token y) (before_one xs x r)

pub before_end : (xs : List Token) → before xs (Ok []) ≡ Ok xs
before_end [] = refl
before_end (x ∷ xs) = ap (with_token x) (before_end xs)

pub before_fault : (xs : List Token) (e : Fault) → before xs (Err e) ≡ Err e
before_fault [] e = refl
before_fault (x ∷ xs) e = ap (with_token x) (before_fault xs e)
