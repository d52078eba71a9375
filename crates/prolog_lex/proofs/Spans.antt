-- The tokens of a text stand one behind the other.
use Rattle.std.specs.Prelude.{◌≡◌, ℕ, zero, suc, ◌+◌, ◌-◌, ◌<◌, ◌≤◌, List, [], ◌∷◌, length, take, map, Ok, Err}
use Rattle.std.specs.Char.{len_utf8}
use Rattle.std.specs.Str.{chars, IsUtf8}
use Rattle.std.proofs.Common.{arith, subst, refl}
use Rattle.std.proofs.lemmas.Str.{len_utf8_bounds}
use Rattle.unicode_ident.specs.Ident.{is_xid_start, is_xid_continue}
use Rattle.term_core.specs.Tokens.{Text, Front, layout, token, fault, Token, Tokens, size, extent, found, tokens_from}
use Rattle.term_core.specs.Tokens as spec
use Rattle.prolog_lex.specs.Lexed.{AreInOrder, token_of, tokens_of}
use Rattle.prolog_lex.specs.Scanned.{front}
use Rattle.prolog_lex.specs.declared.token.Token as declared
use Rattle.prolog_lex.proofs.Standing.{some_in}
use Rattle.prolog_lex.proofs.Turns.{size-chars}

abbrev InOrder : ℕ → List Token → ℕ → Type 0
InOrder from [] to = from ≤ to
InOrder from (x ∷ xs) to = (from ≤ x.from) × (x.from < x.to) × InOrder x.to xs to

earlier : (a b to : ℕ) (xs : List Token) → a ≤ b → InOrder b xs to → InOrder a xs to
earlier a b to [] l h = omega (arith, l, h)
earlier a b to (x ∷ xs) l h = (let k = h.0 in omega (arith, l, k), h.1, h.2)

-- the place behind the characters that belong to what was read
behind : (at c n : ℕ) (t : Text) → 1 ≤ n → at + len_utf8 c + size (take (n - 1) t) ≡ at + size (take n (c ∷ t))
behind at c zero t l = absurd (omega arith)
behind at c (suc n) t l = let less : suc n - 1 ≡ n = omega arith in rw less (omega arith)

turn : (at c to : ℕ) (t : Text) (f : Front) (r : Tokens) (xs : List Token) → front (c ∷ t) ≡ f → found at (c ∷ t) f r ≡ Ok xs →
    ((ys : List Token) → r ≡ Ok ys → InOrder (at + len_utf8 c + size (take (extent f - 1) t)) ys to) → InOrder at xs to
turn at c to t (layout n) r xs e h ih = earlier at _ to xs (omega arith) (ih xs h)
turn at c to t (fault reason n) r xs e h ih = absurd (cc)
turn at c to t (token kind n) (Err why) xs e h ih = absurd (cc)
turn at c to t (token kind n) (Ok ys) xs e h ih =
    let y : Token = record { kind = kind; from = at; to = at + size (take n (c ∷ t)) } in
    let same : xs ≡ y ∷ ys = cc in
    let some = some_in (c ∷ t) kind n e in
    let place = behind at c n t some in
    let bytes = len_utf8_bounds c in
    let next : InOrder (at + size (take n (c ∷ t))) ys to = subst (λ p. InOrder p ys to) place (ih ys refl) in
    rw same (omega arith, omega (arith, place, bytes), next)

in_order : (at skip : ℕ) (t : Text) (xs : List Token) → tokens_from is_xid_start is_xid_continue at skip t ≡ Ok xs → InOrder (at + size (take skip t)) xs (at + size t)
unfolding tokens_from
in_order at skip [] xs e = let none : xs ≡ [] = cc in rw none (empty skip)
  where
    empty : (skip : ℕ) → at + size (take skip []) ≤ at + size []
    empty zero = omega arith
    empty (suc skip) = omega arith
in_order at (suc skip) (c ∷ t) xs e =
    let from : at + len_utf8 c + size (take skip t) ≡ at + size (take (suc skip) (c ∷ t)) = omega arith in
    let to : at + len_utf8 c + size t ≡ at + size (c ∷ t) = omega arith in
    subst (λ p. InOrder p xs (at + size (c ∷ t))) from (subst (λ p. InOrder (at + len_utf8 c + size (take skip t)) xs p) to (in_order (at + len_utf8 c) skip t xs e))
in_order at zero (c ∷ t) xs e =
    let to : at + len_utf8 c + size t ≡ at + size (c ∷ t) = omega arith in
    let here : at ≡ at + 0 = omega arith in
    subst (λ p. InOrder p xs (at + size (c ∷ t))) here
    (turn at c (at + size (c ∷ t)) t (front (c ∷ t)) _ xs refl e (λ ys r. subst (λ p. InOrder (at + len_utf8 c + size (take (extent (front (c ∷ t)) - 1) t)) ys p) to (in_order (at + len_utf8 c) (extent (front (c ∷ t)) - 1) t ys r)))

same_order : (from : ℕ) (ts : List declared.Token) (to : ℕ) → InOrder from (map token_of ts) to → AreInOrder from ts to
same_order from [] to h = h
same_order from (t ∷ ts) to h = (h.0, h.1, same_order t.to ts to h.2)

pub tokens_in_order : (text : List ℕ) (ts : List declared.Token) → IsUtf8 text → tokens_of text ≡ Ok (map token_of ts) → AreInOrder 0 ts (length text)
unfolding spec.tokens
tokens_in_order text ts u e =
    let whole = size-chars text u in
    let to : 0 + size (chars text) ≡ length text = omega (arith, whole) in
    same_order 0 ts (length text) (subst (λ p. InOrder 0 (map token_of ts) p) to (in_order 0 0 (chars text) (map token_of ts) e))
