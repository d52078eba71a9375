-- Where a token stands in its text.
use Rattle.std.specs.Prelude.{◌≡◌, refl, ℕ, zero, suc, ◌+◌, ◌-◌, ◌^◌, ◌<◌, ◌≤◌, Bool, true, false, List, [], ◌∷◌, ◌++◌, length, take, drop, map, Ok, Err, if◌then◌else◌, slice_range, slice_index, Option, Some, None, ◌⊎◌, ◌&&◌, ◌==◌, slice_index_or, nat_lt}
use Rattle.std.specs.List.{Contains, prefix_len}
use Rattle.std.specs.Char.{len_utf8, is_whitespace, is_ascii_digit}
use Rattle.std.specs.Str.{chars, encode_utf8_all, all_scalars, IsUtf8, IsCharBoundary}
use Rattle.std.proofs.Common.{arith, ap, subst, ◌∙◌, sym, length-append, inl, inr, take-append-drop, append_assoc}
use Rattle.std.proofs.lemmas.Bool.Decides.{nat_tests}
use Rattle.std.proofs.lemmas.Str.{encodes-chars, scalars-chars, chars-encodes, encodes-append, IsCharBoundary-at_seam}
use Rattle.std.proofs.lemmas.Bool.{false≢true}
use Rattle.std.proofs.lemmas.Grind.{common_steps}
use lib.Utf8.{scalar}
use Rattle.unicode_ident.specs.Ident.{is_xid_start, is_xid_continue}
use Rattle.term_core.specs.Tokens.{Text, Kind, Reason, Front, layout, token, fault, Part, Token, Fault, Tokens, size, extent, with_token, found, tokens_from, integer, integer_token}
use Rattle.term_core.specs.Tokens as spec
use Rattle.prolog_lex.specs.Lexed.{tokens_of, token_of, kind_of, IsTokenOf, slice_of}
use Rattle.prolog_lex.specs.Scanned.{front}
use Rattle.prolog_lex.specs.declared.token.Token as declared
use Rattle.prolog_lex.proofs.Turns.{size-length}

-- ---- a token isn't empty, and an integer is in range

abbrev Fits : Text → Front → Type 0
Fits t (layout n) = Unit {0}
Fits t (token kind n) = (1 ≤ n) × (kind ≡ integer_token → integer (take n t) ≤ 2 ^ 127)
Fits t (fault reason n) = Unit {0}

record InRange (t : Text) (f : Front) : Type 0 where
  fits : Fits t f

fault_in : (t : Text) (reason : Reason) (n : ℕ) → InRange t (fault reason n)
fault_in t reason n = record { fits = tt }

layout_in : (t : Text) (n : ℕ) → InRange t (layout n)
layout_in t n = record { fits = tt }

token_in : (t : Text) (kind : Kind) (n : ℕ) → 1 ≤ n → (kind ≡ integer_token → ⊥) → InRange t (token kind n)
token_in t kind n l h = record { fits = (l, λ e. absurd (h e)) }

either : {t : Text} (b : Bool) {x y : Front} → InRange t x → InRange t y → InRange t (if b then x else y)
either true h k = h
either false h k = k

commented_in : (t : Text) (o : Option ℕ) → InRange t (spec.commented o)
commented_in t None = fault_in t spec.unclosed 0
commented_in t (Some n) = layout_in t (2 + n)

counted_in : (t : Text) (n : ℕ) → 1 ≤ n → InRange t (spec.counted n t)
counted_in t n l = in_range (nat_lt spec.greatest_integer (integer (take n t))) refl
  where
    in_range : (b : Bool) → nat_lt spec.greatest_integer (integer (take n t)) ≡ b → InRange t (if b then fault spec.out_of_range 0 else token integer_token n)
    in_range true e = record { fits = tt }
    in_range false e = record { fits = (l, λ _. grind (arith, nat_tests, e)) }

decimal_in : (t : Text) → InRange t (spec.decimal t)
decimal_in t = either _ (fault_in t spec.float_number 0) (counted_in t (1 + spec.digits 10 (drop 1 t)) (omega arith))

in_radix_in : (t : Text) (radix : ℕ) → InRange t (spec.in_radix radix t)
in_radix_in t radix = either _ (decimal_in t) (counted_in t (2 + spec.digits radix (drop 2 t)) (omega arith))

coded_in : (t : Text) (p : Part) → InRange t (spec.coded p t)
coded_in t (spec.character c n) = counted_in t (2 + n) (omega arith)
coded_in t (spec.joint n) = fault_in t spec.bad_char 2
coded_in t (spec.refused n) = fault_in t spec.bad_char 2
coded_in t spec.closing = decimal_in t

number_in : (t : Text) → InRange t (spec.number t)
unfolding spec.number
number_in t =
    either _ (decimal_in t)
    (either _ (in_radix_in t 16) (either _ (in_radix_in t 8) (either _ (in_radix_in t 2) (either _ (coded_in t (spec.part 39 (drop 2 t))) (decimal_in t)))))

closed_in : (t : Text) (kind : Kind) (n : ℕ) (bad : Option ℕ) → 1 ≤ n → (kind ≡ integer_token → ⊥) → InRange t (spec.closed kind n bad)
closed_in t kind n None l h = token_in t kind n l h
closed_in t kind n (Some m) l h = fault_in t spec.bad_char m

quoted_in : (t : Text) (quote : ℕ) (kind : Kind) → (kind ≡ integer_token → ⊥) → InRange t (spec.quoted quote kind t)
unfolding spec.quoted
quoted_in t quote kind h = either _ (closed_in t kind _ _ (omega arith) h) (fault_in t spec.unclosed 0)

mark_in : (t : Text) (c : ℕ) → InRange t (spec.mark c)
unfolding spec.mark
mark_in t c =
    either _ (token_in t spec.open_token 1 (omega arith) (λ e. cc)) (either _ (token_in t spec.close_token 1 (omega arith) (λ e. cc))
    (either _ (token_in t spec.open_list_token 1 (omega arith) (λ e. cc)) (either _ (token_in t spec.close_list_token 1 (omega arith) (λ e. cc))
    (either _ (token_in t spec.open_curly_token 1 (omega arith) (λ e. cc)) (either _ (token_in t spec.close_curly_token 1 (omega arith) (λ e. cc))
    (either _ (token_in t spec.comma_token 1 (omega arith) (λ e. cc)) (either _ (token_in t spec.bar_token 1 (omega arith) (λ e. cc))
    (either _ (token_in t spec.name_token 1 (omega arith) (λ e. cc)) (fault_in t spec.bad_char 0)))))))))

front_in : (t : Text) → InRange t (front t)
unfolding spec.front
front_in t =
    let c = slice_index t 0 in
    either (is_whitespace c) (layout_in t 1)
    (either (c == 37) (layout_in t (spec.line_comment t))
    (either (c == 47 && slice_index t 1 == 42) (commented_in t (spec.comment_end (drop 2 t)))
    (either (spec.begins_name is_xid_start is_xid_continue c) (token_in t spec.name_token (spec.word is_xid_start is_xid_continue t) (omega arith) (λ e. cc))
    (either (spec.begins_variable c) (token_in t spec.variable_token (spec.word is_xid_start is_xid_continue t) (omega arith) (λ e. cc))
    (either (is_ascii_digit c) (number_in t)
    (either (c == 39) (quoted_in t 39 spec.quoted_token (λ e. cc))
    (either (c == 34) (quoted_in t 34 spec.text_token (λ e. cc))
    (either (spec.is_end t) (token_in t spec.end_token 1 (omega arith) (λ e. cc))
    (either (spec.is_symbol c) (token_in t spec.name_token (1 + prefix_len spec.is_symbol (drop 1 t)) (omega arith) (λ e. cc))
    (mark_in t c))))))))))

pub integer_in : (t : Text) (n : ℕ) → front t ≡ token integer_token n → integer (take n t) ≤ 2 ^ 127
integer_in t n e = (subst (λ f. InRange t f) e (front_in t)).fits.1 refl

pub some_in : (t : Text) (kind : Kind) (n : ℕ) → front t ≡ token kind n → 1 ≤ n
some_in t kind n e = (subst (λ f. InRange t f) e (front_in t)).fits.0

-- ---- a token stands behind so many characters

pub record Stands (at : ℕ) (t : Text) (x : Token) : Type 0 where
  pub before : ℕ
  pub count : ℕ
  pub from : x.from ≡ at + size (take before t)
  pub to : x.to ≡ x.from + size (take count (drop before t))
  pub here : front (drop before t) ≡ token x.kind count

later : (at c : ℕ) (t : Text) (x : Token) → Stands (at + len_utf8 c) t x → Stands at (c ∷ t) x
later at c t x s = record { before = suc s.before; count = s.count; from = (let e = s.from in omega (arith, e)); to = s.to; here = s.here }

one_of : (x y : Token) (ys : List Token) → Contains (y ∷ ys) x → (y ≡ x) ⊎ Contains ys x
one_of x y ys (zero, l, e) = inl e
one_of x y ys (suc k, l, e) = inr (k, omega (arith, l), e)

turn : (at c : ℕ) (t : Text) (f : Front) (r : Tokens) (xs : List Token) (x : Token) → front (c ∷ t) ≡ f → found at (c ∷ t) f r ≡ Ok xs → Contains xs x →
    ((ys : List Token) → r ≡ Ok ys → Contains ys x → Stands (at + len_utf8 c) t x) → Stands at (c ∷ t) x
turn at c t (layout n) r xs x f e h ih = later at c t x (ih xs e h)
turn at c t (fault reason n) r xs x f e h ih = absurd (cc)
turn at c t (token kind n) (Err why) xs x f e h ih = absurd (cc)
turn at c t (token kind n) (Ok ys) xs x f e h ih =
    let y : Token = record { kind = kind; from = at; to = at + size (take n (c ∷ t)) } in
    let same : xs ≡ y ∷ ys = cc in
    elim (one_of x y ys (subst (λ zs. Contains zs x) same h)) [
      | inl i ↦ subst (λ z. Stands at (c ∷ t) z) i (record { before = 0; count = n; from = omega arith; to = refl; here = f })
      | inr i ↦ later at c t x (ih ys refl i)
    ]

stands : (at skip : ℕ) (t : Text) (xs : List Token) (x : Token) → tokens_from is_xid_start is_xid_continue at skip t ≡ Ok xs → Contains xs x → Stands at t x
unfolding tokens_from
stands at skip [] xs x e h = let none : xs ≡ [] = cc in absurd (empty (subst (λ zs. Contains zs x) none h))
  where
    empty : Contains [] x → ⊥
    empty (k, l, e) = omega (arith, l)
stands at (suc skip) (c ∷ t) xs x e h = later at c t x (stands (at + len_utf8 c) skip t xs x e h)
stands at zero (c ∷ t) xs x e h =
    turn at c t (front (c ∷ t)) _ xs x refl e h (λ ys r i. stands (at + len_utf8 c) (extent (front (c ∷ t)) - 1) t ys x r i)

-- ---- the slice of a token

both : (a b : Bool) → (a && b) ≡ true → (a ≡ true) × (b ≡ true)
both true b e = (refl, e)
both false b e = absurd (false≢true e)

scalars-take : (n : ℕ) (cs : Text) → all_scalars cs ≡ true → all_scalars (take n cs) ≡ true
scalars-take zero cs e = refl
scalars-take (suc n) [] e = refl
scalars-take (suc n) (c ∷ cs) e = let h = both (scalar c) (all_scalars cs) e in rw (h.0, scalars-take n cs h.1) refl

scalars-drop : (n : ℕ) (cs : Text) → all_scalars cs ≡ true → all_scalars (drop n cs) ≡ true
scalars-drop zero cs e = e
scalars-drop (suc n) [] e = refl
scalars-drop (suc n) (c ∷ cs) e = scalars-drop n cs (both (scalar c) (all_scalars cs) e).1

encodes-at : (n : ℕ) (cs : Text) → encode_utf8_all cs ≡ encode_utf8_all (take n cs) ++ encode_utf8_all (drop n cs)
encodes-at n cs = ap encode_utf8_all (sym (take-append-drop n cs)) ∙ encodes-append (take n cs) (drop n cs)

cut : (a b c : List ℕ) → slice_range (a ++ (b ++ c)) (length a) (length a + length b) ≡ b
cut a b c = grind (arith, common_steps)

seam : (bs xs cs : Text) → bs ≡ xs ++ encode_utf8_all cs → all_scalars cs ≡ true → IsCharBoundary bs (length xs)
seam bs xs cs e u = IsCharBoundary-at_seam bs xs (encode_utf8_all cs) e (cs, (u, refl))

-- a text that is cut at the front and at the end of some characters
pub record Sliced (text : List ℕ) (from to : ℕ) (cs : Text) : Type 0 where
  pub ordered : from ≤ to
  pub starts : IsCharBoundary text from
  pub ends : IsCharBoundary text to
  pub characters : chars (slice_range text from to) ≡ cs

sliced : (text xs ys zs : Text) (from to : ℕ) → text ≡ encode_utf8_all xs ++ (encode_utf8_all ys ++ encode_utf8_all zs) → all_scalars ys ≡ true → all_scalars zs ≡ true →
    (ys_zs : all_scalars (ys ++ zs) ≡ true) → from ≡ size xs → to ≡ from + size ys → Sliced text from to ys
sliced text xs ys zs from to e u v w f t =
    let a = encode_utf8_all xs in
    let b = encode_utf8_all ys in
    let c = encode_utf8_all zs in
    let first : from ≡ length a = f ∙ sym (size-length xs) in
    let last : to ≡ length a + length b = (let la = size-length xs in let lb = size-length ys in omega (arith, la, lb, f, t)) in
    record {
      ordered = omega (arith, t);
      starts = subst (λ n. IsCharBoundary text n) (sym first) (seam text a (ys ++ zs) (e ∙ ap (λ r. a ++ r) (sym (encodes-append ys zs))) w);
      ends = subst (λ n. IsCharBoundary text n) (length-append a b ∙ sym last) (seam text (a ++ b) zs (e ∙ sym (append_assoc a b c)) v);
      characters = ap chars (ap (λ bs. slice_range bs from to) e ∙ ap (λ n. slice_range (a ++ (b ++ c)) n to) first ∙ ap (λ n. slice_range (a ++ (b ++ c)) (length a) n) last ∙ cut a b c) ∙ chars-encodes ys u;
    }

pub stands-sliced : (text : List ℕ) (x : Token) → IsUtf8 text → (s : Stands 0 (chars text) x) → Sliced text x.from x.to (take s.count (drop s.before (chars text)))
stands-sliced text x u s =
    let cs = chars text in
    let after = drop s.before cs in
    let all : all_scalars after ≡ true = scalars-drop s.before cs (scalars-chars text u) in
    let whole : text ≡ encode_utf8_all (take s.before cs) ++ (encode_utf8_all (take s.count after) ++ encode_utf8_all (drop s.count after)) =
    sym (encodes-chars text u) ∙ encodes-at s.before cs ∙ ap (λ r. encode_utf8_all (take s.before cs) ++ r) (encodes-at s.count after) in
    let joined : all_scalars (take s.count after ++ drop s.count after) ≡ true = rw (take-append-drop s.count after) all in
    let first : x.from ≡ size (take s.before cs) = (let e = s.from in omega (arith, e)) in
    sliced text (take s.before cs) (take s.count after) (drop s.count after) x.from x.to whole (scalars-take s.count after all) (scalars-drop s.count after all) joined first s.to

-- ---- a token of a text

pub where_it_stands : (text : List ℕ) (t : declared.Token) → IsTokenOf text t → Stands 0 (chars text) (token_of t)
unfolding spec.tokens
where_it_stands text t h = stands 0 0 (chars text) h.all (token_of t) h.read h.among

pub its_slice : (text : List ℕ) (t : declared.Token) → IsUtf8 text → IsTokenOf text t → (cs : Text) × Sliced text t.from t.to cs
its_slice text t u h = (_, stands-sliced text (token_of t) u (where_it_stands text t h))

pub integer_fits : (text : List ℕ) (t : declared.Token) → IsUtf8 text → IsTokenOf text t → kind_of t.kind ≡ integer_token → integer (chars (slice_of text t)) ≤ 2 ^ 127
integer_fits text t u h e =
    let s = where_it_stands text t h in
    rw ((stands-sliced text (token_of t) u s).characters) (integer_in (drop s.before (chars text)) s.count (s.here ∙ ap (λ kind. token kind s.count) e))

-- each token that was found is one of the text
pub is_token_at : (text : List ℕ) (ts : List declared.Token) (i : ℕ) (t : declared.Token) → tokens_of text ≡ Ok (map token_of ts) → i < length ts → slice_index_or ts i t ≡ t → IsTokenOf text t
is_token_at text ts i t e l at = record { all = map token_of ts; read = e; among = mapped ts i l at }
  where
    mapped : (ts : List declared.Token) (i : ℕ) → i < length ts → slice_index_or ts i t ≡ t → Contains (map token_of ts) (token_of t)
    mapped [] i l at = absurd (omega arith)
    mapped (x ∷ xs) zero l at = (0, omega arith, ap token_of at)
    mapped (x ∷ xs) (suc i) l at = let m = mapped xs i (omega arith) at in (suc m.0, (let h = m.1 in omega arith), m.2)
