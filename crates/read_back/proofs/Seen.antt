-- What the reader sees of the tokens of a text by its segments.
use Rattle.std.specs.Prelude.{◌≡◌, refl, ℕ, suc, ◌+◌, ◌≤◌, Bool, true, false, ◌==◌, List, [], ◌∷◌, ◌++◌, length, map, if◌then◌else◌, Option, Some, None, slice_range}
use Rattle.std.specs.Char.{encode_utf8}
use Rattle.std.specs.Str.{chars, encode_utf8_all, all_scalars}
use Rattle.std.proofs.Common.{arith, ap, ◌∙◌, sym, append_assoc, length-append}
use Rattle.std.proofs.lemmas.Bool.{and_parts}
use Rattle.std.proofs.lemmas.Bool.Decides.{nat_tests}
use Rattle.std.proofs.lemmas.Grind.{common_steps}
use Rattle.std.proofs.lemmas.Str.{length-encode, chars-encodes, encodes-append}
use lib.Utf8.{scalar}
use Rattle.term_core.specs.Tokens.{Text, Kind, Token, Value, value, size}
use Rattle.prolog_grammar.specs.declared.grammar.lexeme.Placed.{Placed}
use Rattle.prolog_grammar.specs.declared.grammar.lexeme.Lexeme.{Lexeme}
use Rattle.prolog_grammar.specs.declared.grammar.lexeme.Lexeme.TheVariants.{Name}
use Rattle.prolog_read.specs.Variables.{Numbering, start}
use Rattle.prolog_read.specs.Lexemes.{Before, is_direct, value_at, is_pair, open_with, open_behind, lexeme, variables_behind, pair_name, behind, behind_pair}
use Rattle.prolog_read.specs.Lexemes as reader
use Rattle.read_back.proofs.Segments.{Segment, space, written, text_of, placed}

-- a token without its place
pub record Seen : Type 0 where
  pub kind : Kind
  pub value : Value
  pub direct : Bool

-- of the segments of a text, where d says that nothing stands between them and the token before
abbrev pub seen : Bool → List Segment → List Seen
seen d [] = []
seen d (space ∷ ss) = seen false ss
seen d (written kind w ∷ ss) = record { kind = kind; value = value kind w; direct = d } ∷ seen true ss

-- a bracket of this kind is closed at once
abbrev pub closes : Kind → List Seen → Bool
closes k [] = false
closes k (u ∷ us) = is_pair k u.kind

abbrev pub Counted : Type 0
Counted = Lexeme × ℕ

abbrev pub pair_of : Kind → ℕ → Counted
pair_of k n = (Name (record { text = pair_name k; is_minus = false }), suc n)

abbrev pub one_of : Seen → ℕ → Numbering → Counted
one_of t n s = (lexeme t.kind t.value t.direct s, open_with t.kind n)

-- the lexemes, and how many brackets are open with each
abbrev pub read_seen : Bool → ℕ → Numbering → List Seen → List Counted
read_seen skip n s [] = []
read_seen true n s (t ∷ ts) = read_seen false n s ts
read_seen false n s (t ∷ ts) =
    if closes t.kind ts then pair_of t.kind n ∷ read_seen true n s ts
    else one_of t n s ∷ read_seen false (open_behind t.kind n) (variables_behind t.value s) ts

-- ---- tokens of a text

abbrev before_from : Option ℕ → Before
before_from to = record { to = to; brackets = 0; variables = start }

abbrev pub seen_of : List ℕ → Option ℕ → List Token → List Seen
seen_of text to [] = []
seen_of text to (t ∷ ts) = record { kind = t.kind; value = value_at text t; direct = is_direct (before_from to) t } ∷ seen_of text (Some t.to) ts

abbrev pub counted : Placed → Counted
counted p = (p.lexeme, p.«open»)

pub lexemes_seen : (text : List ℕ) (b : Before) (ts : List Token) → map counted (reader.placed text b ts) ≡ read_seen false b.brackets b.variables (seen_of text b.to ts)
unfolding reader.placed
lexemes_seen text b [] = refl
lexemes_seen text b (t ∷ []) = refl
lexemes_seen text b (t ∷ u ∷ ts) = by (is_pair t.kind u.kind) (lexemes_seen text (behind_pair b u) ts) (lexemes_seen text (behind text b t) (u ∷ ts))
  where
    this : Seen
    this = record { kind = t.kind; value = value_at text t; direct = is_direct b t }

    by : (c : Bool) →
        map counted (reader.placed text (behind_pair b u) ts) ≡ read_seen false b.brackets b.variables (seen_of text (Some u.to) ts) →
        map counted (reader.placed text (behind text b t) (u ∷ ts)) ≡ read_seen false (open_behind t.kind b.brackets) (variables_behind (value_at text t) b.variables) (seen_of text (Some t.to) (u ∷ ts)) →
        map counted (if c then reader.pair b t ∷ reader.placed text (behind_pair b u) ts else reader.single text b t ∷ reader.placed text (behind text b t) (u ∷ ts)) ≡
        (if c then pair_of t.kind b.brackets ∷ read_seen false b.brackets b.variables (seen_of text (Some u.to) ts)
        else one_of this b.brackets b.variables ∷ read_seen false (open_behind t.kind b.brackets) (variables_behind (value_at text t) b.variables) (seen_of text (Some t.to) (u ∷ ts)))
    by true h k = ap (λ xs. pair_of t.kind b.brackets ∷ xs) h
    by false h k = ap (λ xs. one_of this b.brackets b.variables ∷ xs) k

-- ---- the tokens of segments

size_length : (cs : Text) → length (encode_utf8_all cs) ≡ size cs
size_length [] = refl
size_length (c ∷ cs) = length-append (encode_utf8 c) (encode_utf8_all cs) ∙ (let e = length-encode c in let h = size_length cs in omega (arith, e, h))

size_append : (cs ds : Text) → size (cs ++ ds) ≡ size cs + size ds
size_append [] ds = omega arith
size_append (c ∷ cs) ds = let h = size_append cs ds in omega (arith, h)

cut : (a b c : List ℕ) → slice_range (a ++ (b ++ c)) (length a) (length a + length b) ≡ b
cut a b c = grind (arith, common_steps)

-- the characters of a token, by its place in the text
sliced : (text : List ℕ) (pre w rest : Text) → text ≡ encode_utf8_all pre ++ (encode_utf8_all w ++ encode_utf8_all rest) → all_scalars w ≡ true → chars (slice_range text (size pre) (size pre + size w)) ≡ w
sliced text pre w rest e u =
    let a = encode_utf8_all pre in
    let b = encode_utf8_all w in
    let from : size pre ≡ length a = sym (size_length pre) in
    let to : size pre + size w ≡ length a + length b = (let f = size_length pre in let g = size_length w in omega (arith, f, g)) in
    ap chars (ap (λ bs. slice_range bs (size pre) (size pre + size w)) e ∙ ap (λ n. slice_range (a ++ (b ++ encode_utf8_all rest)) n (size pre + size w)) from ∙ ap (λ n. slice_range (a ++ (b ++ encode_utf8_all rest)) (length a) n) to ∙ cut a b (encode_utf8_all rest)) ∙ chars-encodes w u

-- the token before ends here, where d, or before
abbrev pub Ends : Option ℕ → ℕ → Bool → Type 0
Ends None at d = d ≡ false
Ends (Some to) at d = ((to == at) ≡ d) × (to ≤ at)

direct_is : (to : Option ℕ) (t : Token) (d : Bool) → Ends to t.from d → is_direct (before_from to) t ≡ d
direct_is None t d e = sym e
direct_is (Some to) t d e = e.0

spaced : (to : Option ℕ) (at : ℕ) (d : Bool) → Ends to at d → Ends to (at + 1) false
spaced None at d e = refl
spaced (Some to) at d e = let l = e.1 in (grind (arith, nat_tests, l), omega (arith, l))

scalars_left : (w v : Text) → all_scalars (w ++ v) ≡ true → (all_scalars w ≡ true) × (all_scalars v ≡ true)
scalars_left [] v e = (refl, e)
scalars_left (c ∷ w) v e = let h = and_parts (scalar c) (all_scalars (w ++ v)) e in let g = scalars_left w v h.1 in (rw (h.0, g.0) refl, g.1)

moved : (pre w rest : Text) → encode_utf8_all pre ++ encode_utf8_all (w ++ rest) ≡ encode_utf8_all (pre ++ w) ++ encode_utf8_all rest
moved pre w rest = sym (encodes-append pre (w ++ rest)) ∙ ap encode_utf8_all (sym (append_assoc pre w rest)) ∙ encodes-append (pre ++ w) rest

here : (to : ℕ) → Ends (Some to) to true
here to = (grind (arith, nat_tests), omega arith)

pub sees : (text : List ℕ) (pre : Text) (at : ℕ) (ss : List Segment) (to : Option ℕ) (d : Bool) → at ≡ size pre → text ≡ encode_utf8_all pre ++ encode_utf8_all (text_of ss) → all_scalars (text_of ss) ≡ true → Ends to at d →
    seen_of text to (placed at ss) ≡ seen d ss
sees text pre at [] to d p e u n = refl
sees text pre at (space ∷ ss) to d p e u n =
    let rest : text ≡ encode_utf8_all (pre ++ 32 ∷ []) ++ encode_utf8_all (text_of ss) = e ∙ moved pre (32 ∷ []) (text_of ss) in
    let next : at + 1 ≡ size (pre ++ 32 ∷ []) = (let h = size_append pre (32 ∷ []) in omega (arith, h, p)) in
    sees text (pre ++ 32 ∷ []) (at + 1) ss to false next rest (scalars_left (32 ∷ []) (text_of ss) u).1 (spaced to at d n)
sees text pre at (written kind w ∷ ss) to d p e u n =
    let v = scalars_left w (text_of ss) u in
    let rest : text ≡ encode_utf8_all (pre ++ w) ++ encode_utf8_all (text_of ss) = e ∙ moved pre w (text_of ss) in
    let next : at + size w ≡ size (pre ++ w) = (let h = size_append pre w in omega (arith, h, p)) in
    let cs : chars (slice_range text at (at + size w)) ≡ w =
    (ap (λ k. chars (slice_range text k (k + size w))) p ∙ sliced text pre w (text_of ss) (e ∙ ap (λ r. encode_utf8_all pre ++ r) (encodes-append w (text_of ss))) v.0) in
    let direct = direct_is to (record { kind = kind; from = at; to = at + size w }) d n in
    rw (cs, direct) (ap (λ vs. record { kind = kind; value = value kind w; direct = d } ∷ vs) (sees text (pre ++ w) (at + size w) ss (Some (at + size w)) true next rest v.1 (here (at + size w))))
