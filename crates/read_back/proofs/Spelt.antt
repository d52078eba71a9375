-- The segments of an item, and all that is needed of them.
use Rattle.std.specs.Prelude.{◌≡◌, refl, ℕ, ◌<◌, ◌≤◌, Bool, true, false, not, ◌&&◌, ◌||◌, ◌==◌, List, [], ◌∷◌, ◌++◌, length, slice_index, ⊤}
use Rattle.std.specs.Char.{is_ascii_lowercase}
use Rattle.std.specs.Str.{encode_utf8_all, all_scalars}
use Rattle.std.proofs.Common.{arith, ap, sym, ◌∙◌, subst}
use Rattle.std.proofs.lemmas.Bool.{or_parts, not_from_false, and_from}
use Rattle.std.proofs.lemmas.Str.{encodes-append}
use Rattle.term_core.specs.Tokens.{Text, Kind, open_list_token, open_curly_token, value}
use Rattle.prolog_write.specs.declared.mode.Mode.TheVariants.{Quoted}
use Rattle.prolog_write.specs.Text.{is_spaced, is_symbol, is_word, first, last}
use Rattle.prolog_read.specs.Variables.{Numbering}
use Rattle.prolog_read.specs.Reads.{is_end}
use Rattle.prolog_read.specs.Lexemes.{is_pair, variables_behind}
use Rattle.prolog_read.specs.Lexemes as reader
use Rattle.read_back.specs.Laws.{AreHidden}
use Rattle.read_back.proofs.WriterNames.{Hide, item_hides}
use Rattle.read_back.proofs.Spelled.{Item, variable_item, integer_item, name_item, mark_item, infix_item, open_square, open_curly, piece_of, is_close_square, is_close_curly, open_behind}
use Rattle.read_back.proofs.Ascii.{scalars_append}
use Rattle.read_back.proofs.Classes.{continues_is, symbol_is}
use Rattle.read_back.proofs.Fronts.{IsToken, ends_word, ends_number, ends_symbols}
use Rattle.read_back.proofs.Keys.{item_counted, item_names}
use Rattle.read_back.proofs.Segments.{Segment, space, written, text_of, AreRead}
use Rattle.read_back.proofs.Seen.{Seen, seen, closes, one_of, read_seen}

-- ---- what an item is read as

abbrev pub item_text : Item → List ℕ
item_text x = (piece_of Quoted x).text

-- whether what follows stands directly behind it, where no space is put between
abbrev pub leaves : Item → Bool
leaves (infix_item f) = not (is_ascii_lowercase (first f))
leaves _ = true

-- a bracket of a list or of a curly term isn't closed at once
abbrev pub Unpaired : Item → List Seen → Type 0
Unpaired (mark_item open_square) ts = closes open_list_token ts ≡ false
Unpaired (mark_item open_curly) ts = closes open_curly_token ts ≡ false
Unpaired _ ts = ⊤

-- ---- what may stand behind it

abbrev pub is_operand : Item → Bool
is_operand (variable_item n) = true
is_operand (integer_item z) = true
is_operand (name_item f) = true
is_operand _ = false

-- a space, the end, or the first character of an item that needs no space
pub record Next (x : Item) (d : ℕ) : Type 0 where
  pub small : d < 128
  pub apart : is_spaced (last (item_text x)) (piece_of Quoted x).is_prefix d ≡ false
  pub plain : is_operand x ≡ true → (d == 46 || d == 39) ≡ false

right_false : (a b : Bool) → a ≡ true → (a && b) ≡ false → b ≡ false
right_false true b e f = f
right_false false b e f = absurd (cc)

pub after_word : (c d : ℕ) (p : Bool) → is_spaced c p d ≡ false → is_word c ≡ true → d < 128 → ends_word d ≡ true
unfolding is_spaced
after_word c d p e w l = not_from_false _ (continues_is d l ∙ right_false (is_word c) (is_word d) w (or_parts _ _ e).1)

pub after_number : (c d : ℕ) → is_spaced c false d ≡ false → is_word c ≡ true → d < 128 → (d == 46 || d == 39) ≡ false → ends_number d ≡ true
after_number c d e w l p = let q = or_parts _ _ p in and_from _ _ (after_word c d false e w l) (and_from _ _ (not_from_false _ q.0) (not_from_false _ q.1))

pub after_symbol : (c d : ℕ) (p : Bool) → is_spaced c p d ≡ false → is_symbol c ≡ true → d < 128 → ends_symbols d ≡ true
unfolding is_spaced
after_symbol c d p e w l = not_from_false _ (symbol_is d l ∙ right_false (is_symbol c) (is_symbol d) w (or_parts _ _ (or_parts _ _ e).0).1)

-- ---- an item's segments

abbrev pub has_no_end : List Segment → Bool
has_no_end [] = true
has_no_end (space ∷ ss) = has_no_end ss
has_no_end (written kind w ∷ ss) = not (is_end kind) && has_no_end ss

pub record Spelt (x : Item) : Type 0 where
  pub segments : List Segment
  pub small : first (item_text x) < 128
  pub bytes : (ss : List Segment) → encode_utf8_all (text_of (segments ++ ss)) ≡ item_text x ++ encode_utf8_all (text_of ss)
  pub scalars : (ss : List Segment) → all_scalars (text_of ss) ≡ true → all_scalars (text_of (segments ++ ss)) ≡ true
  pub front : (ss : List Segment) → slice_index (text_of (segments ++ ss)) 0 ≡ first (item_text x)
  pub reads : (ss : List Segment) → Next x (slice_index (text_of ss) 0) → AreRead ss → AreRead (segments ++ ss)
  pub no_end : (ss : List Segment) → has_no_end ss ≡ true → has_no_end (segments ++ ss) ≡ true
  pub hides : (ss : List Segment) → Hide ss → Hide (segments ++ ss)
  pub lexemes : (d : Bool) (n : ℕ) (s : Numbering) (ss : List Segment) → Unpaired x (seen (leaves x) ss) →
      read_seen false n s (seen d (segments ++ ss)) ≡ item_counted n s d x ++ read_seen false (open_behind n x) (item_names s x) (seen (leaves x) ss)
  pub square : (d : Bool) (ss : List Segment) → closes open_list_token (seen d (segments ++ ss)) ≡ is_close_square x
  pub curly : (d : Bool) (ss : List Segment) → closes open_curly_token (seen d (segments ++ ss)) ≡ is_close_curly x

-- ---- an item of one token

-- the token has these characters, and is read as the item's one lexeme
pub record Single (x : Item) (kind : Kind) (cs : Text) : Type 0 where
  pub bytes : encode_utf8_all cs ≡ item_text x
  pub scalars : all_scalars cs ≡ true
  pub small : slice_index cs 0 < 128
  pub front : slice_index cs 0 ≡ first (item_text x)
  pub no_end : is_end kind ≡ false
  pub counted : (d : Bool) (n : ℕ) (s : Numbering) → one_of (record { kind = kind; value = value kind cs; direct = d }) n s ∷ [] ≡ item_counted n s d x
  pub opens : (n : ℕ) → reader.open_behind kind n ≡ open_behind n x
  pub names : (s : Numbering) → variables_behind (value kind cs) s ≡ item_names s x
  pub alone : (ts : List Seen) → Unpaired x ts → closes kind ts ≡ false
  pub leaves_on : leaves x ≡ true
  pub square : is_pair open_list_token kind ≡ is_close_square x
  pub curly : is_pair open_curly_token kind ≡ is_close_curly x

front_of : (cs rest : Text) → 1 ≤ length cs → slice_index (cs ++ rest) 0 ≡ slice_index cs 0
front_of [] rest l = absurd (omega (arith, l))
front_of (c ∷ cs) rest l = refl

pub single : (x : Item) (kind : Kind) (cs : Text) (before : ℕ → Bool) → Single x kind cs → IsToken kind cs before → ((d : ℕ) → Next x d → before d ≡ true) → Spelt x
single x kind cs before h t may = record {
  segments = written kind cs ∷ [];
  small = subst (λ c. c < 128) h.front h.small;
  bytes = λ ss. encodes-append cs (text_of ss) ∙ ap (λ bs. bs ++ encode_utf8_all (text_of ss)) h.bytes;
  scalars = λ ss u. scalars_append cs (text_of ss) h.scalars u;
  front = λ ss. front_of cs (text_of ss) t.some ∙ h.front;
  reads = λ ss n r. (t.some, t.reads (text_of ss) (may (slice_index (text_of ss) 0) n), r);
  no_end = λ ss u. rw (h.no_end, u) refl;
  hides = λ ss u. (λ s a. subst (λ (m : Numbering). AreHidden m.names) (sym (h.names s)) (item_hides x s a), u);
  lexemes = λ d n s ss u. read d n s ss u;
  square = λ d ss. h.square;
  curly = λ d ss. h.curly;
}
  where
    read : (d : Bool) (n : ℕ) (s : Numbering) (ss : List Segment) → Unpaired x (seen (leaves x) ss) →
        read_seen false n s (seen d (written kind cs ∷ ss)) ≡ item_counted n s d x ++ read_seen false (open_behind n x) (item_names s x) (seen (leaves x) ss)
    read d n s ss u =
        let closed : closes kind (seen true ss) ≡ false = h.alone (seen true ss) (subst (λ b. Unpaired x (seen b ss)) h.leaves_on u) in
        rw (h.leaves_on, closed, ← h.counted d n s, h.opens n, h.names s) refl
