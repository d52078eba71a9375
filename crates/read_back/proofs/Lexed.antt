-- The tokens of a text made of items that stand apart.
use Rattle.std.specs.Prelude.{◌≡◌, refl, ℕ, ◌^◌, ◌<◌, Bool, true, false, not, ◌&&◌, ◌||◌, ◌==◌, cond, pos, negsuc, List, [], ◌∷◌, ◌++◌, map, slice_index, decimal, ⊤}
use Rattle.std.specs.Char.{is_ascii_digit}
use Rattle.std.specs.List.{list_all}
use Rattle.std.specs.Str.{encode_utf8_all, all_scalars}
use Rattle.std.proofs.Common.{arith, ap, ◌∙◌, sym, subst}
use Rattle.std.proofs.lemmas.Bool.{and_parts, or_from, or_left, or_right, and_left, and_right, not-true, false≢true}
use Rattle.op_table.specs.Table.{iso_infix}
use Rattle.term_core.specs.Tokens.{Kind, open_list_token, open_curly_token}
use Rattle.prolog_write.specs.declared.mode.Mode.TheVariants.{Quoted}
use Rattle.prolog_write.specs.Text.{is_spaced, is_symbol, is_word, first, last, infix_piece, behind}
use Rattle.prolog_read.specs.Variables.{Numbering, start}
use Rattle.read_back.proofs.Spelled.{Item, variable_item, integer_item, name_item, mark_item, prefix_item, infix_item, Mark, open_round, close_round, open_square, close_square, open_curly, close_curly, comma, bar, piece_of, is_tight, IsItem, FollowedBy, AreApart, may_follow, goes_on, open_behind}
use Rattle.read_back.proofs.Ascii.{ascii_first, Digits, digits_of}
use Rattle.read_back.proofs.Segments.{Segment, space, text_of, AreRead}
use Rattle.read_back.proofs.Seen.{seen, closes, read_seen}
use Rattle.read_back.proofs.WriterNames.{Hide}
use Rattle.read_back.proofs.Keys.{item_counted, item_names, threaded}
use Rattle.read_back.proofs.Spelt.{Spelt, Next, Unpaired, is_operand, has_no_end, item_text, leaves}
use Rattle.read_back.proofs.Numbers.{digit_no_symbol, variable_spelt, integer_spelt, mark_spelt}
use Rattle.read_back.proofs.Names.{name_spelt, prefix_spelt, infix_spelt, holds_of}

spelt : (x : Item) → IsItem x → Spelt x
spelt (variable_item n) h = variable_spelt n h
spelt (integer_item z) h = integer_spelt z h
spelt (name_item f) h = name_spelt f h
spelt (mark_item k) h = mark_spelt k
spelt (prefix_item f) h = prefix_spelt f h
spelt (infix_item f) h = infix_spelt f h

-- items by their tokens, side by side
abbrev pub AreSpelt : List Item → Type 0
AreSpelt [] = ⊤
AreSpelt (x ∷ xs) = Spelt x × IsItem x × FollowedBy x xs × AreSpelt xs

pub are_spelt : (xs : List Item) → AreApart xs → AreSpelt xs
unfolding AreApart
are_spelt [] h = tt
are_spelt (x ∷ xs) h = (spelt x h.0, h.0, h.1, are_spelt xs h.2)

-- the segments of items behind a piece that ends in this character
abbrev pub segments : ℕ → Bool → (xs : List Item) → AreSpelt xs → List Segment
segments c p [] h = []
segments c p (x ∷ xs) h = cond (is_spaced c p (first (item_text x))) (space ∷ []) [] ++ (h.0.segments ++ segments (last (item_text x)) (piece_of Quoted x).is_prefix xs h.3)

abbrev behind_item : (x : Item) (xs : List Item) → AreSpelt xs → List Segment
behind_item x xs h = segments (last (item_text x)) (piece_of Quoted x).is_prefix xs h

-- ---- their characters

spaced_bytes : (b : Bool) (ss : List Segment) → encode_utf8_all (text_of (cond b (space ∷ []) [] ++ ss)) ≡ cond b (32 ∷ []) [] ++ encode_utf8_all (text_of ss)
spaced_bytes true ss = ascii_first 32 (text_of ss) (omega arith)
spaced_bytes false ss = refl

pub their_bytes : (c : ℕ) (p : Bool) (xs : List Item) (h : AreSpelt xs) → encode_utf8_all (text_of (segments c p xs h)) ≡ behind c p (map (piece_of Quoted) xs)
their_bytes c p [] h = refl
their_bytes c p (x ∷ xs) h =
    spaced_bytes (is_spaced c p (first (item_text x))) (h.0.segments ++ behind_item x xs h.3)
    ∙ ap (λ bs. cond (is_spaced c p (first (item_text x))) (32 ∷ []) [] ++ bs) (h.0.bytes (behind_item x xs h.3) ∙ ap (λ bs. item_text x ++ bs) (their_bytes (last (item_text x)) (piece_of Quoted x).is_prefix xs h.3))

spaced_scalars : (b : Bool) (ss : List Segment) → all_scalars (text_of ss) ≡ true → all_scalars (text_of (cond b (space ∷ []) [] ++ ss)) ≡ true
spaced_scalars true ss u = u
spaced_scalars false ss u = u

pub their_scalars : (c : ℕ) (p : Bool) (xs : List Item) (h : AreSpelt xs) → all_scalars (text_of (segments c p xs h)) ≡ true
their_scalars c p [] h = refl
their_scalars c p (x ∷ xs) h = spaced_scalars (is_spaced c p (first (item_text x))) _ (h.0.scalars (behind_item x xs h.3) (their_scalars (last (item_text x)) (piece_of Quoted x).is_prefix xs h.3))

spaced_ends : (b : Bool) (ss : List Segment) → has_no_end ss ≡ true → has_no_end (cond b (space ∷ []) [] ++ ss) ≡ true
spaced_ends true ss u = u
spaced_ends false ss u = u

pub no_ends : (c : ℕ) (p : Bool) (xs : List Item) (h : AreSpelt xs) → has_no_end (segments c p xs h) ≡ true
no_ends c p [] h = refl
no_ends c p (x ∷ xs) h = spaced_ends (is_spaced c p (first (item_text x))) _ (h.0.no_end (behind_item x xs h.3) (no_ends (last (item_text x)) (piece_of Quoted x).is_prefix xs h.3))

-- ---- their variables

spaced_hide : (b : Bool) (ss : List Segment) → Hide ss → Hide (cond b (space ∷ []) [] ++ ss)
spaced_hide true ss u = u
spaced_hide false ss u = u

pub they_hide : (c : ℕ) (p : Bool) (xs : List Item) (h : AreSpelt xs) → Hide (segments c p xs h)
they_hide c p [] h = tt
they_hide c p (x ∷ xs) h = spaced_hide (is_spaced c p (first (item_text x))) _ (h.0.hides (behind_item x xs h.3) (they_hide (last (item_text x)) (piece_of Quoted x).is_prefix xs h.3))

-- ---- what follows an item

unspaced : (p a b x y z : Bool) → x ≡ false → y ≡ false → z ≡ false → ((p && x) || (a && y) || (b && z)) ≡ false
unspaced p a b x y z e f g = or_from _ _ (or_from _ _ (and_right p x e) (and_right a y f)) (and_right b z g)

no_space_at_end : (c : ℕ) (p : Bool) → is_spaced c p 0 ≡ false
unfolding is_spaced is_symbol is_word
no_space_at_end c p = unspaced p _ _ _ _ _ refl refl refl

no_space_before_one : (c : ℕ) (p : Bool) → is_spaced c p 32 ≡ false
unfolding is_spaced is_symbol is_word
no_space_before_one c p = unspaced p _ _ _ _ _ refl refl refl

begins_plain : List ℕ → Bool
begins_plain f = not (first (infix_piece f).text == 46 || first (infix_piece f).text == 39)

all_plain : list_all (λ r. begins_plain r.0) iso_infix ≡ true
unfolding iso_infix begins_plain
all_plain = refl

infix_plain : (f : List ℕ) → begins_plain f ≡ true → (first (infix_piece f).text == 46 || first (infix_piece f).text == 39) ≡ false
unfolding begins_plain
infix_plain f e = not-true _ e

mark_plain : (k : Mark) → (first (item_text (mark_item k)) == 46 || first (item_text (mark_item k)) == 39) ≡ false
mark_plain open_round = refl
mark_plain close_round = refl
mark_plain open_square = refl
mark_plain close_square = refl
mark_plain open_curly = refl
mark_plain close_curly = refl
mark_plain comma = refl
mark_plain bar = refl

plain_first : (y : Item) → IsItem y → goes_on y ≡ true → (first (item_text y) == 46 || first (item_text y) == 39) ≡ false
plain_first (variable_item n) h e = absurd (false≢true e)
plain_first (integer_item z) h e = absurd (false≢true e)
plain_first (name_item f) h e = absurd (false≢true e)
plain_first (mark_item k) h e = mark_plain k
plain_first (prefix_item f) h e = absurd (false≢true e)
plain_first (infix_item f) h e = infix_plain f (holds_of begins_plain f iso_infix all_plain h)

behind_operand : (x y : Item) → is_operand x ≡ true → may_follow x y ≡ true → goes_on y ≡ true
behind_operand (variable_item n) y o m = m
behind_operand (integer_item z) y o m = m
behind_operand (name_item f) y o m = m
behind_operand (mark_item k) y o m = absurd (false≢true o)
behind_operand (prefix_item f) y o m = absurd (false≢true o)
behind_operand (infix_item f) y o m = absurd (false≢true o)

next_of : (x : Item) (xs : List Item) (h : AreSpelt xs) → FollowedBy x xs → Next x (slice_index (text_of (behind_item x xs h)) 0)
next_of x [] h f = record { small = omega arith; apart = no_space_at_end (last (item_text x)) (piece_of Quoted x).is_prefix; plain = λ o. refl }
next_of x (y ∷ ys) h f = by (is_spaced (last (item_text x)) (piece_of Quoted x).is_prefix (first (item_text y))) refl
  where
    by : (b : Bool) → is_spaced (last (item_text x)) (piece_of Quoted x).is_prefix (first (item_text y)) ≡ b →
        Next x (slice_index (text_of (cond b (space ∷ []) [] ++ (h.0.segments ++ behind_item y ys h.3))) 0)
    by true e = record { small = omega arith; apart = no_space_before_one (last (item_text x)) (piece_of Quoted x).is_prefix; plain = λ o. refl }
    by false e =
        subst (λ d. Next x d) (sym (h.0.front (behind_item y ys h.3)))
        (record { small = h.0.small; apart = e; plain = λ o. plain_first y h.1 (behind_operand x y o f) })

spaced_read : (b : Bool) (ss : List Segment) → AreRead ss → AreRead (cond b (space ∷ []) [] ++ ss)
spaced_read true ss r = r
spaced_read false ss r = r

pub all_read : (c : ℕ) (p : Bool) (xs : List Item) (h : AreSpelt xs) → AreRead (segments c p xs h)
all_read c p [] h = tt
all_read c p (x ∷ xs) h =
    spaced_read (is_spaced c p (first (item_text x))) (h.0.segments ++ behind_item x xs h.3)
    (h.0.reads (behind_item x xs h.3) (next_of x xs h.3 h.2) (all_read (last (item_text x)) (piece_of Quoted x).is_prefix xs h.3))

-- ---- whether an item's first token stands directly behind the token before it

spaced_seen : (b d : Bool) (ss : List Segment) → seen d (cond b (space ∷ []) [] ++ ss) ≡ seen (cond b false d) ss
spaced_seen true d ss = refl
spaced_seen false d ss = refl

-- of the item behind x
abbrev flag : Item → Item → Bool
flag x y = cond (is_spaced (last (item_text x)) (piece_of Quoted x).is_prefix (first (item_text y))) false (leaves x)

unless_prefix : (x : Item) → cond (piece_of Quoted x).is_prefix false (leaves x) ≡ is_tight x
unless_prefix (variable_item n) = refl
unless_prefix (integer_item z) = refl
unless_prefix (name_item f) = refl
unless_prefix (mark_item k) = refl
unless_prefix (prefix_item f) = refl
unless_prefix (infix_item f) = refl

by_prefix : (p x y a b : Bool) → x ≡ true → y ≡ false → a ≡ false → ((p && x) || (b && y) || a) ≡ p
by_prefix true true y a b e f g = refl
by_prefix true false y a b e f g = absurd (false≢true e)
by_prefix false x y a b e f g = or_from _ _ (and_right b y f) g

spaced_round : (c : ℕ) (p : Bool) → is_spaced c p 40 ≡ p
unfolding is_spaced is_symbol is_word
spaced_round c p = by_prefix p true _ _ _ refl refl (and_right (is_word c) _ refl)

flag_round : (x : Item) → flag x (mark_item open_round) ≡ is_tight x
flag_round x = ap (λ b. cond b false (leaves x)) (spaced_round (last (item_text x)) (piece_of Quoted x).is_prefix) ∙ unless_prefix x

spaced_digit : (c d : ℕ) (p : Bool) → is_word c ≡ false → is_ascii_digit d ≡ true → is_spaced c p d ≡ p
unfolding is_spaced
spaced_digit c d p w e = by_prefix p _ _ _ _ (or_right _ _ e) (digit_no_symbol d e) (and_left _ _ w)

mark_ends : (k : Mark) → is_word (last (item_text (mark_item k))) ≡ false
unfolding is_word
mark_ends open_round = refl
mark_ends close_round = refl
mark_ends open_square = refl
mark_ends close_square = refl
mark_ends open_curly = refl
mark_ends close_curly = refl
mark_ends comma = refl
mark_ends bar = refl

ends_apart : List ℕ → Bool
ends_apart f = not (is_word (last (infix_piece f).text))

all_end_apart : list_all (λ r. ends_apart r.0) iso_infix ≡ true
unfolding iso_infix ends_apart is_word
all_end_apart = refl

infix_ends : (f : List ℕ) → ends_apart f ≡ true → is_word (last (infix_piece f).text) ≡ false
unfolding ends_apart
infix_ends f e = not-true _ e

first_digit : (n : ℕ) → n < 2 ^ 127 → is_ascii_digit (first (decimal n)) ≡ true
first_digit n l = by (digits_of n (omega arith))
  where
    by : Digits n → is_ascii_digit (first (decimal n)) ≡ true
    by h = rw (h.are) (and_parts (is_ascii_digit h.head) (list_all is_ascii_digit h.tail) h.digits).0

digit_flag : (x : Item) (n : ℕ) → is_word (last (item_text x)) ≡ false → n < 2 ^ 127 → flag x (integer_item (pos n)) ≡ is_tight x
digit_flag x n w l = ap (λ b. cond b false (leaves x)) (spaced_digit (last (item_text x)) (first (decimal n)) (piece_of Quoted x).is_prefix w (first_digit n l)) ∙ unless_prefix x

spaced_prefix : (c d : ℕ) → is_ascii_digit d ≡ true → is_spaced c true d ≡ true
unfolding is_spaced
spaced_prefix c d e = or_left ((d == 40 || is_ascii_digit d) || (is_symbol c && is_symbol d)) (is_word c && is_word d) (or_left (d == 40 || is_ascii_digit d) (is_symbol c && is_symbol d) (or_right (d == 40) (is_ascii_digit d) e))

prefix_flag : (f : List ℕ) (n : ℕ) → n < 2 ^ 127 → flag (prefix_item f) (integer_item (pos n)) ≡ false
prefix_flag f n l = ap (λ b. cond b false true) (spaced_prefix (last f) (first (decimal n)) (first_digit n l))

flag_digit : (x : Item) (n : ℕ) → IsItem x → n < 2 ^ 127 → may_follow x (integer_item (pos n)) ≡ true → flag x (integer_item (pos n)) ≡ is_tight x
flag_digit (variable_item k) n h l m = absurd (false≢true m)
flag_digit (integer_item z) n h l m = absurd (false≢true m)
flag_digit (name_item f) n h l m = absurd (false≢true m)
flag_digit (mark_item k) n h l m = digit_flag (mark_item k) n (mark_ends k) l
flag_digit (prefix_item f) n h l m = prefix_flag f n l
flag_digit (infix_item f) n h l m = digit_flag (infix_item f) n (infix_ends f (holds_of ends_apart f iso_infix all_end_apart h)) l

-- the flag counts at an open bracket and at digits alone
flag_counted : (x y : Item) (n : ℕ) (s : Numbering) → IsItem x → IsItem y → may_follow x y ≡ true → item_counted n s (flag x y) y ≡ item_counted n s (is_tight x) y
flag_counted x (variable_item k) n s h i m = refl
flag_counted x (integer_item (pos k)) n s h i m = ap (λ d. item_counted n s d (integer_item (pos k))) (flag_digit x k h i m)
flag_counted x (integer_item (negsuc k)) n s h i m = refl
flag_counted x (name_item f) n s h i m = refl
flag_counted x (mark_item open_round) n s h i m = ap (λ d. item_counted n s d (mark_item open_round)) (flag_round x)
flag_counted x (mark_item close_round) n s h i m = refl
flag_counted x (mark_item open_square) n s h i m = refl
flag_counted x (mark_item close_square) n s h i m = refl
flag_counted x (mark_item open_curly) n s h i m = refl
flag_counted x (mark_item close_curly) n s h i m = refl
flag_counted x (mark_item comma) n s h i m = refl
flag_counted x (mark_item bar) n s h i m = refl
flag_counted x (prefix_item f) n s h i m = refl
flag_counted x (infix_item f) n s h i m = refl

-- ---- no bracket is closed at once

spaced_closes : (k : Kind) (b d : Bool) (ss : List Segment) → ((e : Bool) → closes k (seen e ss) ≡ false) → closes k (seen d (cond b (space ∷ []) [] ++ ss)) ≡ false
spaced_closes k true d ss h = h false
spaced_closes k false d ss h = h d

no_square : (c : ℕ) (p d : Bool) (xs : List Item) (h : AreSpelt xs) → FollowedBy (mark_item open_square) xs → closes open_list_token (seen d (segments c p xs h)) ≡ false
no_square c p d [] h f = refl
no_square c p d (y ∷ ys) h f = spaced_closes open_list_token (is_spaced c p (first (item_text y))) d (h.0.segments ++ behind_item y ys h.3) (λ e. h.0.square e (behind_item y ys h.3) ∙ not-true _ f)

no_curly : (c : ℕ) (p d : Bool) (xs : List Item) (h : AreSpelt xs) → FollowedBy (mark_item open_curly) xs → closes open_curly_token (seen d (segments c p xs h)) ≡ false
no_curly c p d [] h f = refl
no_curly c p d (y ∷ ys) h f = spaced_closes open_curly_token (is_spaced c p (first (item_text y))) d (h.0.segments ++ behind_item y ys h.3) (λ e. h.0.curly e (behind_item y ys h.3) ∙ not-true _ f)

unpaired : (x : Item) (xs : List Item) (h : AreSpelt xs) → FollowedBy x xs → Unpaired x (seen (leaves x) (behind_item x xs h))
unpaired (variable_item n) xs h f = tt
unpaired (integer_item z) xs h f = tt
unpaired (name_item g) xs h f = tt
unpaired (mark_item open_round) xs h f = tt
unpaired (mark_item close_round) xs h f = tt
unpaired (mark_item open_square) xs h f = no_square 91 false true xs h f
unpaired (mark_item close_square) xs h f = tt
unpaired (mark_item open_curly) xs h f = no_curly 123 false true xs h f
unpaired (mark_item close_curly) xs h f = tt
unpaired (mark_item comma) xs h f = tt
unpaired (mark_item bar) xs h f = tt
unpaired (prefix_item g) xs h f = tt
unpaired (infix_item g) xs h f = tt

-- ---- their lexemes

all_threaded : (n : ℕ) (s : Numbering) (x : Item) (xs : List Item) (h : AreSpelt xs) → IsItem x → FollowedBy x xs → read_seen false n s (seen (leaves x) (behind_item x xs h)) ≡ threaded n s (is_tight x) xs
all_threaded n s x [] h i f = refl
all_threaded n s x (y ∷ ys) h i f =
    let b = is_spaced (last (item_text x)) (piece_of Quoted x).is_prefix (first (item_text y)) in
    ap (read_seen false n s) (spaced_seen b (leaves x) (h.0.segments ++ behind_item y ys h.3))
    ∙ h.0.lexemes (flag x y) n s (behind_item y ys h.3) (unpaired y ys h.3 h.2)
    ∙ ap (λ ks. ks ++ read_seen false (open_behind n y) (item_names s y) (seen (leaves y) (behind_item y ys h.3))) (flag_counted x y n s i h.1 f)
    ∙ ap (λ ks. item_counted n s (is_tight x) y ++ ks) (all_threaded (open_behind n y) (item_names s y) y ys h.3 h.1 h.2)

no_flag : (b : Bool) → cond b false false ≡ false
no_flag true = refl
no_flag false = refl

-- of a whole text
pub from_start : (xs : List Item) (h : AreSpelt xs) → read_seen false 0 start (seen false (segments 0 false xs h)) ≡ threaded 0 start false xs
from_start [] h = refl
from_start (x ∷ xs) h =
    let b = is_spaced 0 false (first (item_text x)) in
    let ss = h.0.segments ++ behind_item x xs h.3 in
    ap (read_seen false 0 start) (spaced_seen b false ss ∙ ap (λ d. seen d ss) (no_flag b))
    ∙ h.0.lexemes false 0 start (behind_item x xs h.3) (unpaired x xs h.3 h.2)
    ∙ ap (λ ks. item_counted 0 start false x ++ ks) (all_threaded (open_behind 0 x) (item_names start x) x xs h.3 h.1 h.2)
