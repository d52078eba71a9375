-- The tokens of names and of operators.
use Rattle.std.specs.Prelude.{◌≡◌, refl, ℕ, ◌<◌, Bool, true, false, not, ◌&&◌, ◌||◌, ◌==◌, cond, List, [], ◌∷◌, ◌++◌, length, codes, bytes_eq, is_some, Some}
use Rattle.std.specs.Char.{is_ascii, is_ascii_lowercase}
use Rattle.std.specs.List.{list_all}
use Rattle.std.specs.Str.{encode_utf8_all, chars, IsUtf8}
use Rattle.std.proofs.Common.{arith, ap, ◌∙◌, sym, subst, inl, inr, append_assoc}
use Rattle.std.proofs.lemmas.Bool.{and_parts, and_right, or_parts, or_from, or_cases, cases_Bool, not_from_false, not-true, lt-ltb, ltb-true, cases_Bool, false≢true}
use Rattle.std.proofs.lemmas.Bool.Decides.{nat_tests}
use Rattle.std.proofs.lemmas.Str.{encodes-append, encodes-chars, scalars-chars}
use Rattle.op_table.specs.Table.{Rows, row, iso_prefix, iso_infix}
use Rattle.term_core.specs.Tokens.{Text, Kind, name_token, quoted_token, open_list_token, close_list_token, open_curly_token, close_curly_token, comma_token}
use Rattle.term_core.specs.Tokens as spec
use Rattle.prolog_write.specs.Text.{is_word, is_symbol, is_bare, is_word_atom, is_symbol_atom, is_solo_atom, quoted, is_spaced, first, last}
use Rattle.prolog_read.specs.Variables.{Numbering}
use Rattle.prolog_grammar.specs.declared.grammar.lexeme.Lexeme.TheVariants.{Name}
use Rattle.prolog_write.specs.declared.mode.Mode.TheVariants.{Quoted}
use Rattle.read_back.proofs.Spelled.{Item, name_item, prefix_item, infix_item, piece_of, word, is_brackets, is_close_square, is_close_curly, open_behind}
use Rattle.read_back.proofs.Ascii.{ascii_first, ascii_encodes, ascii_scalars, scalars_append, last_all}
use Rattle.read_back.proofs.Classes.{word_below, symbol_below}
use Rattle.read_back.proofs.Fronts.{IsToken, is_any, ends_word, ends_symbols, ends_quote, all_too, word_token, symbols_token}
use Rattle.read_back.proofs.Fronts as front
use Rattle.read_back.proofs.Ops.{same_name}
use Rattle.read_back.proofs.Escapes.{quoted_bytes, quoted_scalars}
use Rattle.read_back.proofs.Quotes.{in_quotes, quoted_token_of, held_of}
use Rattle.read_back.proofs.Segments.{Segment, space, written, text_of}
use Rattle.read_back.proofs.Seen.{seen, closes, read_seen}
use Rattle.read_back.proofs.Keys.{item_counted, item_names}
use Rattle.read_back.proofs.Spelt.{Spelt, Single, single, Next, item_text, leaves, after_word, after_symbol}
use Rattle.read_back.proofs.Numbers.{never_closes}

-- a name that passes a test isn't one that doesn't
differ : (p : List ℕ → Bool) (f g : List ℕ) → p f ≡ true → p g ≡ false → bytes_eq f g ≡ false
differ p f g e h = by (bytes_eq f g) refl
  where
    by : (b : Bool) → bytes_eq f g ≡ b → b ≡ false
    by true same = absurd (false≢true (sym h ∙ ap p (sym (same_name f g same)) ∙ e))
    by false same = refl

-- ---- names in quotes

is_not_bare : List ℕ → Bool
is_not_bare f = not (is_bare f)

bare_minus : is_bare (codes "-") ≡ true
unfolding is_bare is_symbol
bare_minus = refl

bare_nil : is_bare (codes "[]") ≡ true
unfolding is_bare is_symbol
bare_nil = refl

bare_curly : is_bare (codes "{}") ≡ true
unfolding is_bare is_symbol
bare_curly = refl

unlike : (f g : List ℕ) → is_bare f ≡ false → is_bare g ≡ true → bytes_eq f g ≡ false
unfolding is_not_bare
unlike f g e h = differ is_not_bare f g (ap not e) (ap not h)

quoted_spelt : (f : List ℕ) → IsUtf8 f → is_bare f ≡ false → Spelt (name_item f)
quoted_spelt f u e =
    let cs = chars f in
    let name : encode_utf8_all cs ≡ f = encodes-chars f u in
    let text : quoted f ≡ item_text (name_item f) = rw e refl in
    let held : spec.held 39 (in_quotes cs) ≡ cs = held_of cs in
    let minus = unlike f (codes "-") e bare_minus in
    let nil = unlike f (codes "[]") e bare_nil in
    let curly = unlike f (codes "{}") e bare_curly in
    single (name_item f) quoted_token (in_quotes cs) ends_quote (record {
      bytes = quoted_bytes cs ∙ ap quoted name ∙ text;
      scalars = quoted_scalars cs (scalars-chars f u);
      small = omega arith;
      front = ap first text;
      no_end = refl;
      counted = λ d n s. rw (held, name, minus, nil, curly) refl;
      opens = λ n. refl;
      names = λ s. refl;
      alone = λ ts h. never_closes quoted_token (λ k. refl) ts;
      leaves_on = refl;
      square = refl;
      curly = refl;
    }) (quoted_token_of cs) (λ d m. not_from_false _ (or_parts _ _ (m.plain refl)).1)

-- ---- names without quotes

-- an item that is read as this name
named_as : (x : Item) (c : ℕ) (w : List ℕ) → c ∷ w ≡ item_text x → list_all is_ascii (c ∷ w) ≡ true → ((d : Bool) (n : ℕ) (s : Numbering) → (Name (word (c ∷ w)), n) ∷ [] ≡ item_counted n s d x) →
    ((n : ℕ) → n ≡ open_behind n x) → ((s : Numbering) → s ≡ item_names s x) → leaves x ≡ true → false ≡ is_close_square x → false ≡ is_close_curly x → Single x name_token (c ∷ w)
named_as x c w text ascii counted opens names leaves_on square curly =
    let bytes : encode_utf8_all (c ∷ w) ≡ c ∷ w = ascii_encodes (c ∷ w) ascii in
    record {
      bytes = bytes ∙ text;
      scalars = ascii_scalars (c ∷ w) ascii;
      small = ltb-true c 128 (and_parts (is_ascii c) (list_all is_ascii w) ascii).0;
      front = ap first text;
      no_end = refl;
      counted = λ d n s. rw bytes (counted d n s);
      opens = opens;
      names = names;
      alone = λ ts h. never_closes name_token (λ k. refl) ts;
      leaves_on = leaves_on;
      square = square;
      curly = curly;
    }

is_no_brackets : (p : List ℕ → Bool) (f : List ℕ) → p f ≡ true → p (codes "[]") ≡ false → p (codes "{}") ≡ false → is_brackets f ≡ false
is_no_brackets p f h nil curly = or_from _ _ (differ p f (codes "[]") h nil) (differ p f (codes "{}") h curly)

-- a name that stands for itself
named_bare : (c : ℕ) (w : List ℕ) → is_bare (c ∷ w) ≡ true → list_all is_ascii (c ∷ w) ≡ true → is_brackets (c ∷ w) ≡ false → Single (name_item (c ∷ w)) name_token (c ∷ w)
named_bare c w e ascii none = named_as (name_item (c ∷ w)) c w (rw e refl) ascii (λ d n s. rw none refl) (λ n. refl) (λ s. refl) refl refl refl

-- what may follow an item is told by its text
told : (x : Item) (f : List ℕ) (d : ℕ) → f ≡ item_text x → Next x d → is_spaced (last f) (piece_of Quoted x).is_prefix d ≡ false
told x f d text m = subst (λ t. is_spaced (last t) (piece_of Quoted x).is_prefix d ≡ false) (sym text) m.apart

words_ascii : (f : List ℕ) → list_all is_word f ≡ true → list_all is_ascii f ≡ true
words_ascii f e = all_too is_word is_ascii (λ c e. lt-ltb c 128 (word_below c e)) f e

symbols_ascii : (f : List ℕ) → list_all is_symbol f ≡ true → list_all is_ascii f ≡ true
symbols_ascii f e = all_too is_symbol is_ascii (λ c e. lt-ltb c 128 (symbol_below c e)) f e

word_spelt : (c : ℕ) (w : List ℕ) → is_bare (c ∷ w) ≡ true → is_word_atom (c ∷ w) ≡ true → Spelt (name_item (c ∷ w))
word_spelt c w e h =
    let p = and_parts (is_ascii_lowercase c) (list_all is_word (c ∷ w)) h in
    let none = is_no_brackets is_word_atom (c ∷ w) h refl refl in
    let text : c ∷ w ≡ item_text (name_item (c ∷ w)) = rw e refl in
    single (name_item (c ∷ w)) name_token (c ∷ w) ends_word (named_bare c w e (words_ascii (c ∷ w) p.1) none) (word_token c w p.0 (and_parts _ _ p.1).1)
    (λ d m. after_word (last (c ∷ w)) d false (told (name_item (c ∷ w)) (c ∷ w) d text m) (last_all is_word c w p.1) m.small)

-- ---- names of symbol characters

record Symbols (c : ℕ) (w : List ℕ) : Type 0 where
  all : list_all is_symbol (c ∷ w) ≡ true
  token : IsToken name_token (c ∷ w) ends_symbols

no_dot : (c : ℕ) (w : List ℕ) → bytes_eq (c ∷ w) (codes ".") ≡ false → (c == 46 && length w == 0) ≡ false
no_dot c [] e = e
no_dot c (d ∷ w) e = let some : (length (d ∷ w) == 0) ≡ false = grind (arith, nat_tests) in and_right (c == 46) _ some

symbols_of : (c : ℕ) (w : List ℕ) → is_symbol_atom (c ∷ w) ≡ true → Symbols c w
symbols_of c w h =
    let p = and_parts _ _ h in
    let q = and_parts _ _ p.0 in
    let r = and_parts _ _ q.0 in
    record { all = r.1; token = symbols_token c w r.1 (not-true _ p.1) (no_dot c w (not-true _ q.1)) }

-- an item of symbol characters that is read as their name
symbols_spelt : (x : Item) (c : ℕ) (w : List ℕ) → Symbols c w → c ∷ w ≡ item_text x → Single x name_token (c ∷ w) → Spelt x
symbols_spelt x c w h text s =
    single x name_token (c ∷ w) ends_symbols s h.token (λ d m. after_symbol (last (c ∷ w)) d (piece_of Quoted x).is_prefix (told x (c ∷ w) d text m) (last_all is_symbol c w h.all) m.small)

symbol_spelt : (c : ℕ) (w : List ℕ) → is_bare (c ∷ w) ≡ true → is_symbol_atom (c ∷ w) ≡ true → Spelt (name_item (c ∷ w))
unfolding is_symbol
symbol_spelt c w e h =
    let p = symbols_of c w h in
    let none = is_no_brackets is_symbol_atom (c ∷ w) h refl refl in
    symbols_spelt (name_item (c ∷ w)) c w p (rw e refl) (named_bare c w e (symbols_ascii (c ∷ w) p.all) none)

-- ---- `[]`, `{}`, `!` and `;`

nil_spelt : Spelt (name_item (codes "[]"))
unfolding is_bare is_symbol
nil_spelt = record {
  segments = written open_list_token (codes "[") ∷ written close_list_token (codes "]") ∷ [];
  small = omega arith;
  bytes = λ ss. encodes-append (codes "[]") (text_of ss) ∙ ap (λ bs. bs ++ encode_utf8_all (text_of ss)) (ascii_encodes (codes "[]") refl);
  scalars = λ ss u. u;
  front = λ ss. refl;
  reads = λ ss m r. (omega arith, front.open_square.reads (93 ∷ text_of ss) refl, (omega arith, front.close_square.reads (text_of ss) refl, r));
  no_end = λ ss u. u;
  hides = λ ss u. (λ s a. a, (λ s a. a, u));
  lexemes = λ d n s ss u. refl;
  square = λ d ss. refl;
  curly = λ d ss. refl;
}

curly_spelt : Spelt (name_item (codes "{}"))
unfolding is_bare is_symbol
curly_spelt = record {
  segments = written open_curly_token (codes "{") ∷ written close_curly_token (codes "}") ∷ [];
  small = omega arith;
  bytes = λ ss. encodes-append (codes "{}") (text_of ss) ∙ ap (λ bs. bs ++ encode_utf8_all (text_of ss)) (ascii_encodes (codes "{}") refl);
  scalars = λ ss u. u;
  front = λ ss. refl;
  reads = λ ss m r. (omega arith, front.open_curly.reads (125 ∷ text_of ss) refl, (omega arith, front.close_curly.reads (text_of ss) refl, r));
  no_end = λ ss u. u;
  hides = λ ss u. (λ s a. a, (λ s a. a, u));
  lexemes = λ d n s ss u. refl;
  square = λ d ss. refl;
  curly = λ d ss. refl;
}

cut_spelt : Spelt (name_item (codes "!"))
unfolding is_bare is_symbol
cut_spelt = single (name_item (codes "!")) name_token (codes "!") is_any (named_bare 33 [] refl refl refl) front.cut (λ d m. refl)

semicolon_spelt : Spelt (name_item (codes ";"))
unfolding is_bare is_symbol
semicolon_spelt = single (name_item (codes ";")) name_token (codes ";") is_any (named_bare 59 [] refl refl refl) front.semicolon (λ d m. refl)

at_text : (f g : List ℕ) → bytes_eq f g ≡ true → Spelt (name_item g) → Spelt (name_item f)
at_text f g e h = subst (λ t. Spelt (name_item t)) (sym (same_name f g e)) h

solo_spelt : (f : List ℕ) → is_solo_atom f ≡ true → Spelt (name_item f)
solo_spelt f h = elim (or_cases _ _ h) [
  | inr e ↦ at_text f (codes ";") e semicolon_spelt
  | inl h ↦ elim (or_cases _ _ h) [
    | inr e ↦ at_text f (codes "!") e cut_spelt
    | inl h ↦ elim (or_cases _ _ h) [
      | inr e ↦ at_text f (codes "{}") e curly_spelt
      | inl e ↦ at_text f (codes "[]") e nil_spelt
    ]
  ]
]

bare_spelt : (f : List ℕ) → is_bare f ≡ true → (is_word_atom f || is_symbol_atom f || is_solo_atom f) ≡ true → Spelt (name_item f)
unfolding is_symbol
bare_spelt [] e h = absurd (false≢true h)
bare_spelt (c ∷ w) e h = elim (or_cases _ _ h) [
  | inr h ↦ solo_spelt (c ∷ w) h
  | inl h ↦ elim (or_cases _ _ h) [
    | inl h ↦ word_spelt c w e h
    | inr h ↦ symbol_spelt c w e h
  ]
]

kinds : (f : List ℕ) → is_bare f ≡ true → (is_word_atom f || is_symbol_atom f || is_solo_atom f) ≡ true
unfolding is_bare
kinds f e = e

pub name_spelt : (f : List ℕ) → IsUtf8 f → Spelt (name_item f)
name_spelt f u = elim (cases_Bool (is_bare f)) [
  | inl e ↦ bare_spelt f e (kinds f e)
  | inr e ↦ quoted_spelt f u e
]

-- ---- operators of the standard's table

is_infix_name : List ℕ → Bool
is_infix_name f = (bytes_eq f (codes ",") || bytes_eq f (codes ";")) || (is_word_atom f || is_symbol_atom f)

-- what holds of each name of some rows holds of a name that has a row
pub holds_of : (p : List ℕ → Bool) (f : List ℕ) (rs : Rows) → list_all (λ r. p r.0) rs ≡ true → is_some (row f rs) ≡ true → p f ≡ true
holds_of p f [] e h = absurd (false≢true h)
holds_of p f (r ∷ rs) e h = by (bytes_eq r.0 f) refl h (holds_of p f rs (and_parts (p r.0) (list_all (λ r. p r.0) rs) e).1)
  where
    by : (b : Bool) → bytes_eq r.0 f ≡ b → is_some (cond b (Some r.1) (row f rs)) ≡ true → (is_some (row f rs) ≡ true → p f ≡ true) → p f ≡ true
    by true same h rest = subst (λ g. p g ≡ true) (same_name r.0 f same) (and_parts (p r.0) (list_all (λ r. p r.0) rs) e).0
    by false same h rest = rest h

all_prefix : list_all (λ r. is_symbol_atom r.0) iso_prefix ≡ true
unfolding iso_prefix is_symbol
all_prefix = refl

all_infix : list_all (λ r. is_infix_name r.0) iso_infix ≡ true
unfolding iso_infix is_infix_name is_symbol is_word
all_infix = refl

prefix_of : (f : List ℕ) → is_symbol_atom f ≡ true → Spelt (prefix_item f)
unfolding is_symbol
prefix_of [] h = absurd (false≢true h)
prefix_of (c ∷ w) h =
    let p = symbols_of c w h in
    symbols_spelt (prefix_item (c ∷ w)) c w p refl (named_as (prefix_item (c ∷ w)) c w refl (symbols_ascii (c ∷ w) p.all) (λ d n s. refl) (λ n. refl) (λ s. refl) refl refl refl)

pub prefix_spelt : (f : List ℕ) → is_some (row f iso_prefix) ≡ true → Spelt (prefix_item f)
prefix_spelt f h = prefix_of f (holds_of is_symbol_atom f iso_prefix all_prefix h)

comma_spelt : Spelt (infix_item (codes ","))
comma_spelt = single (infix_item (codes ",")) comma_token (codes ",") is_any (record {
  bytes = ascii_encodes (codes ",") refl;
  scalars = refl;
  small = omega arith;
  front = refl;
  no_end = refl;
  counted = λ d n s. refl;
  opens = λ n. refl;
  names = λ s. refl;
  alone = λ ts h. never_closes comma_token (λ k. refl) ts;
  leaves_on = refl;
  square = refl;
  curly = refl;
}) front.comma (λ d m. refl)

infix_semicolon : Spelt (infix_item (codes ";"))
infix_semicolon = single (infix_item (codes ";")) name_token (codes ";") is_any (named_as (infix_item (codes ";")) 59 [] refl refl (λ d n s. refl) (λ n. refl) (λ s. refl) refl refl refl) front.semicolon (λ d m. refl)

symbol_no_letter : (c : ℕ) → is_symbol c ≡ true → is_ascii_lowercase c ≡ false
unfolding is_symbol
symbol_no_letter c e = grind (arith, nat_tests, e)

infix_symbols : (c : ℕ) (w : List ℕ) → is_symbol_atom (c ∷ w) ≡ true → Spelt (infix_item (c ∷ w))
unfolding is_symbol
infix_symbols c w h =
    let p = symbols_of c w h in
    let letter : is_ascii_lowercase c ≡ false = symbol_no_letter c (and_parts _ _ p.all).0 in
    let no_comma : bytes_eq (c ∷ w) (codes ",") ≡ false = differ is_symbol_atom (c ∷ w) (codes ",") h refl in
    let text : c ∷ w ≡ item_text (infix_item (c ∷ w)) = rw letter refl in
    symbols_spelt (infix_item (c ∷ w)) c w p text (named_as (infix_item (c ∷ w)) c w text (symbols_ascii (c ∷ w) p.all) (λ d n s. rw no_comma refl) (λ n. refl) (λ s. refl) (rw letter refl) refl refl)

-- an operator of letters, with a space on each side
infix_word : (c : ℕ) (w : List ℕ) → is_word_atom (c ∷ w) ≡ true → Spelt (infix_item (c ∷ w))
unfolding spec.continues
infix_word c w h = record {
  segments = space ∷ written name_token f ∷ space ∷ [];
  small = subst (λ t. first t < 128) text (omega arith);
  bytes = λ ss. bytes ss;
  scalars = λ ss u. scalars_append f (32 ∷ text_of ss) (ascii_scalars f ascii) u;
  front = λ ss. ap first text;
  reads = λ ss m r. (omega arith, name.reads (32 ∷ text_of ss) refl, r);
  no_end = λ ss u. u;
  hides = λ ss u. (λ s a. a, u);
  lexemes = λ d n s ss u. read d n s ss (never_closes name_token (λ k. refl) (seen false ss));
  square = λ d ss. refl;
  curly = λ d ss. refl;
}
  where
    f : List ℕ
    f = c ∷ w

    p : (is_ascii_lowercase c ≡ true) × (list_all is_word f ≡ true)
    p = and_parts (is_ascii_lowercase c) (list_all is_word f) h

    name : IsToken name_token f ends_word
    name = word_token c w p.0 (and_parts (is_word c) (list_all is_word w) p.1).1

    ascii : list_all is_ascii f ≡ true
    ascii = words_ascii f p.1

    text : 32 ∷ (f ++ 32 ∷ []) ≡ item_text (infix_item f)
    text = rw (p.0) refl

    no_comma : bytes_eq f (codes ",") ≡ false
    no_comma = differ is_word_atom f (codes ",") h refl

    bytes : (ss : List Segment) → encode_utf8_all (32 ∷ (f ++ 32 ∷ text_of ss)) ≡ item_text (infix_item f) ++ encode_utf8_all (text_of ss)
    bytes ss =
        ascii_first 32 (f ++ 32 ∷ text_of ss) (omega arith)
        ∙ ap (λ bs. 32 ∷ bs) (encodes-append f (32 ∷ text_of ss) ∙ ap (λ bs. bs ++ encode_utf8_all (32 ∷ text_of ss)) (ascii_encodes f ascii) ∙ ap (λ bs. f ++ bs) (ascii_first 32 (text_of ss) (omega arith)) ∙ sym (append_assoc f (32 ∷ []) (encode_utf8_all (text_of ss))))
        ∙ ap (λ t. t ++ encode_utf8_all (text_of ss)) text

    read : (d : Bool) (n : ℕ) (s : Numbering) (ss : List Segment) → closes name_token (seen false ss) ≡ false →
        read_seen false n s (record { kind = name_token; value = spec.value name_token f; direct = false } ∷ seen false ss) ≡
        item_counted n s d (infix_item f) ++ read_seen false n s (seen (leaves (infix_item f)) ss)
    read d n s ss e = rw (e, no_comma, p.0, ascii_encodes f ascii) refl

infix_of : (f : List ℕ) → (is_word_atom f || is_symbol_atom f) ≡ true → Spelt (infix_item f)
unfolding is_symbol
infix_of [] h = absurd (false≢true h)
infix_of (c ∷ w) h = elim (or_cases _ _ h) [
  | inl h ↦ infix_word c w h
  | inr h ↦ infix_symbols c w h
]

at_infix : (f g : List ℕ) → bytes_eq f g ≡ true → Spelt (infix_item g) → Spelt (infix_item f)
at_infix f g e h = subst (λ t. Spelt (infix_item t)) (sym (same_name f g e)) h

infix_named : (f : List ℕ) → is_infix_name f ≡ true → Spelt (infix_item f)
unfolding is_infix_name
infix_named f h = elim (or_cases _ _ h) [
  | inr h ↦ infix_of f h
  | inl h ↦ elim (or_cases _ _ h) [
    | inl e ↦ at_infix f (codes ",") e comma_spelt
    | inr e ↦ at_infix f (codes ";") e infix_semicolon
  ]
]

pub infix_spelt : (f : List ℕ) → is_some (row f iso_infix) ≡ true → Spelt (infix_item f)
infix_spelt f h = infix_named f (holds_of is_infix_name f iso_infix all_infix h)
