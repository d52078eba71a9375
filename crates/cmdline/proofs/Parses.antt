-- From the walk to what a parse of the command answers.
use Rattle.std.proofs.Common.{◌≡◌, ◌∙◌, ◌&&◌, ◌||◌, ℕ, Bool, true, false, not, cond, List, [], ◌∷◌, ◌++◌, map, length, Option, Some, None, refl, ap, sym, inl, inr, arith, true≢false, String, string_bytes, is_some}
use Rattle.std.specs.Prelude.{nat_lt, slice_get, encode_utf8}
use Rattle.std.specs.List.{fold, list_any}
use Rattle.std.specs.Str.{bytes_eq, chars, IsUtf8}
use Rattle.std.specs.Prelude.{⊤}
use Rattle.std.proofs.lemmas.Str.{IsUtf8-string_bytes, IsUtf8-past_char, encode_ascii, encodes-chars}
use Rattle.std.proofs.lemmas.Slice.Eq.{bytes_eq-Decides}
use Rattle.clap.specs.Walk.{walk, Rule, Row, Walk, idle, settled, nothing_held, has_row, finished, with_default, rows_after}
use Rattle.clap.specs.Kinds.{Kinds, or_else}
use Rattle.clap.specs.Lexer.{long_of}
use Rattle.clap.specs.Faults.{entered_fault, walk_fault, settle_fault, level_fault, defaults_fault, check_fault, built_fault, fault_of}
use Rattle.clap.specs.Simple.{App, built, entered, matches_of, names_of, argument_words}
use Rattle.clap.specs.Takes.{is_given}
use Rattle.cmdline.specs.Words.{Text, Syntax, Given, any, value_of, is_option, has_option, words_of, begins_with_hyphen, reads, has_no_lone_hyphen, given_by}
use Rattle.cmdline.proofs.Rows.{Serves, leaf, rows_from}
use Rattle.cmdline.proofs.Steps.{View, is_dashes, is_plain, is_long, is_short, view, dashes, held, here}
use Rattle.cmdline.proofs.Walks.{IsWord, AreWords, no_words, word_and, Ends, total, end_of, read_all}

-- ---- words are text

some_char : (y : ℕ) (r : Text) → IsUtf8 (y ∷ r) → (x : ℕ) × (slice_get (chars (y ∷ r)) 0 ≡ Some x)
some_char y r h = go (chars (y ∷ r)) refl (encodes-chars (y ∷ r) h)
  where
    go : (cs : List ℕ) → chars (y ∷ r) ≡ cs → Rattle.std.specs.Str.encode_utf8_all (chars (y ∷ r)) ≡ y ∷ r → (x : ℕ) × (slice_get (chars (y ∷ r)) 0 ≡ Some x)
    go [] e f =
        let bad : [] ≡ y ∷ r = rw e at f in
        cc
    go (x ∷ cs) e f = (x, rw e refl)

word_ok : (w : Text) → IsUtf8 w → IsWord w
word_ok w h y r e =
    let parts : w ≡ encode_utf8 45 ++ (y ∷ r) = e ∙ ap (λ (b : List ℕ). b ++ (y ∷ r)) (sym (encode_ascii 45 (omega arith))) in
    some_char y r (IsUtf8-past_char w (y ∷ r) 45 h parts)

pub words_ok : {Z : Type 0} (ws : List (String Z)) → AreWords (map string_bytes ws)
words_ok [] = no_words
words_ok (w ∷ ws) = word_and (word_ok (string_bytes w) (IsUtf8-string_bytes w)) (words_ok ws)

-- ---- rules without defaults

abbrev pub Quiet : List Rule → Type 0
Quiet [] = ⊤
Quiet (a ∷ rs) = (a.defaults ≡ []) × (a.required ≡ false) × Quiet rs

either : {X : Type 0} (b : Bool) (x : X) → cond b x x ≡ x
either true x = refl
either false x = refl

or_true : (b : Bool) → (b || true) ≡ true
or_true true = refl
or_true false = refl

pub quiet_rows : (rs : List Rule) → Quiet rs → (rows : List Row) → fold with_default rows rs ≡ rows
quiet_rows [] q rows = refl
quiet_rows (a ∷ rs) q rows =
    let same : with_default rows a ≡ rows = rw q.0 (either (has_row a.id rows) rows) in
    rw same (quiet_rows rs q.2 rows)

quiet_faults : (rs : List Rule) → Quiet rs → (rows : List Row) → defaults_fault rows rs ≡ []
unfolding defaults_fault
quiet_faults [] q rows = refl
quiet_faults (a ∷ rs) q rows =
    rw (q.0, or_true (has_row a.id rows), either (has_row a.id rows) rows) (quiet_faults rs q.2 rows)

quiet_checks : (rs : List Rule) → Quiet rs → (rows : List Row) → list_any (λ a. a.required && not (is_given a.id rows)) rs ≡ false
quiet_checks [] q rows = refl
quiet_checks (a ∷ rs) q rows = rw q.1 (quiet_checks rs q.2 rows)

empty_parts : (a b : Kinds) → or_else a b ≡ [] → (a ≡ []) × (b ≡ [])
empty_parts [] b e = (refl, e)
empty_parts (k ∷ ks) b e = cc

-- ---- a level of the parse

-- a built command without subcommands
abbrev pub only : Text → List Rule → App
only name rs = record { top = leaf name rs; subs = [] }

no_subcommand : (name : Text) (rs : List Rule) (o : Option (Text × List Text)) → is_some (entered (only name rs) o) ≡ false
no_subcommand name rs None = refl
no_subcommand name rs (Some x) = refl

no_subfault : (name : Text) (rs : List Rule) (o : Option (Text × List Text)) → entered_fault (only name rs) o ≡ []
no_subfault name rs None = refl
no_subfault name rs (Some x) = refl

module _ (rs : List Rule) (s : Syntax) (p : ℕ → Text) (name : Text) (ok : Serves rs s p) (quiet : Quiet rs) (a : App) (whole : built a ≡ only name rs) (direct : a.top.no_binary_name ≡ true) where
  abbrev fault : List Text → Kinds → Kinds
  fault ws below = level_fault (leaf name rs) [] nothing_held ws false below

  no_checks : (rows : List Row) → check_fault (leaf name rs) rows false ≡ []
  no_checks rows = rw (quiet_checks rs quiet rows) refl

  abbrev last : List Text → Walk
  last ws = end_of rs s p name ok (here (held [] None) false idle 0) ws

  abbrev walk_part : List Text → Kinds
  walk_part ws = walk_fault (leaf name rs) [] (here (held [] None) false idle 0) ws

  abbrev owed_part : List Text → Kinds
  owed_part ws = settle_fault rs false (last ws).held

  abbrev rest_part : List Text → Kinds
  rest_part ws = or_else (defaults_fault (settled rs (last ws).held).rows rs) (check_fault (leaf name rs) (finished rs (last ws).held) false)

  no_rest : (ws : List Text) → rest_part ws ≡ []
  no_rest ws = rw (quiet_faults rs quiet (settled rs (last ws).held).rows) (no_checks (finished rs (last ws).held))

  sound_level : (ws : List Text) (gs : List Given) → Ends rs s p name ok (here (held [] None) false idle 0) ws gs → fault ws [] ≡ []
  sound_level ws gs h =
      let parts = empty_parts (walk_part ws) (owed_part ws) h.sound in
      let first : walk_part ws ≡ [] = parts.0 in
      let second : owed_part ws ≡ [] = parts.1 in
      let all : or_else (walk_part ws) (or_else [] (or_else (owed_part ws) (rest_part ws))) ≡ [] = rw (first, second) (no_rest ws) in
      all

  bad_level : (ws : List Text) (below : Kinds) → (total rs s p name ok (here (held [] None) false idle 0) ws ≡ [] → ⊥) → fault ws below ≡ [] → ⊥
  bad_level ws below bad e =
      let one = empty_parts (walk_part ws) (or_else below (or_else (owed_part ws) (rest_part ws))) e in
      let two = empty_parts below (or_else (owed_part ws) (rest_part ws)) one.1 in
      let three = empty_parts (owed_part ws) (rest_part ws) two.1 in
      let none : or_else (walk_part ws) (owed_part ws) ≡ [] = rw (one.0) three.0 in
      bad none

  words_are : (ws : List Text) → argument_words a ws ≡ ws
  words_are ws = rw direct refl

  abbrev stop : List Text → Option (Text × List Text)
  stop ws = (walk rs [] nothing_held ws).stopped

  faults : (ws : List Text) → fault_of a ws ≡ fault ws []
  faults ws =
      ap (λ (b : App). built_fault b nothing_held (argument_words a ws)) whole
      ∙ ap (λ (us : List Text). built_fault (only name rs) nothing_held us) (words_are ws)
      ∙ ap (λ (b : Bool). level_fault (leaf name rs) [] nothing_held ws b (entered_fault (only name rs) (stop ws))) (no_subcommand name rs (stop ws))
      ∙ ap (λ (k : Kinds). fault ws k) (no_subfault name rs (stop ws))

  found_rows : (ws : List Text) → matches_of a ws ≡ finished rs (last ws).held
  found_rows ws =
      ap (λ (b : App). rows_after b.top.rules (names_of b) (argument_words a ws)) whole
      ∙ ap (λ (us : List Text). rows_after rs [] us) (words_are ws)

  pub good : (ws : List Text) (gs : List Given) → AreWords ws → has_no_lone_hyphen ws ≡ true → given_by s ws ≡ Some gs
      → (fault_of a ws ≡ []) × (matches_of a ws ≡ rows_from p 0 gs)
  good ws gs words lone e =
      let h = rw e at (read_all rs s p name ok ws words lone) in
      let ends : Ends rs s p name ok (here (held [] None) false idle 0) ws gs = h in
      (faults ws ∙ sound_level ws gs ends, found_rows ws ∙ quiet_rows rs quiet (settled rs (last ws).held).rows ∙ ends.rows_are)

  pub bad : (ws : List Text) → AreWords ws → has_no_lone_hyphen ws ≡ true → given_by s ws ≡ None → fault_of a ws ≡ [] → ⊥
  bad ws words lone e none =
      let h = rw e at (read_all rs s p name ok ws words lone) in
      let fails : total rs s p name ok (here (held [] None) false idle 0) ws ≡ [] → ⊥ = h in
      bad_level ws [] fails (sym (faults ws) ∙ none)

-- ---- a lone hyphen is refused

lone_tail : (v : Text) (ws : List Text) → bytes_eq v dashes ≡ false → (bytes_eq v (45 ∷ []) ≡ true → ⊥) → has_no_lone_hyphen (v ∷ ws) ≡ false → has_no_lone_hyphen ws ≡ false
lone_tail v ws nd other e = go (bytes_eq v (45 ∷ [])) refl (rw nd at e)
  where
    go : (b : Bool) → bytes_eq v (45 ∷ []) ≡ b → cond b false (has_no_lone_hyphen ws) ≡ false → has_no_lone_hyphen ws ≡ false
    go true is f = absurd (other is)
    go false is f = f

abbrev RefusesAll : Syntax → List Text → Type 0
RefusesAll s ws = ((gs : List Given) → reads s any gs ws ≡ None) × ((gs : List Given) (n : Text) → reads s (value_of n) gs ws ≡ None)

lone_both : (s : Syntax) (ws : List Text) → has_no_lone_hyphen ws ≡ false → RefusesAll s ws
lone_both s [] e = absurd (true≢false e)
lone_both s (v ∷ ws) e = by_view (view v) (lone_both s ws)
  where
    hyphen_of : bytes_eq v (45 ∷ []) ≡ true → v ≡ 45 ∷ []
    hyphen_of l = (bytes_eq-Decides v (45 ∷ [])).0 l

    by_view : View v → (has_no_lone_hyphen ws ≡ false → RefusesAll s ws) → RefusesAll s (v ∷ ws)
    by_view (is_dashes d) ih = absurd (true≢false (rw d at e))
    by_view (is_plain nd lo so (inl b)) ih =
        let other : bytes_eq v (45 ∷ []) ≡ true → ⊥ = λ l. absurd (true≢false (sym (ap begins_with_hyphen (hyphen_of l)) ∙ b)) in
        let rest = ih (lone_tail v ws nd other e) in
        (λ gs. rw (nd, b, rest.0 (gs ++ (None, v) ∷ [])) (either (nat_lt (length (words_of gs)) (length s.operands)) None), λ gs n. rw b (rest.0 (gs ++ (Some n, v) ∷ [])))
    by_view (is_plain nd lo so (inr l)) ih =
        let hyphen : begins_with_hyphen v ≡ true = ap begins_with_hyphen (hyphen_of l) in
        (λ gs. rw (nd, hyphen, lo) refl, λ gs n. rw hyphen refl)
    by_view (is_long nd hyphen n (Some t) lo) ih =
        let other : bytes_eq v (45 ∷ []) ≡ true → ⊥ = λ l. let none : ◌≡◌ {A = Option (Text × Option Text)} (Some (n, Some t)) None = sym lo ∙ ap long_of (hyphen_of l) in cc in
        let rest = ih (lone_tail v ws nd other e) in
        (λ gs. rw (nd, hyphen, lo, rest.0 (gs ++ (Some n, t) ∷ [])) (either (is_option s n && not (has_option n gs)) None), λ gs m. rw hyphen refl)
    by_view (is_long nd hyphen n None lo) ih =
        let other : bytes_eq v (45 ∷ []) ≡ true → ⊥ = λ l. let none : ◌≡◌ {A = Option (Text × Option Text)} (Some (n, None)) None = sym lo ∙ ap long_of (hyphen_of l) in cc in
        let rest = ih (lone_tail v ws nd other e) in
        (λ gs. rw (nd, hyphen, lo, rest.1 gs n) (either (is_option s n && not (has_option n gs)) None), λ gs m. rw hyphen refl)
    by_view (is_short nd hyphen lo y r so same) ih = (λ gs. rw (nd, hyphen, lo) refl, λ gs n. rw hyphen refl)

pub lone_refused : (s : Syntax) (ws : List Text) → has_no_lone_hyphen ws ≡ false → given_by s ws ≡ None
lone_refused s ws e = (lone_both s ws e).0 []
