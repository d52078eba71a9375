-- How clap's walk over the words of a plain command goes with `reads`.
use Rattle.std.proofs.Common.{◌≡◌, ◌∙◌, ◌≤◌, ◌<◌, ◌+◌, ◌&&◌, ◌||◌, ℕ, Bool, true, false, cond, suc, List, [], ◌∷◌, ◌++◌, length, Some, None, refl, ap, sym, arith, true≢false, append-nil}
use Rattle.std.specs.List.{list_all, fold}
use Rattle.std.specs.Option.{option_map_or}
use Rattle.std.specs.Str.{bytes_eq}
use Rattle.clap.specs.Walk.{more_values, Rule, Row, used, at_row, has_row, arg_by_id, arg_by_index, arg_by_long, arg_by_short, with_default}
use Rattle.clap.specs.Simple.{Shape, new_rule, new_shape}
use Rattle.clap.specs.declared.builder.action.ArgAction.TheVariants.{Set}
use Rattle.clap.specs.declared.builder.value_parser.ValueParser.TheVariants as vp
use Rattle.clap.specs.declared.builder.value_parser.Reading.TheVariants as reading
use Rattle.clap.specs.declared.parser.matches.ValueSource.TheVariants.{CommandLine}
use Rattle.cmdline.specs.Words.{Text, Syntax, Given, is_option, has_option, words_of}

-- the rules of an option and of a word, as a built command has them
abbrev pub option_rule : Text → Rule
option_rule n = record (new_rule n) {
  long = Some n;
  action = Some Set;
  range = Some (record { start_inclusive = 1; end_inclusive = 1 });
  parser = Some vp.String;
}

abbrev pub place_rule : Text → ℕ → Rule
place_rule id i = record (new_rule id) {
  index = Some i;
  action = Some Set;
  range = Some (record { start_inclusive = 1; end_inclusive = 1 });
  parser = Some vp.String;
}

abbrev pub leaf : Text → List Rule → Shape
leaf name rs = record (new_shape name) {
  rules = rs;
  no_binary_name = true;
  disable_help_flag = true;
  disable_help_subcommand = true;
  is_built = true;
}

-- the rules are those of the syntax, and p names the places
pub record Serves (rs : List Rule) (s : Syntax) (p : ℕ → Text) : Type 0 where
  pub long : (n : Text) → is_option s n ≡ true → arg_by_long rs n ≡ Some (option_rule n)
  pub no_long : (n : Text) → is_option s n ≡ false → arg_by_long rs n ≡ None
  pub short : (x : ℕ) → arg_by_short rs x ≡ None
  pub index : (i : ℕ) → i < length s.operands → arg_by_index rs (suc i) ≡ Some (place_rule (p i) (suc i))
  pub no_index : (i : ℕ) → length s.operands ≤ i → arg_by_index rs (suc i) ≡ None
  pub by_option : (n : Text) → is_option s n ≡ true → arg_by_id rs n ≡ Some (option_rule n)
  pub by_place : (i : ℕ) → i < length s.operands → arg_by_id rs (p i) ≡ Some (place_rule (p i) (suc i))
  pub apart : (i j : ℕ) → i < j → j < length s.operands → bytes_eq (p i) (p j) ≡ false
  pub other : (n : Text) (i : ℕ) → is_option s n ≡ true → (bytes_eq n (p i) ≡ false) × (bytes_eq (p i) n ≡ false)
  pub few : length s.operands ≤ 1000
  pub no_defaults : (rows : List Row) → fold with_default rows rs ≡ rows

abbrev pub row : Text → Text → Row
row id v = record {
  id = id;
  values = v ∷ [];
  count = None;
  source = Some CommandLine;
  reading = reading.AsWritten;
}

-- the rows of what was given, from the place i on
abbrev pub row_of : (ℕ → Text) → ℕ → Given → Row
row_of p i (None, v) = row (p i) v
row_of p i (Some n, v) = row n v

abbrev pub next_place : ℕ → Given → ℕ
next_place i (None, v) = suc i
next_place i (Some n, v) = i

abbrev pub rows_from : (ℕ → Text) → ℕ → List Given → List Row
rows_from p i [] = []
rows_from p i (g ∷ gs) = row_of p i g ∷ rows_from p (next_place i g) gs

place_after : ℕ → List Given → ℕ
place_after i [] = i
place_after i (g ∷ gs) = place_after (next_place i g) gs

place_after-words : (i : ℕ) (gs : List Given) → place_after i gs ≡ i + length (words_of gs)
unfolding place_after
place_after-words i [] = omega arith
place_after-words i ((None, v) ∷ gs) = place_after-words (suc i) gs ∙ omega arith
place_after-words i ((Some n, v) ∷ gs) = place_after-words i gs

rows_added_at : (p : ℕ → Text) (i : ℕ) (gs : List Given) (g : Given)
    → rows_from p i (gs ++ g ∷ []) ≡ rows_from p i gs ++ row_of p (place_after i gs) g ∷ []
unfolding place_after
rows_added_at p i [] g = refl
rows_added_at p i (h ∷ gs) g = ap (λ rs. row_of p i h ∷ rs) (rows_added_at p (next_place i h) gs g)

pub rows_added : (p : ℕ → Text) (gs : List Given) (g : Given)
    → rows_from p 0 (gs ++ g ∷ []) ≡ rows_from p 0 gs ++ row_of p (length (words_of gs)) g ∷ []
rows_added p gs g =
    let at : place_after 0 gs ≡ length (words_of gs) = place_after-words 0 gs ∙ omega arith in
    rows_added_at p 0 gs g ∙ ap (λ k. rows_from p 0 gs ++ row_of p k g ∷ []) at

pub words_added : (gs : List Given) (w : Text) → length (words_of (gs ++ (None, w) ∷ [])) ≡ suc (length (words_of gs))
words_added [] w = refl
words_added ((None, v) ∷ gs) w = ap suc (words_added gs w)
words_added ((Some n, v) ∷ gs) w = words_added gs w

pub words_kept : (gs : List Given) (n w : Text) → length (words_of (gs ++ (Some n, w) ∷ [])) ≡ length (words_of gs)
words_kept [] n w = refl
words_kept ((None, v) ∷ gs) n w = ap suc (words_kept gs n w)
words_kept ((Some m, v) ∷ gs) n w = words_kept gs n w

-- each name is an option's
abbrev pub is_known : Syntax → Given → Bool
is_known s g = option_map_or (λ n. is_option s n) g.0 true

abbrev pub all_known : Syntax → List Given → Bool
all_known s gs = list_all (is_known s) gs

pub both : (a b : Bool) → (a && b) ≡ true → (a ≡ true) × (b ≡ true)
both true b e = (refl, e)
both false b e = absurd (true≢false (sym e))

pub both_true : (a b : Bool) → a ≡ true → b ≡ true → (a && b) ≡ true
both_true true b e f = f
both_true false b e f = absurd (true≢false (sym e))

pub known_added : (s : Syntax) (gs : List Given) (g : Given) → all_known s gs ≡ true → is_known s g ≡ true → all_known s (gs ++ g ∷ []) ≡ true
known_added s [] g e k = both_true _ _ k refl
known_added s (h ∷ gs) g e k = both_true _ _ (both _ _ e).0 (known_added s gs g (both _ _ e).1 k)

-- a row for each name
pub has_option_row : (rs : List Rule) (s : Syntax) (p : ℕ → Text) → Serves rs s p → (i : ℕ) (gs : List Given) (n : Text) → is_option s n ≡ true
    → has_row n (rows_from p i gs) ≡ has_option n gs
has_option_row rs s p ok i [] n k = refl
has_option_row rs s p ok i ((None, v) ∷ gs) n k = rw (ok.other n i k).1 (has_option_row rs s p ok (suc i) gs n k)
has_option_row rs s p ok i ((Some m, v) ∷ gs) n k = ap (λ b. bytes_eq m n || b) (has_option_row rs s p ok i gs n k)

pub no_place_row : (rs : List Rule) (s : Syntax) (p : ℕ → Text) → Serves rs s p → (i : ℕ) (gs : List Given) (k : ℕ) → all_known s gs ≡ true
    → i + length (words_of gs) ≤ k → k < length s.operands → has_row (p k) (rows_from p i gs) ≡ false
no_place_row rs s p ok i [] k known le lt = refl
no_place_row rs s p ok i ((None, v) ∷ gs) k known le lt =
    let miss : bytes_eq (p i) (p k) ≡ false = ok.apart i k (omega arith) lt in
    rw miss (no_place_row rs s p ok (suc i) gs k known (omega arith) lt)
no_place_row rs s p ok i ((Some n, v) ∷ gs) k known le lt =
    rw (ok.other n k (both _ _ known).0).0 (no_place_row rs s p ok i gs k (both _ _ known).1 le lt)

-- ---- rows

pub at_none : (id : Text) (change : Row → List Row) (missing : List Row) (rows : List Row) → has_row id rows ≡ false
    → at_row id change missing rows ≡ rows ++ missing
at_none id change missing [] e = refl
at_none id change missing (r ∷ rows) e = go (bytes_eq r.id id) e (at_none id change missing rows)
  where
    go : (b : Bool) → (b || has_row id rows) ≡ false → (has_row id rows ≡ false → at_row id change missing rows ≡ rows ++ missing)
        → cond b (change r ++ rows) (r ∷ at_row id change missing rows) ≡ r ∷ rows ++ missing
    go true e ih = absurd (true≢false e)
    go false e ih = ap (λ rs. r ∷ rs) (ih e)

pub used_option : (n v : Text) (rows : List Row) → has_row n rows ≡ false → used (option_rule n) (v ∷ []) rows ≡ rows ++ row n v ∷ []
used_option n v rows e =
    let gone : at_row n (λ _. []) [] rows ≡ rows = at_none n (λ _. []) [] rows e ∙ append-nil rows in
    rw gone (at_none n (more_values CommandLine (v ∷ [])) (row n v ∷ []) rows e)

pub used_place : (id v : Text) (i : ℕ) (rows : List Row) → has_row id rows ≡ false → used (place_rule id i) (v ∷ []) rows ≡ rows ++ row id v ∷ []
used_place id v i rows e =
    let gone : at_row id (λ _. []) [] rows ≡ rows = at_none id (λ _. []) [] rows e ∙ append-nil rows in
    rw gone (at_none id (more_values CommandLine (v ∷ [])) (row id v ∷ []) rows e)
