-- The rules of any command with some words and some options serve its syntax.
use Rattle.std.proofs.Common.{◌≡◌, ◌∙◌, ◌≤◌, ◌<◌, ◌+◌, ◌&&◌, ◌||◌, ◌==◌, ℕ, Bool, true, false, not, cond, zero, suc, List, [], ◌∷◌, ◌++◌, map, length, min, Option, Some, None, refl, ap, sym, subst, arith, true≢false, codes}
use Rattle.std.specs.Prelude.{nat_lt, slice_get, find, option_and_then}
use Rattle.std.specs.List.{list_all}
use Rattle.std.specs.Str.{bytes_eq}
use Rattle.std.proofs.lemmas.Bool.Decides.{nat_tests}
use Rattle.std.proofs.lemmas.Slice.Eq.{bytes_eq-Decides}
use Rattle.clap.specs.Walk.{Rule, Row, arg_by_id, arg_by_index, arg_by_long, arg_by_short, first_of}
use Rattle.clap.specs.Simple.{built, filled_from, new_rule, matches_of}
use Rattle.clap.specs.Faults.{fault_of}
use Rattle.cmdline.specs.Words.{Text, Syntax, Given, is_option, given_by, given_for, has_no_lone_hyphen}
use Rattle.cmdline.specs.Parsers.{option_named, app_for}
use Rattle.cmdline.proofs.Rows.{Serves, option_rule, place_rule, row, rows_from, both}
use Rattle.cmdline.proofs.Steps.{same_bytes}
use Rattle.cmdline.proofs.Parses.{Quiet, quiet_rows, only, good, bad}
use Rattle.cmdline.proofs.Walks.{AreWords}

abbrev pub place_rules : ℕ → List Text → List Rule
place_rules i [] = []
place_rules i (id ∷ ids) = place_rule id (suc i) ∷ place_rules (suc i) ids

abbrev pub plain_rules : List Text → List Text → List Rule
plain_rules ids names = place_rules 0 ids ++ map option_rule names

abbrev pub syntax_of : List Text → List Text → Syntax
syntax_of ids names = record { options = names; operands = ids }

-- the id of a place; past the last it is empty
abbrev pub place_at : List Text → ℕ → Text
place_at [] i = []
place_at (id ∷ ids) zero = id
place_at (id ∷ ids) (suc i) = place_at ids i

abbrev pub are_distinct : List Text → Bool
are_distinct [] = true
are_distinct (id ∷ ids) = list_all (λ d. not (bytes_eq id d)) ids && are_distinct ids

abbrev pub is_apart : List Text → Text → Bool
is_apart ids n = nat_lt 0 (length n) && list_all (λ id. not (bytes_eq n id) && not (bytes_eq id n)) ids

abbrev pub are_apart : List Text → List Text → Bool
are_apart ids names = list_all (is_apart ids) names

not_true : (b : Bool) → not b ≡ true → b ≡ false
not_true true e = absurd (true≢false (sym e))
not_true false e = refl

same_text_of : (m n : Text) → bytes_eq m n ≡ true → m ≡ n
same_text_of m n e = (bytes_eq-Decides m n).0 e

-- ---- options

long_skip : (i : ℕ) (ids : List Text) (os : List Rule) (n : Text) → arg_by_long (place_rules i ids ++ os) n ≡ arg_by_long os n
long_skip i [] os n = refl
long_skip i (id ∷ ids) os n = long_skip (suc i) ids os n

long_found : (ids names : List Text) (n : Text) → is_option (syntax_of ids names) n ≡ true → arg_by_long (map option_rule names) n ≡ Some (option_rule n)
long_found ids [] n e = absurd (true≢false (sym e))
long_found ids (m ∷ names) n e = go (bytes_eq m n) refl e (long_found ids names n)
  where
    go : (b : Bool) → bytes_eq m n ≡ b → (b || is_option (syntax_of ids names) n) ≡ true
        → (is_option (syntax_of ids names) n ≡ true → arg_by_long (map option_rule names) n ≡ Some (option_rule n))
        → cond (b || false) (Some (option_rule m)) (arg_by_long (map option_rule names) n) ≡ Some (option_rule n)
    go true is f ih = ap (λ (t : Text). Some (option_rule t)) (same_text_of m n is)
    go false is f ih = ih f

long_none : (ids names : List Text) (n : Text) → is_option (syntax_of ids names) n ≡ false → arg_by_long (map option_rule names) n ≡ None
long_none ids [] n e = refl
long_none ids (m ∷ names) n e = go (bytes_eq m n) e (long_none ids names n)
  where
    go : (b : Bool) → (b || is_option (syntax_of ids names) n) ≡ false → (is_option (syntax_of ids names) n ≡ false → arg_by_long (map option_rule names) n ≡ None)
        → cond (b || false) (Some (option_rule m)) (arg_by_long (map option_rule names) n) ≡ None
    go true f ih = absurd (true≢false f)
    go false f ih = ih f

short_skip : (i : ℕ) (ids names : List Text) (x : ℕ) → arg_by_short (place_rules i ids ++ map option_rule names) x ≡ None
short_skip i [] [] x = refl
short_skip i [] (m ∷ names) x = short_skip i [] names x
short_skip i (id ∷ ids) names x = short_skip (suc i) ids names x

-- what apartness says
apart_of : (ids names : List Text) (n : Text) → are_apart ids names ≡ true → is_option (syntax_of ids names) n ≡ true → is_apart ids n ≡ true
apart_of ids [] n a e = absurd (true≢false (sym e))
apart_of ids (m ∷ names) n a e = go (bytes_eq m n) refl e (apart_of ids names n (both _ _ a).1)
  where
    go : (b : Bool) → bytes_eq m n ≡ b → (b || is_option (syntax_of ids names) n) ≡ true → (is_option (syntax_of ids names) n ≡ true → is_apart ids n ≡ true) → is_apart ids n ≡ true
    go true is f ih = subst (λ (t : Text). is_apart ids t ≡ true) (same_text_of m n is) (both _ _ a).0
    go false is f ih = ih f

other_at : (ids : List Text) (n : Text) (i : ℕ) → 0 < length n → list_all (λ id. not (bytes_eq n id) && not (bytes_eq id n)) ids ≡ true
    → (bytes_eq n (place_at ids i) ≡ false) × (bytes_eq (place_at ids i) n ≡ false)
other_at [] [] i some a = absurd (omega arith)
other_at [] (x ∷ n) i some a = (refl, refl)
other_at (id ∷ ids) n zero some a =
    let here = both _ _ (both _ _ a).0 in
    (not_true _ here.0, not_true _ here.1)
other_at (id ∷ ids) n (suc i) some a = other_at ids n i some (both _ _ a).1

other_of : (ids names : List Text) (n : Text) (i : ℕ) → are_apart ids names ≡ true → is_option (syntax_of ids names) n ≡ true
    → (bytes_eq n (place_at ids i) ≡ false) × (bytes_eq (place_at ids i) n ≡ false)
other_of ids names n i a e =
    let h = both _ _ (apart_of ids names n a e) in
    let some : nat_lt 0 (length n) ≡ true = h.0 in
    other_at ids n i (grind (arith, nat_tests)) h.1

id_skip : (i : ℕ) (ids : List Text) (os : List Rule) (n : Text) → list_all (λ id. not (bytes_eq n id) && not (bytes_eq id n)) ids ≡ true
    → arg_by_id (place_rules i ids ++ os) n ≡ arg_by_id os n
id_skip i [] os n a = refl
id_skip i (id ∷ ids) os n a =
    let miss : bytes_eq id n ≡ false = not_true _ (both _ _ (both _ _ a).0).1 in
    rw miss (id_skip (suc i) ids os n (both _ _ a).1)

id_found : (ids names : List Text) (n : Text) → is_option (syntax_of ids names) n ≡ true → arg_by_id (map option_rule names) n ≡ Some (option_rule n)
id_found ids [] n e = absurd (true≢false (sym e))
id_found ids (m ∷ names) n e = go (bytes_eq m n) refl e (id_found ids names n)
  where
    go : (b : Bool) → bytes_eq m n ≡ b → (b || is_option (syntax_of ids names) n) ≡ true
        → (is_option (syntax_of ids names) n ≡ true → arg_by_id (map option_rule names) n ≡ Some (option_rule n))
        → cond b (Some (option_rule m)) (arg_by_id (map option_rule names) n) ≡ Some (option_rule n)
    go true is f ih = ap (λ (t : Text). Some (option_rule t)) (same_text_of m n is)
    go false is f ih = ih f

-- ---- places

index_found : (j : ℕ) (ids : List Text) (os : List Rule) (i k : ℕ) → i < length ids → k ≡ j + i
    → arg_by_index (place_rules j ids ++ os) (suc k) ≡ Some (place_rule (place_at ids i) (suc k))
index_found j [] os i k lt e = absurd (omega arith)
index_found j (id ∷ ids) os zero k lt e =
    let z : k ≡ j = omega arith in
    let hit : (suc j == suc j) ≡ true = grind (arith, nat_tests) in
    rw (z, hit) refl
index_found j (id ∷ ids) os (suc i) k lt e =
    let miss : (suc j == suc k) ≡ false = grind (arith, nat_tests) in
    rw miss (index_found (suc j) ids os i k (omega arith) (omega arith))

index_none : (j : ℕ) (ids names : List Text) (k : ℕ) → j + length ids ≤ k → arg_by_index (place_rules j ids ++ map option_rule names) (suc k) ≡ None
index_none j [] [] k le = refl
index_none j [] (m ∷ names) k le = index_none j [] names k le
index_none j (id ∷ ids) names k le =
    let miss : (suc j == suc k) ≡ false = grind (arith, nat_tests) in
    rw miss (index_none (suc j) ids names k (omega arith))

unlike : (id : Text) (ids : List Text) (i : ℕ) → list_all (λ d. not (bytes_eq id d)) ids ≡ true → i < length ids → bytes_eq id (place_at ids i) ≡ false
unlike id [] i a lt = absurd (omega arith)
unlike id (d ∷ ids) zero a lt = not_true _ (both _ _ a).0
unlike id (d ∷ ids) (suc i) a lt = unlike id ids i (both _ _ a).1 (omega arith)

place_found : (j : ℕ) (ids : List Text) (os : List Rule) (i k : ℕ) → are_distinct ids ≡ true → i < length ids → k ≡ j + i
    → arg_by_id (place_rules j ids ++ os) (place_at ids i) ≡ Some (place_rule (place_at ids i) (suc k))
place_found j [] os i k d lt e = absurd (omega arith)
place_found j (id ∷ ids) os zero k d lt e =
    let z : k ≡ j = omega arith in
    rw (same_bytes id, z) refl
place_found j (id ∷ ids) os (suc i) k d lt e =
    let miss : bytes_eq id (place_at ids i) ≡ false = unlike id ids i (both _ _ d).0 (omega arith) in
    rw miss (place_found (suc j) ids os i k (both _ _ d).1 (omega arith) (omega arith))

places_apart : (ids : List Text) (i j : ℕ) → are_distinct ids ≡ true → i < j → j < length ids → bytes_eq (place_at ids i) (place_at ids j) ≡ false
places_apart [] i j d lt less = absurd (omega arith)
places_apart (id ∷ ids) i zero d lt less = absurd (omega arith)
places_apart (id ∷ ids) zero (suc j) d lt less = unlike id ids j (both _ _ d).0 (omega arith)
places_apart (id ∷ ids) (suc i) (suc j) d lt less = places_apart ids i j (both _ _ d).1 (omega arith) (omega arith)

-- ---- the rules serve

options_quiet : (names : List Text) → Quiet (map option_rule names)
options_quiet [] = tt
options_quiet (m ∷ names) = (refl, refl, options_quiet names)

places_quiet : (i : ℕ) (ids names : List Text) → Quiet (place_rules i ids ++ map option_rule names)
places_quiet i [] names = options_quiet names
places_quiet i (id ∷ ids) names = (refl, refl, places_quiet (suc i) ids names)

pub plain_quiet : (ids names : List Text) → Quiet (plain_rules ids names)
plain_quiet ids names = places_quiet 0 ids names

pub plain_serves : (ids names : List Text) → are_distinct ids ≡ true → are_apart ids names ≡ true → length ids ≤ 1000
    → Serves (plain_rules ids names) (syntax_of ids names) (place_at ids)
plain_serves ids names d a few = record {
  long = λ n e. long_skip 0 ids (map option_rule names) n ∙ long_found ids names n e;
  no_long = λ n e. long_skip 0 ids (map option_rule names) n ∙ long_none ids names n e;
  short = λ x. short_skip 0 ids names x;
  index = λ i lt. index_found 0 ids (map option_rule names) i i lt (omega arith);
  no_index = λ i le. index_none 0 ids names i (omega arith);
  by_option = λ n e. id_skip 0 ids (map option_rule names) n (both _ _ (apart_of ids names n a e)).1 ∙ id_found ids names n e;
  by_place = λ i lt. place_found 0 ids (map option_rule names) i i d lt (omega arith);
  apart = λ i j lt less. places_apart ids i j d lt less;
  other = λ n i e. other_of ids names n i a e;
  few = few;
  no_defaults = quiet_rows (plain_rules ids names) (plain_quiet ids names);
}

-- ---- building fills the rules in

filled_options : (names : List Text) (i : ℕ) → filled_from i (map option_named names) ≡ map option_rule names
filled_options [] i = refl
filled_options (n ∷ names) i = ap (λ (rs : List Rule). option_rule n ∷ rs) (filled_options names i)

filled_rules : (ids names : List Text) (i : ℕ) → i + length ids ≤ 1000
    → filled_from (suc i) (map new_rule ids ++ map option_named names) ≡ place_rules i ids ++ map option_rule names
filled_rules [] names i few = filled_options names (suc i)
filled_rules (id ∷ ids) names i few =
    let next : min (suc i + 1) 18446744073709551615 ≡ suc (suc i) = omega arith in
    rw next (ap (λ (rs : List Rule). place_rule id (suc i) ∷ rs) (filled_rules ids names (suc i) (omega arith)))

built_only : (s : Syntax) → length s.operands ≤ 1000 → built (app_for s) ≡ only (codes "pengines") (plain_rules s.operands s.options)
built_only s few = ap (λ (rs : List Rule). only (codes "pengines") rs) (filled_rules s.operands s.options 0 (omega arith))

-- ---- what the rows tell

found_first : (id v n : Text) (rows : List Row) (rest : Option Text) (b : Bool) → first_of n rows ≡ rest
    → option_and_then (λ (r : Row). slice_get r.values 0) (cond b (Some (row id v)) (find (λ (r : Row). bytes_eq r.id n) rows)) ≡ cond b (Some v) rest
found_first id v n rows rest true is = refl
found_first id v n rows rest false is = is

first_given : (p : ℕ → Text) (ids : List Text) (i : ℕ) (gs : List Given) (n : Text) → ((j k : ℕ) → k ≡ i + j → p k ≡ place_at ids j) → bytes_eq [] n ≡ false
    → first_of n (rows_from p i gs) ≡ given_for ids gs n
first_given p ids i [] n at some = refl
first_given p ids i ((Some m, v) ∷ gs) n at some =
    found_first m v n (rows_from p i gs) (given_for ids gs n) (bytes_eq m n) (first_given p ids i gs n at some)
first_given p [] i ((None, v) ∷ gs) n at some =
    let no_name : p i ≡ [] = at 0 i (omega arith) in
    let none : bytes_eq (p i) n ≡ false = rw no_name some in
    rw none (first_given p [] (suc i) gs n (λ j k e. at (suc j) k (omega arith)) some)
first_given p (id ∷ ids) i ((None, v) ∷ gs) n at some =
    let is : p i ≡ id = at 0 i (omega arith) in
    rw is (found_first id v n (rows_from p (suc i) gs) (given_for ids gs n) (bytes_eq id n) (first_given p ids (suc i) gs n (λ j k e. at (suc j) k (omega arith)) some))

-- ---- what a parse of the command answers

-- the names of a command are apart, and its operands few
abbrev pub IsPlainSyntax : Syntax → Type 0
IsPlainSyntax s = (are_distinct s.operands ≡ true) × (are_apart s.operands s.options ≡ true) × (length s.operands ≤ 1000)

abbrev pub Tells : Syntax → List Given → List Row → Type 0
Tells s gs rows = (n : Text) → bytes_eq [] n ≡ false → first_of n rows ≡ given_for s.operands gs n

module _ (s : Syntax) (h : IsPlainSyntax s) where
  serves : Serves (plain_rules s.operands s.options) s (place_at s.operands)
  serves = plain_serves s.operands s.options h.0 h.1 h.2

  given_good : (ws : List Text) (gs : List Given) → AreWords ws → has_no_lone_hyphen ws ≡ true → given_by s ws ≡ Some gs
      → (fault_of (app_for s) ws ≡ []) × (matches_of (app_for s) ws ≡ rows_from (place_at s.operands) 0 gs)
  given_good ws gs words lone e =
      good (plain_rules s.operands s.options) s (place_at s.operands) (codes "pengines") serves (plain_quiet s.operands s.options) (app_for s) (built_only s h.2) refl ws gs words lone e

  given_bad : (ws : List Text) → AreWords ws → has_no_lone_hyphen ws ≡ true → given_by s ws ≡ None → fault_of (app_for s) ws ≡ [] → ⊥
  given_bad ws words lone e =
      bad (plain_rules s.operands s.options) s (place_at s.operands) (codes "pengines") serves (plain_quiet s.operands s.options) (app_for s) (built_only s h.2) refl ws words lone e

  pub tells : (ws : List Text) → AreWords ws → has_no_lone_hyphen ws ≡ true → fault_of (app_for s) ws ≡ []
      → (gs : List Given) × (given_by s ws ≡ Some gs) × Tells s gs (matches_of (app_for s) ws)
  tells ws words lone none = go (given_by s ws) refl
    where
      go : (o : Option (List Given)) → given_by s ws ≡ o → (gs : List Given) × (given_by s ws ≡ Some gs) × Tells s gs (matches_of (app_for s) ws)
      go None e = absurd (given_bad ws words lone e none)
      go (Some gs) e =
          let rows = (given_good ws gs words lone e).1 in
          (gs, e, λ n some. ap (first_of n) rows ∙ first_given (place_at s.operands) s.operands 0 gs n (λ j k is. ap (place_at s.operands) (omega (arith, is))) some)

  pub refuses : (ws : List Text) → AreWords ws → has_no_lone_hyphen ws ≡ true → ¬ (fault_of (app_for s) ws ≡ []) → given_by s ws ≡ None
  refuses ws words lone fails = go (given_by s ws) refl
    where
      go : (o : Option (List Given)) → given_by s ws ≡ o → given_by s ws ≡ None
      go None e = e
      go (Some gs) e = absurd (fails (given_good ws gs words lone e).0)
