-- One word of the walk.
use Rattle.std.proofs.Common.{◌≡◌, ◌⊎◌, ◌≤◌, ◌<◌, ◌+◌, ◌&&◌, ◌==◌, ℕ, Bool, true, false, suc, List, [], ◌∷◌, length, min, Option, Some, None, refl, sym, subst, inl, inr, arith}
use Rattle.std.specs.Prelude.{slice_get}
use Rattle.std.specs.Str.{bytes_eq, chars}
use Rattle.std.proofs.lemmas.Bool.Decides.{nat_tests}
use Rattle.std.proofs.lemmas.Slice.Eq.{bytes_eq-Decides}
use Rattle.clap.specs.Lexer.{long_of, short_of}
use Rattle.clap.specs.Walk.{Rule, Row, Held, Walk, Waiting, idle, option, positional, walked, settled, used, has_row, is_pending}
use Rattle.clap.specs.Kinds.{Kinds, or_else}
use Rattle.clap.specs.Faults.{settle_fault, use_fault, turn_fault, flags_fault, option_fault}
use Rattle.clap.specs.declared.error.kind.ErrorKind.TheVariants as kind
use Rattle.cmdline.specs.Words.{Text, Syntax, is_option, begins_with_hyphen}
use Rattle.cmdline.proofs.Rows.{Serves, option_rule, place_rule, leaf}

abbrev pub dashes : Text
dashes = 45 ∷ 45 ∷ []

abbrev pub held : List Row → Option (Text × List Text) → Held
held rows pend = record { rows = rows; pending = pend; skip = 0 }

abbrev pub here : Held → Bool → Waiting → ℕ → Walk
here h t wt k = record { held = h; waiting = wt; position = suc k; is_trailing = t; stopped = None }

pub and_false : (b : Bool) → (b && false) ≡ false
and_false true = refl
and_false false = refl

pub or_nothing : (a : Kinds) → or_else a [] ≡ a
or_nothing [] = refl
or_nothing (k ∷ ks) = refl

pub same_bytes : (n : Text) → bytes_eq n n ≡ true
same_bytes n = (bytes_eq-Decides n n).1 refl

-- ---- what a word looks like

pub data View (w : Text) : Type 0 where
  is_dashes : bytes_eq w dashes ≡ true → View w
  is_plain : bytes_eq w dashes ≡ false → long_of w ≡ None → short_of w ≡ None → ((begins_with_hyphen w ≡ false) ⊎ (bytes_eq w (45 ∷ []) ≡ true)) → View w
  is_long : bytes_eq w dashes ≡ false → begins_with_hyphen w ≡ true → (n : Text) → (v : Option Text) → long_of w ≡ Some (n, v) → View w
  is_short : bytes_eq w dashes ≡ false → begins_with_hyphen w ≡ true → long_of w ≡ None → (y : ℕ) → (r : Text) → short_of w ≡ Some (y ∷ r) → w ≡ 45 ∷ y ∷ r → View w

eq_of : (x y : ℕ) → (x == y) ≡ true → x ≡ y
eq_of x y e = grind (arith, nat_tests)

view_two : (y : ℕ) (r : Text) → View (45 ∷ y ∷ r)
view_two y r = go (y == 45) refl
  where
    long : (q : Text) → View (45 ∷ 45 ∷ q)
    long [] = is_dashes refl
    long (z ∷ q) = is_long refl refl _ _ refl

    go : (b : Bool) → (y == 45) ≡ b → View (45 ∷ y ∷ r)
    go true e = subst (λ (x : ℕ). View (45 ∷ x ∷ r)) (sym (eq_of y 45 e)) (long r)
    go false e = is_short (rw e refl) refl (rw e refl) y r (rw e refl) refl

view_one : (r : Text) → View (45 ∷ r)
view_one [] = is_plain refl refl refl (inr refl)
view_one (y ∷ r) = view_two y r

pub view : (w : Text) → View w
view [] = is_plain refl refl refl (inl refl)
view (x ∷ r) = go (x == 45) refl
  where
    go : (b : Bool) → (x == 45) ≡ b → View (x ∷ r)
    go true e = subst (λ (y : ℕ). View (y ∷ r)) (sym (eq_of x 45 e)) (view_one r)
    go false e = is_plain (rw e refl) (rw e refl) (rw e refl) (inl e)

-- ---- one word

module _ (rs : List Rule) (s : Syntax) (p : ℕ → Text) (name : Text) (ok : Serves rs s p) where
  -- a word that no option takes
  pub word_turn : (h : Held) (t : Bool) (k : ℕ) (w : Text) → k < length s.operands
      → (t ≡ false → (bytes_eq w dashes ≡ false) × (long_of w ≡ None) × (short_of w ≡ None))
      → turn_fault (leaf name rs) [] (here h t idle k) w ≡ settle_fault rs false h
  word_turn h true k w lt plain =
      rw (ok.index k lt, and_false (is_pending (place_rule (p k) (suc k)) h.pending)) refl
  word_turn h false k w lt plain =
      let v = plain refl in
      rw (v.0, v.1, v.2, ok.index k lt, and_false (is_pending (place_rule (p k) (suc k)) h.pending)) refl

  pub word_stray : (h : Held) (t : Bool) (k : ℕ) (w : Text) → length s.operands ≤ k
      → (t ≡ false → (bytes_eq w dashes ≡ false) × (long_of w ≡ None) × (short_of w ≡ None))
      → turn_fault (leaf name rs) [] (here h t idle k) w ≡ kind.UnknownArgument ∷ []
  word_stray h true k w le plain = rw (ok.no_index k le) refl
  word_stray h false k w le plain =
      let v = plain refl in
      rw (v.0, v.1, v.2, ok.no_index k le) refl

  pub word_walked : (rows : List Row) (pend : Option (Text × List Text)) (t : Bool) (k : ℕ) (w : Text) → k < length s.operands
      → (t ≡ false → (bytes_eq w dashes ≡ false) × (long_of w ≡ None) × (short_of w ≡ None))
      → walked rs [] (here (held rows pend) t idle k) w
      ≡ here (held (settled rs (held rows pend)).rows (Some (p k, w ∷ []))) t idle (suc k)
  unfolding walked
  word_walked rows pend true k w lt plain =
      let next : min (suc k + 1) 18446744073709551615 ≡ suc (suc k) = omega (arith, ok.few) in
      rw (ok.index k lt, and_false (is_pending (place_rule (p k) (suc k)) pend), next) refl
  word_walked rows pend false k w lt plain =
      let v = plain refl in
      let next : min (suc k + 1) 18446744073709551615 ≡ suc (suc k) = omega (arith, ok.few) in
      rw (v.0, v.1, v.2, ok.index k lt, and_false (is_pending (place_rule (p k) (suc k)) pend), next) refl

  -- `--`
  pub dashes_turn : (h : Held) (wt : Waiting) (k : ℕ) (w : Text) → bytes_eq w dashes ≡ true
      → turn_fault (leaf name rs) [] (here h false wt k) w ≡ []
  dashes_turn h idle k w e = rw e refl
  dashes_turn h (option n) k w e = rw e refl
  dashes_turn h positional k w e = rw e refl

  pub dashes_walked : (h : Held) (wt : Waiting) (k : ℕ) (w : Text) → bytes_eq w dashes ≡ true
      → walked rs [] (here h false wt k) w ≡ here h true wt k
  unfolding walked
  dashes_walked h idle k w e = rw e refl
  dashes_walked h (option n) k w e = rw e refl
  dashes_walked h positional k w e = rw e refl

  -- a short option, of which there is none
  pub short_turn : (rows : List Row) (pend : Option (Text × List Text)) (wt : Waiting) (k : ℕ) (w : Text) (y x : ℕ) (r : Text) → bytes_eq w dashes ≡ false
      → long_of w ≡ None → short_of w ≡ Some (y ∷ r) → slice_get (chars (y ∷ r)) 0 ≡ Some x
      → (rest : Kinds) × (turn_fault (leaf name rs) [] (here (held rows pend) false wt k) w ≡ kind.UnknownArgument ∷ rest)
  unfolding flags_fault
  short_turn rows pend idle k w y x r e lo so first = ([], rw (e, lo, so, first, ok.short x) refl)
  short_turn rows pend (option n) k w y x r e lo so first = ([], rw (e, lo, so, first, ok.short x) refl)
  short_turn rows pend positional k w y x r e lo so first = ([], rw (e, lo, so, first, ok.short x) refl)

  -- a long option that the command lacks
  pub unknown_turn : (h : Held) (wt : Waiting) (k : ℕ) (w n : Text) (v : Option Text) → bytes_eq w dashes ≡ false
      → long_of w ≡ Some (n, v) → is_option s n ≡ false
      → (rest : Kinds) × (turn_fault (leaf name rs) [] (here h false wt k) w ≡ kind.UnknownArgument ∷ rest)
  unknown_turn h idle k w n v e lo un = ([], rw (e, lo, ok.no_long n un) refl)
  unknown_turn h (option m) k w n v e lo un = ([], rw (e, lo, ok.no_long n un) refl)
  unknown_turn h positional k w n v e lo un = ([], rw (e, lo, ok.no_long n un) refl)

  -- a long option of the command's
  pub long_turn : (h : Held) (wt : Waiting) (k : ℕ) (w n : Text) (v : Option Text) → bytes_eq w dashes ≡ false
      → long_of w ≡ Some (n, v) → is_option s n ≡ true
      → turn_fault (leaf name rs) [] (here h false wt k) w ≡ option_fault rs false (option_rule n) v h
  long_turn h idle k w n (Some t) e lo is = rw (e, lo, ok.long n is) (or_nothing _)
  long_turn h idle k w n None e lo is = rw (e, lo, ok.long n is) (or_nothing _)
  long_turn h (option m) k w n (Some t) e lo is = rw (e, lo, ok.long n is) (or_nothing _)
  long_turn h (option m) k w n None e lo is = rw (e, lo, ok.long n is) (or_nothing _)
  long_turn h positional k w n (Some t) e lo is = rw (e, lo, ok.long n is) (or_nothing _)
  long_turn h positional k w n None e lo is = rw (e, lo, ok.long n is) (or_nothing _)

  pub attached_walked : (rows : List Row) (pend : Option (Text × List Text)) (k : ℕ) (w n t : Text) → bytes_eq w dashes ≡ false
      → long_of w ≡ Some (n, Some t) → is_option s n ≡ true
      → walked rs [] (here (held rows pend) false idle k) w
      ≡ here (held (used (option_rule n) (t ∷ []) (settled rs (held rows pend)).rows) None) false idle k
  unfolding walked
  attached_walked rows pend k w n t e lo is = rw (e, lo, ok.long n is) refl

  pub named_walked : (rows : List Row) (pend : Option (Text × List Text)) (k : ℕ) (w n : Text) → bytes_eq w dashes ≡ false
      → long_of w ≡ Some (n, None) → is_option s n ≡ true
      → walked rs [] (here (held rows pend) false idle k) w
      ≡ here (held (settled rs (held rows pend)).rows (Some (n, []))) false (option n) k
  unfolding walked
  named_walked rows pend k w n e lo is = rw (e, lo, ok.long n is) refl

  -- the value of an option
  pub value_turn : (rows : List Row) (k : ℕ) (w n : Text) → bytes_eq w dashes ≡ false → long_of w ≡ None → short_of w ≡ None → is_option s n ≡ true
      → turn_fault (leaf name rs) [] (here (held rows (Some (n, []))) false (option n) k) w ≡ []
  value_turn rows k w n e lo so is = rw (e, lo, so) refl

  pub value_walked : (rows : List Row) (k : ℕ) (w n : Text) → bytes_eq w dashes ≡ false → long_of w ≡ None → short_of w ≡ None → is_option s n ≡ true
      → walked rs [] (here (held rows (Some (n, []))) false (option n) k) w ≡ here (held rows (Some (n, w ∷ []))) false idle k
  unfolding walked
  value_walked rows k w n e lo so is = rw (e, lo, so, ok.by_option n is, same_bytes n) refl

  -- ---- one use

  pub option_use : (n v : Text) (rows : List Row) → has_row n rows ≡ false → use_fault false (option_rule n) (v ∷ []) rows ≡ []
  option_use n v rows none = rw none refl

  pub option_again : (n v : Text) (rows : List Row) → has_row n rows ≡ true → (rest : Kinds) × (use_fault false (option_rule n) (v ∷ []) rows ≡ kind.ArgumentConflict ∷ rest)
  option_again n v rows some = ([], rw some refl)

  pub place_use : (id v : Text) (i : ℕ) (rows : List Row) → has_row id rows ≡ false → use_fault false (place_rule id i) (v ∷ []) rows ≡ []
  place_use id v i rows none = rw none refl
