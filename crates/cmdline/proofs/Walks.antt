-- The walk over all the words goes with `reads`.
use Rattle.std.proofs.Common.{◌≡◌, ◌⊎◌, ◌∙◌, ◌<◌, ◌&&◌, ℕ, Bool, true, false, not, cond, suc, List, [], ◌∷◌, ◌++◌, length, Option, Some, None, refl, ap, sym, subst, inl, inr, arith, true≢false}
use Rattle.std.specs.Prelude.{nat_lt, slice_get}
use Rattle.std.specs.Option.{option_map_or}
use Rattle.std.proofs.lemmas.Slice.Eq.{bytes_eq-Decides}
use Rattle.std.specs.List.{fold}
use Rattle.std.specs.Str.{bytes_eq, chars}
use Rattle.std.proofs.lemmas.Bool.Decides.{nat_tests}
use Rattle.clap.specs.Lexer.{long_of, short_of}
use Rattle.clap.specs.Walk.{Rule, Row, Held, Walk, idle, option, walked, settled, used, has_row}
use Rattle.clap.specs.Kinds.{Kinds, or_else}
use Rattle.clap.specs.Faults.{walk_fault, settle_fault, use_fault, turn_fault, option_fault}
use Rattle.clap.specs.declared.error.kind.ErrorKind.{ErrorKind}
use Rattle.clap.specs.declared.error.kind.ErrorKind.TheVariants as kind
use Rattle.cmdline.specs.Words.{Text, Syntax, Given, any, value_of, ended, is_option, has_option, words_of, begins_with_hyphen, has_place, placed, reads, has_no_lone_hyphen}
use Rattle.cmdline.proofs.Rows.{Serves, option_rule, leaf, row, rows_from, rows_added, words_added, words_kept, all_known, known_added, has_option_row, no_place_row, used_option, used_place}
use Rattle.cmdline.proofs.Steps.{View, is_dashes, is_plain, is_long, is_short, view, dashes, held, here, word_turn, word_stray, word_walked, dashes_turn, dashes_walked, short_turn, unknown_turn, long_turn, attached_walked, named_walked, value_turn, value_walked, option_use, option_again, place_use}

-- what follows a hyphen begins with a character
abbrev pub IsWord : Text → Type 0
IsWord w = (y : ℕ) (r : Text) → w ≡ 45 ∷ y ∷ r → (x : ℕ) × (slice_get (chars (y ∷ r)) 0 ≡ Some x)

pub data AreWords : List Text → Type 0 where
  no_words : AreWords []
  word_and : {w : Text} {ws : List Text} → IsWord w → AreWords ws → AreWords (w ∷ ws)

some_kind : (k : ErrorKind) (ks a : Kinds) → or_else (k ∷ ks) a ≡ [] → ⊥
some_kind k ks a e = cc

module _ (rs : List Rule) (s : Syntax) (p : ℕ → Text) (name : Text) (ok : Serves rs s p) where
  abbrev pub end_of : Walk → List Text → Walk
  end_of w ws = fold (walked rs []) w ws

  abbrev pub total : Walk → List Text → Kinds
  total w ws = or_else (walk_fault (leaf name rs) [] w ws) (settle_fault rs false (end_of w ws).held)

  -- the walk has no fault, and its rows are those of what was given
  pub record Ends (w : Walk) (ws : List Text) (gs : List Given) : Type 0 where
    pub sound : total w ws ≡ []
    pub rows_are : (settled rs (end_of w ws).held).rows ≡ rows_from p 0 gs
    pub goes_on : (end_of w ws).stopped ≡ None
    pub known : all_known s gs ≡ true

  abbrev pub Agrees : Option (List Given) → Walk → List Text → Type 0
  Agrees (Some gs) w ws = Ends w ws gs
  Agrees None w ws = total w ws ≡ [] → ⊥

  pub record Settled (rows : List Row) (pend : Option (Text × List Text)) (gs : List Given) : Type 0 where
    pub sound : settle_fault rs false (held rows pend) ≡ []
    pub rows_are : (settled rs (held rows pend)).rows ≡ rows_from p 0 gs
    pub known : all_known s gs ≡ true

  next_total : (w : Walk) (v : Text) (w2 : Walk) (ws : List Text) → turn_fault (leaf name rs) [] w v ≡ [] → walked rs [] w v ≡ w2
      → total w (v ∷ ws) ≡ total w2 ws
  unfolding walk_fault
  next_total w v w2 ws none is =
      rw none (ap (λ (u : Walk). total u ws) is)

  agree_next : (o : Option (List Given)) (w : Walk) (v : Text) (w2 : Walk) (ws : List Text) → turn_fault (leaf name rs) [] w v ≡ []
      → walked rs [] w v ≡ w2 → Agrees o w2 ws → Agrees o w (v ∷ ws)
  agree_next (Some gs) w v w2 ws none is h = record {
    sound = next_total w v w2 ws none is ∙ h.sound;
    rows_are = ap (λ (u : Walk). (settled rs (end_of u ws).held).rows) is ∙ h.rows_are;
    goes_on = ap (λ (u : Walk). (end_of u ws).stopped) is ∙ h.goes_on;
    known = h.known;
  }
  agree_next None w v w2 ws none is h = λ e. h (sym (next_total w v w2 ws none is) ∙ e)

  agree_bad : (w : Walk) (v : Text) (ws : List Text) (k : ErrorKind) (ks : Kinds) → turn_fault (leaf name rs) [] w v ≡ k ∷ ks → Agrees None w (v ∷ ws)
  unfolding walk_fault
  agree_bad w v ws k ks bad e =
      let fails : total w (v ∷ ws) ≡ k ∷ ks = rw bad refl in
      let no : k ∷ ks ≡ [] = sym fails ∙ e in
      cc

  -- ---- a fault that is owed

  owed_ended : (h : Held) (k : ℕ) (ws : List Text) (q : ErrorKind) (qs : Kinds) → settle_fault rs false h ≡ q ∷ qs → Agrees None (here h true idle k) ws
  unfolding walk_fault
  owed_ended h k [] q qs owed =
      λ e. let no : q ∷ qs ≡ [] = sym owed ∙ e in cc
  owed_ended h k (v ∷ ws) q qs owed = go (nat_lt k (length s.operands)) refl
    where
      go : (b : Bool) → nat_lt k (length s.operands) ≡ b → Agrees None (here h true idle k) (v ∷ ws)
      go true lt = agree_bad (here h true idle k) v ws q qs (word_turn rs s p name ok h true k v (grind (arith, nat_tests)) (λ e. absurd (true≢false e)) ∙ owed)
      go false ge = agree_bad (here h true idle k) v ws kind.UnknownArgument [] (word_stray rs s p name ok h true k v (grind (arith, nat_tests)) (λ e. absurd (true≢false e)))

  -- the walk after `--` in the place of a value
  owed_value : (h : Held) (n : Text) (k : ℕ) (ws : List Text) (q : ErrorKind) (qs : Kinds) → settle_fault rs false h ≡ q ∷ qs → Agrees None (here h true (option n) k) ws
  unfolding walk_fault
  owed_value h n k [] q qs owed =
      λ e. let no : q ∷ qs ≡ [] = sym owed ∙ e in cc
  owed_value h n k (v ∷ ws) q qs owed = go (nat_lt k (length s.operands)) refl
    where
      -- the waiting is of no matter after `--`
      same : turn_fault (leaf name rs) [] (here h true (option n) k) v ≡ turn_fault (leaf name rs) [] (here h true idle k) v
      same = refl

      go : (b : Bool) → nat_lt k (length s.operands) ≡ b → Agrees None (here h true (option n) k) (v ∷ ws)
      go true lt = agree_bad (here h true (option n) k) v ws q qs (same ∙ word_turn rs s p name ok h true k v (grind (arith, nat_tests)) (λ e. absurd (true≢false e)) ∙ owed)
      go false ge = agree_bad (here h true (option n) k) v ws kind.UnknownArgument [] (same ∙ word_stray rs s p name ok h true k v (grind (arith, nat_tests)) (λ e. absurd (true≢false e)))

  -- an option's fault begins with the one that is owed
  option_owed : (h : Held) (n : Text) (v : Option Text) (q : ErrorKind) (qs : Kinds) → settle_fault rs false h ≡ q ∷ qs → option_fault rs false (option_rule n) v h ≡ q ∷ qs
  option_owed h n (Some t) q qs owed = rw owed refl
  option_owed h n None q qs owed = owed

  owed : (rows : List Row) (pend : Option (Text × List Text)) (k : ℕ) (ws : List Text) (q : ErrorKind) (qs : Kinds) → AreWords ws → settle_fault rs false (held rows pend) ≡ q ∷ qs
      → Agrees None (here (held rows pend) false idle k) ws
  unfolding walk_fault
  owed rows pend k [] q qs words is = λ e. let no : q ∷ qs ≡ [] = sym is ∙ e in cc
  owed rows pend k (v ∷ ws) q qs (word_and word words) is = by_view (view v)
    where
      h : Held
      h = held rows pend

      by_place : (bytes_eq v dashes ≡ false) × (long_of v ≡ None) × (short_of v ≡ None) → (b : Bool) → nat_lt k (length s.operands) ≡ b → Agrees None (here (held rows pend) false idle k) (v ∷ ws)
      by_place plain true lt = agree_bad (here (held rows pend) false idle k) v ws q qs (word_turn rs s p name ok (held rows pend) false k v (grind (arith, nat_tests)) (λ e. plain) ∙ is)
      by_place plain false ge = agree_bad (here (held rows pend) false idle k) v ws kind.UnknownArgument [] (word_stray rs s p name ok (held rows pend) false k v (grind (arith, nat_tests)) (λ e. plain))

      by_option : (n : Text) (t : Option Text) → bytes_eq v dashes ≡ false → long_of v ≡ Some (n, t) → (b : Bool) → is_option s n ≡ b → Agrees None (here (held rows pend) false idle k) (v ∷ ws)
      by_option n t nd lo true k1 = agree_bad (here (held rows pend) false idle k) v ws q qs (long_turn rs s p name ok (held rows pend) idle k v n t nd lo k1 ∙ option_owed (held rows pend) n t q qs is)
      by_option n t nd lo false k1 =
          let bad = unknown_turn rs s p name ok (held rows pend) idle k v n t nd lo k1 in
          agree_bad (here (held rows pend) false idle k) v ws kind.UnknownArgument bad.0 bad.1

      by_view : View v → Agrees None (here (held rows pend) false idle k) (v ∷ ws)
      by_view (is_dashes e) =
          agree_next None (here (held rows pend) false idle k) v (here (held rows pend) true idle k) ws (dashes_turn rs s p name ok (held rows pend) idle k v e)
          (dashes_walked rs s p name ok (held rows pend) idle k v e) (owed_ended (held rows pend) k ws q qs is)
      by_view (is_plain nd lo so how) = by_place (nd, lo, so) (nat_lt k (length s.operands)) refl
      by_view (is_long nd hyphen n t lo) = by_option n t nd lo (is_option s n) refl
      by_view (is_short nd hyphen lo y r so same) =
          let first = word y r same in
          let bad = short_turn rs s p name ok rows pend idle k v y first.0 r nd lo so first.1 in
          agree_bad (here (held rows pend) false idle k) v ws kind.UnknownArgument bad.0 bad.1

  -- ---- what a step leaves

  place_settles : (rows : List Row) (gs : List Given) (w : Text) → rows ≡ rows_from p 0 gs → all_known s gs ≡ true → length (words_of gs) < length s.operands
      → Settled rows (Some (p (length (words_of gs)), w ∷ [])) (gs ++ (None, w) ∷ [])
  place_settles rows gs w is known lt =
      let k = length (words_of gs) in
      let none : has_row (p k) rows ≡ false = ap (has_row (p k)) is ∙ no_place_row rs s p ok 0 gs k known (omega arith) lt in
      record {
        sound = rw (ok.by_place k lt) (place_use rs s p name ok (p k) w (suc k) rows none);
        rows_are = rw (ok.by_place k lt) (used_place (p k) w (suc k) rows none ∙ ap (λ (r : List Row). r ++ row (p k) w ∷ []) is ∙ sym (rows_added p gs (None, w)));
        known = known_added s gs (None, w) known refl;
      }

  free_row : (rows : List Row) (gs : List Given) (n : Text) (b : Bool) → rows ≡ rows_from p 0 gs → is_option s n ≡ true → has_option n gs ≡ b → has_row n rows ≡ b
  free_row rows gs n b is k h = ap (has_row n) is ∙ has_option_row rs s p ok 0 gs n k ∙ h

  option_rows : (rows : List Row) (gs : List Given) (n w : Text) → rows ≡ rows_from p 0 gs → is_option s n ≡ true → has_option n gs ≡ false
      → used (option_rule n) (w ∷ []) rows ≡ rows_from p 0 (gs ++ (Some n, w) ∷ [])
  option_rows rows gs n w is k h =
      used_option n w rows (free_row rows gs n false is k h) ∙ ap (λ (r : List Row). r ++ row n w ∷ []) is ∙ sym (rows_added p gs (Some n, w))

  option_settles : (rows : List Row) (gs : List Given) (n w : Text) → rows ≡ rows_from p 0 gs → all_known s gs ≡ true → is_option s n ≡ true → has_option n gs ≡ false
      → Settled rows (Some (n, w ∷ [])) (gs ++ (Some n, w) ∷ [])
  option_settles rows gs n w is known k h = record {
    sound = rw (ok.by_option n k) (option_use rs s p name ok n w rows (free_row rows gs n false is k h));
    rows_are = rw (ok.by_option n k) (option_rows rows gs n w is k h);
    known = known_added s gs (Some n, w) known k;
  }

  attached_settles : (rows : List Row) (gs : List Given) (n w : Text) → rows ≡ rows_from p 0 gs → all_known s gs ≡ true → is_option s n ≡ true → has_option n gs ≡ false
      → Settled (used (option_rule n) (w ∷ []) rows) None (gs ++ (Some n, w) ∷ [])
  attached_settles rows gs n w is known k h = record {
    sound = refl;
    rows_are = option_rows rows gs n w is k h;
    known = known_added s gs (Some n, w) known k;
  }

  due_fault : (rows : List Row) (n : Text) → is_option s n ≡ true → settle_fault rs false (held rows (Some (n, []))) ≡ kind.InvalidValue ∷ []
  due_fault rows n k = rw (ok.by_option n k) refl

  -- an option that was given before awaits its value again
  again : (rows : List Row) (n : Text) (k : ℕ) (ws : List Text) → AreWords ws → is_option s n ≡ true → has_row n rows ≡ true
      → Agrees None (here (held rows (Some (n, []))) false (option n) k) ws
  unfolding walk_fault
  again rows n k [] words is some = λ e. let bad : kind.InvalidValue ∷ [] ≡ [] = sym (due_fault rows n is) ∙ e in cc
  again rows n k (v ∷ ws) (word_and word words) is some = by_view (view v)
    where
      w : Walk
      w = here (held rows (Some (n, []))) false (option n) k

      by_option : (m : Text) (t : Option Text) → bytes_eq v dashes ≡ false → long_of v ≡ Some (m, t) → (b : Bool) → is_option s m ≡ b → Agrees None (here (held rows (Some (n, []))) false (option n) k) (v ∷ ws)
      by_option m t nd lo true k1 =
          agree_bad (here (held rows (Some (n, []))) false (option n) k) v ws kind.InvalidValue []
          (long_turn rs s p name ok (held rows (Some (n, []))) (option n) k v m t nd lo k1 ∙ option_owed (held rows (Some (n, []))) m t kind.InvalidValue [] (due_fault rows n is))
      by_option m t nd lo false k1 =
          let bad = unknown_turn rs s p name ok (held rows (Some (n, []))) (option n) k v m t nd lo k1 in
          agree_bad (here (held rows (Some (n, []))) false (option n) k) v ws kind.UnknownArgument bad.0 bad.1

      by_view : View v → Agrees None (here (held rows (Some (n, []))) false (option n) k) (v ∷ ws)
      by_view (is_dashes e) =
          agree_next None (here (held rows (Some (n, []))) false (option n) k) v (here (held rows (Some (n, []))) true (option n) k) ws
          (dashes_turn rs s p name ok (held rows (Some (n, []))) (option n) k v e)
          (dashes_walked rs s p name ok (held rows (Some (n, []))) (option n) k v e)
          (owed_value (held rows (Some (n, []))) n k ws kind.InvalidValue [] (due_fault rows n is))
      by_view (is_plain nd lo so how) =
          let twice = option_again rs s p name ok n v rows some in
          let owes : settle_fault rs false (held rows (Some (n, v ∷ []))) ≡ kind.ArgumentConflict ∷ twice.0 = rw (ok.by_option n is) twice.1 in
          agree_next None (here (held rows (Some (n, []))) false (option n) k) v (here (held rows (Some (n, v ∷ []))) false idle k) ws
          (value_turn rs s p name ok rows k v n nd lo so is) (value_walked rs s p name ok rows k v n nd lo so is)
          (owed rows (Some (n, v ∷ [])) k ws kind.ArgumentConflict twice.0 words owes)
      by_view (is_long nd hyphen m t lo) = by_option m t nd lo (is_option s m) refl
      by_view (is_short nd hyphen lo y r so same) =
          let first = word y r same in
          let bad = short_turn rs s p name ok rows (Some (n, [])) (option n) k v y first.0 r nd lo so first.1 in
          agree_bad (here (held rows (Some (n, []))) false (option n) k) v ws kind.UnknownArgument bad.0 bad.1

  -- ---- all the words

  abbrev CEnded : List Text → Type 0
  CEnded ws = (rows : List Row) (pend : Option (Text × List Text)) (gs : List Given) → Settled rows pend gs
      → Agrees (reads s ended gs ws) (here (held rows pend) true idle (length (words_of gs))) ws

  place_next : (t : Bool) (rows : List Row) (pend : Option (Text × List Text)) (gs : List Given) (v : Text) (ws : List Text) (o : Option (List Given)) → Settled rows pend gs
      → (t ≡ false → (bytes_eq v dashes ≡ false) × (long_of v ≡ None) × (short_of v ≡ None))
      → ((rows2 : List Row) (pend2 : Option (Text × List Text)) → Settled rows2 pend2 (gs ++ (None, v) ∷ [])
      → Agrees o (here (held rows2 pend2) t idle (length (words_of (gs ++ (None, v) ∷ [])))) ws)
      → Agrees (placed s gs v o) (here (held rows pend) t idle (length (words_of gs))) (v ∷ ws)
  place_next t rows pend gs v ws o st plain next = go (has_place s gs) refl
    where
      go : (b : Bool) → has_place s gs ≡ b → Agrees (cond b o None) (here (held rows pend) t idle (length (words_of gs))) (v ∷ ws)
      go true has =
          let k = length (words_of gs) in
          let lt : length (words_of gs) < length s.operands = grind (arith, nat_tests) in
          let after = next (settled rs (held rows pend)).rows (Some (p (length (words_of gs)), v ∷ [])) (place_settles (settled rs (held rows pend)).rows gs v st.rows_are st.known lt) in
          agree_next o (here (held rows pend) t idle (length (words_of gs))) v (here (held (settled rs (held rows pend)).rows (Some (p (length (words_of gs)), v ∷ []))) t idle (suc (length (words_of gs)))) ws
          (word_turn rs s p name ok (held rows pend) t (length (words_of gs)) v lt plain ∙ st.sound)
          (word_walked rs s p name ok rows pend t (length (words_of gs)) v lt plain)
          (subst (λ (n : ℕ). Agrees o (here (held (settled rs (held rows pend)).rows (Some (p (length (words_of gs)), v ∷ []))) t idle n) ws) (words_added gs v) after)
      go false has =
          agree_bad (here (held rows pend) t idle (length (words_of gs))) v ws kind.UnknownArgument []
          (word_stray rs s p name ok (held rows pend) t (length (words_of gs)) v (grind (arith, nat_tests)) plain)

  claim_ended : (ws : List Text) → CEnded ws
  unfolding walk_fault
  claim_ended [] = λ rows pend gs st. record { sound = st.sound; rows_are = st.rows_are; goes_on = refl; known = st.known }
  claim_ended (v ∷ ws) = λ rows pend gs st.
      place_next true rows pend gs v ws (reads s ended (gs ++ (None, v) ∷ []) ws) st (λ e. absurd (true≢false e))
      (λ rows2 pend2 st2. claim_ended ws rows2 pend2 (gs ++ (None, v) ∷ []) st2)

  abbrev CAny : List Text → Type 0
  CAny ws = (rows : List Row) (pend : Option (Text × List Text)) (gs : List Given) → Settled rows pend gs → AreWords ws → has_no_lone_hyphen ws ≡ true
      → Agrees (reads s any gs ws) (here (held rows pend) false idle (length (words_of gs))) ws

  abbrev CValue : List Text → Type 0
  CValue ws = (rows : List Row) (gs : List Given) (n : Text) → rows ≡ rows_from p 0 gs → all_known s gs ≡ true → is_option s n ≡ true → has_option n gs ≡ false
      → AreWords ws → has_no_lone_hyphen ws ≡ true → Agrees (reads s (value_of n) gs ws) (here (held rows (Some (n, []))) false (option n) (length (words_of gs))) ws

  lone_after : (v : Text) (ws : List Text) → bytes_eq v dashes ≡ false → has_no_lone_hyphen (v ∷ ws) ≡ true → (bytes_eq v (45 ∷ []) ≡ false) × (has_no_lone_hyphen ws ≡ true)
  lone_after v ws nd h = go (bytes_eq v (45 ∷ [])) (rw nd at h)
    where
      go : (b : Bool) → cond b false (has_no_lone_hyphen ws) ≡ true → (b ≡ false) × (has_no_lone_hyphen ws ≡ true)
      go true e = absurd (true≢false (sym e))
      go false e = (refl, e)

  no_hyphen : (v : Text) → bytes_eq v (45 ∷ []) ≡ false → ((begins_with_hyphen v ≡ false) ⊎ (bytes_eq v (45 ∷ []) ≡ true)) → begins_with_hyphen v ≡ false
  no_hyphen v lone (inl b) = b
  no_hyphen v lone (inr e) = absurd (true≢false (sym e ∙ lone))

  -- a long option where nothing is due
  option_next : (rows : List Row) (pend : Option (Text × List Text)) (gs : List Given) (v : Text) (ws : List Text) (n : Text) (t : Option Text) → Settled rows pend gs
      → AreWords ws → has_no_lone_hyphen ws ≡ true → bytes_eq v dashes ≡ false → long_of v ≡ Some (n, t) → CAny ws → CValue ws → (b c : Bool) → is_option s n ≡ b → has_option n gs ≡ c
      → Agrees (cond (b && not c) (option_map_or (λ u. reads s any (gs ++ (Some n, u) ∷ []) ws) t (reads s (value_of n) gs ws)) None)
      (here (held rows pend) false idle (length (words_of gs))) (v ∷ ws)
  option_next rows pend gs v ws n t st words lone nd lo here_any here_value false c k h =
      let bad = unknown_turn rs s p name ok (held rows pend) idle (length (words_of gs)) v n t nd lo k in
      agree_bad (here (held rows pend) false idle (length (words_of gs))) v ws kind.UnknownArgument bad.0 bad.1
  option_next rows pend gs v ws n (Some u) st words lone nd lo here_any here_value true true k h =
      let twice = option_again rs s p name ok n u (settled rs (held rows pend)).rows (free_row (settled rs (held rows pend)).rows gs n true st.rows_are k h) in
      agree_bad (here (held rows pend) false idle (length (words_of gs))) v ws kind.ArgumentConflict twice.0
      (long_turn rs s p name ok (held rows pend) idle (length (words_of gs)) v n (Some u) nd lo k ∙ (rw st.sound twice.1))
  option_next rows pend gs v ws n None st words lone nd lo here_any here_value true true k h =
      agree_next None (here (held rows pend) false idle (length (words_of gs))) v (here (held (settled rs (held rows pend)).rows (Some (n, []))) false (option n) (length (words_of gs))) ws
      (long_turn rs s p name ok (held rows pend) idle (length (words_of gs)) v n None nd lo k ∙ st.sound)
      (named_walked rs s p name ok rows pend (length (words_of gs)) v n nd lo k)
      (again (settled rs (held rows pend)).rows n (length (words_of gs)) ws words k (free_row (settled rs (held rows pend)).rows gs n true st.rows_are k h))
  option_next rows pend gs v ws n (Some u) st words lone nd lo here_any here_value true false k h =
      let now = (settled rs (held rows pend)).rows in
      let fits : use_fault false (option_rule n) (u ∷ []) (settled rs (held rows pend)).rows ≡ [] =
      option_use rs s p name ok n u (settled rs (held rows pend)).rows (free_row (settled rs (held rows pend)).rows gs n false st.rows_are k h) in
      agree_next (reads s any (gs ++ (Some n, u) ∷ []) ws) (here (held rows pend) false idle (length (words_of gs))) v
      (here (held (used (option_rule n) (u ∷ []) (settled rs (held rows pend)).rows) None) false idle (length (words_of gs))) ws
      (long_turn rs s p name ok (held rows pend) idle (length (words_of gs)) v n (Some u) nd lo k ∙ (rw st.sound fits))
      (attached_walked rs s p name ok rows pend (length (words_of gs)) v n u nd lo k)
      (subst (λ (m : ℕ). Agrees (reads s any (gs ++ (Some n, u) ∷ []) ws) (here (held (used (option_rule n) (u ∷ []) (settled rs (held rows pend)).rows) None) false idle m) ws) (words_kept gs n u)
      (here_any (used (option_rule n) (u ∷ []) now) None (gs ++ (Some n, u) ∷ []) (attached_settles now gs n u st.rows_are st.known k h) words lone))
  option_next rows pend gs v ws n None st words lone nd lo here_any here_value true false k h =
      agree_next (reads s (value_of n) gs ws) (here (held rows pend) false idle (length (words_of gs))) v
      (here (held (settled rs (held rows pend)).rows (Some (n, []))) false (option n) (length (words_of gs))) ws
      (long_turn rs s p name ok (held rows pend) idle (length (words_of gs)) v n None nd lo k ∙ st.sound)
      (named_walked rs s p name ok rows pend (length (words_of gs)) v n nd lo k)
      (here_value (settled rs (held rows pend)).rows gs n st.rows_are st.known k h words lone)

  any_step : (v : Text) (ws : List Text) → CAny ws → CValue ws → CAny (v ∷ ws)
  any_step v ws here_any here_value rows pend gs st (word_and word words) lone = by_view (view v)
    where
      by_view : View v → Agrees (reads s any gs (v ∷ ws)) (here (held rows pend) false idle (length (words_of gs))) (v ∷ ws)
      by_view (is_dashes e) =
          rw e (agree_next (reads s ended gs ws) (here (held rows pend) false idle (length (words_of gs))) v (here (held rows pend) true idle (length (words_of gs))) ws
          (dashes_turn rs s p name ok (held rows pend) idle (length (words_of gs)) v e) (dashes_walked rs s p name ok (held rows pend) idle (length (words_of gs)) v e)
          (claim_ended ws rows pend gs st))
      by_view (is_plain nd lo so how) =
          let more = lone_after v ws nd lone in
          let plain = no_hyphen v more.0 how in
          rw (nd, plain) (place_next false rows pend gs v ws (reads s any (gs ++ (None, v) ∷ []) ws) st (λ e. (nd, lo, so))
          (λ rows2 pend2 st2. here_any rows2 pend2 (gs ++ (None, v) ∷ []) st2 words more.1))
      by_view (is_long nd hyphen n t lo) =
          let more = lone_after v ws nd lone in
          rw (nd, hyphen, lo) (option_next rows pend gs v ws n t st words more.1 nd lo here_any here_value (is_option s n) (has_option n gs) refl refl)
      by_view (is_short nd hyphen lo y r so same) =
          let first = word y r same in
          let bad = short_turn rs s p name ok rows pend idle (length (words_of gs)) v y first.0 r nd lo so first.1 in
          rw (nd, hyphen, lo) (agree_bad (here (held rows pend) false idle (length (words_of gs))) v ws kind.UnknownArgument bad.0 bad.1)

  value_step : (v : Text) (ws : List Text) → CAny ws → CValue (v ∷ ws)
  value_step v ws here_any rows gs n is known k h (word_and word words) lone = by_view (view v)
    where
      by_option : (m : Text) (t : Option Text) → bytes_eq v dashes ≡ false → long_of v ≡ Some (m, t) → (b : Bool) → is_option s m ≡ b
          → Agrees None (here (held rows (Some (n, []))) false (option n) (length (words_of gs))) (v ∷ ws)
      by_option m t nd lo true k1 =
          agree_bad (here (held rows (Some (n, []))) false (option n) (length (words_of gs))) v ws kind.InvalidValue []
          (long_turn rs s p name ok (held rows (Some (n, []))) (option n) (length (words_of gs)) v m t nd lo k1
          ∙ option_owed (held rows (Some (n, []))) m t kind.InvalidValue [] (due_fault rows n k))
      by_option m t nd lo false k1 =
          let bad = unknown_turn rs s p name ok (held rows (Some (n, []))) (option n) (length (words_of gs)) v m t nd lo k1 in
          agree_bad (here (held rows (Some (n, []))) false (option n) (length (words_of gs))) v ws kind.UnknownArgument bad.0 bad.1

      dashes_hyphen : bytes_eq v dashes ≡ true → begins_with_hyphen v ≡ true
      dashes_hyphen e = ap begins_with_hyphen ((bytes_eq-Decides v dashes).0 e)

      by_view : View v → Agrees (reads s (value_of n) gs (v ∷ ws)) (here (held rows (Some (n, []))) false (option n) (length (words_of gs))) (v ∷ ws)
      by_view (is_dashes e) =
          rw (dashes_hyphen e) (agree_next None (here (held rows (Some (n, []))) false (option n) (length (words_of gs))) v
          (here (held rows (Some (n, []))) true (option n) (length (words_of gs))) ws
          (dashes_turn rs s p name ok (held rows (Some (n, []))) (option n) (length (words_of gs)) v e)
          (dashes_walked rs s p name ok (held rows (Some (n, []))) (option n) (length (words_of gs)) v e)
          (owed_value (held rows (Some (n, []))) n (length (words_of gs)) ws kind.InvalidValue [] (due_fault rows n k)))
      by_view (is_plain nd lo so how) =
          let more = lone_after v ws nd lone in
          let plain = no_hyphen v more.0 how in
          rw plain (agree_next (reads s any (gs ++ (Some n, v) ∷ []) ws) (here (held rows (Some (n, []))) false (option n) (length (words_of gs))) v
          (here (held rows (Some (n, v ∷ []))) false idle (length (words_of gs))) ws
          (value_turn rs s p name ok rows (length (words_of gs)) v n nd lo so k) (value_walked rs s p name ok rows (length (words_of gs)) v n nd lo so k)
          (subst (λ (m : ℕ). Agrees (reads s any (gs ++ (Some n, v) ∷ []) ws) (here (held rows (Some (n, v ∷ []))) false idle m) ws) (words_kept gs n v)
          (here_any rows (Some (n, v ∷ [])) (gs ++ (Some n, v) ∷ []) (option_settles rows gs n v is known k h) words more.1)))
      by_view (is_long nd hyphen m t lo) = rw hyphen (by_option m t nd lo (is_option s m) refl)
      by_view (is_short nd hyphen lo y r so same) =
          let first = word y r same in
          let bad = short_turn rs s p name ok rows (Some (n, [])) (option n) (length (words_of gs)) v y first.0 r nd lo so first.1 in
          rw hyphen (agree_bad (here (held rows (Some (n, []))) false (option n) (length (words_of gs))) v ws kind.UnknownArgument bad.0 bad.1)

  claims : (ws : List Text) → CAny ws × CValue ws
  unfolding walk_fault
  claims [] = (
    λ rows pend gs st words lone. record { sound = st.sound; rows_are = st.rows_are; goes_on = refl; known = st.known },
    λ rows gs n is known k h words lone e. let bad : kind.InvalidValue ∷ [] ≡ [] = sym (due_fault rows n k) ∙ e in cc,
  )
  claims (v ∷ ws) =
      let ih = claims ws in
      (any_step v ws ih.0 ih.1, value_step v ws ih.0)

  -- from the start
  pub read_all : (ws : List Text) → AreWords ws → has_no_lone_hyphen ws ≡ true → Agrees (reads s any [] ws) (here (held [] None) false idle 0) ws
  read_all ws words lone = (claims ws).0 [] None [] (record { sound = refl; rows_are = refl; known = refl }) words lone
