-- Names in byte order, as an index has them.
use Rattle.std.proofs.Common.{◌≡◌, ℕ, zero, suc, ◌+◌, ◌-◌, ◌≤◌, ◌<◌, true, false, List, [], ◌∷◌, length, map, drop, get_or, refl, ap, sym, ◌∙◌, ◌++◌, append_assoc, append-nil, arith}
use Rattle.std.specs.BTreeMap.{BTreeMap, insert_entry}
use Rattle.std.specs.Ordering.{match_ordering, nat_cmp}
use Rattle.std.specs.Cmp.Lexicographic.{slice_cmp}
use Rattle.std.specs.declared.cmp.Ordering.{Ordering}
use Rattle.std.specs.declared.cmp.Ordering.TheVariants.{Less, Equal, Greater}
use Rattle.term_core.specs.Variables.{first_free}
use Rattle.prolog_read.specs.Variables.{Names}
use Rattle.prolog_read.specs.Outcome.{ReadAs}
use Rattle.request_text.specs.Kept.{in_order}
use Rattle.request_text.specs.Templates.{is_told, told_before, told_names, names_behind, names_beside}
use Rattle.request_text.proofs.Sharing.{one_back}
use denote.Bor.{Bor}

abbrev pub seen : List (Bor (List ℕ) × ℕ) → Names
seen es = map (λ e. (e.0.now, e.1)) es

-- an entry of an index, and a name among names
put_seen : (cmp : Bor (List ℕ) → Bor (List ℕ) → Ordering) → ((a b : Bor (List ℕ)) → cmp a b ≡ slice_cmp nat_cmp a.now b.now) →
    (es : List (Bor (List ℕ) × ℕ)) (k : Bor (List ℕ)) (v : ℕ) → seen (insert_entry cmp es k v) ≡ insert_entry (slice_cmp nat_cmp) (seen es) k.now v
put_seen cmp h [] k v = refl
put_seen cmp h (e ∷ es) k v =
    ap (λ o. seen (match_ordering o ((k, v) ∷ e ∷ es) ((e.0, v) ∷ es) (e ∷ insert_entry cmp es k v))) (h k e.0)
    ∙ by (slice_cmp nat_cmp k.now e.0.now) (put_seen cmp h es k v)
  where
    by : (o : Ordering) → seen (insert_entry cmp es k v) ≡ insert_entry (slice_cmp nat_cmp) (seen es) k.now v →
        seen (match_ordering o ((k, v) ∷ e ∷ es) ((e.0, v) ∷ es) (e ∷ insert_entry cmp es k v))
        ≡ match_ordering o ((k.now, v) ∷ (e.0.now, e.1) ∷ seen es) ((e.0.now, v) ∷ seen es) ((e.0.now, e.1) ∷ insert_entry (slice_cmp nat_cmp) (seen es) k.now v)
    by Less q = refl
    by Equal q = refl
    by Greater q = ap (λ (ps : Names). (e.0.now, e.1) ∷ ps) q

module _ (free : ℕ) (others : Names) where
  abbrev told_of : Names → Names
  told_of ps = told_before (names_behind free ps) others

  of_told : (p : List ℕ × ℕ) (ps : Names) → is_told p.0 ≡ true → told_of (p ∷ ps) ≡ insert_entry (slice_cmp nat_cmp) (told_of ps) p.0 (free + p.1)
  unfolding told_before
  of_told p ps e = rw e refl

  of_others : (p : List ℕ × ℕ) (ps : Names) → is_told p.0 ≡ false → told_of (p ∷ ps) ≡ told_of ps
  unfolding told_before
  of_others p ps e = rw e refl

  pub none_told : (ps : Names) (n : ℕ) → length ps ≤ n → others ≡ told_of (drop n ps)
  unfolding told_before
  none_told [] zero h = refl
  none_told [] (suc n) h = refl
  none_told (p ∷ ps) zero h = absurd (omega (arith, h))
  none_told (p ∷ ps) (suc n) h = none_told ps n (omega (arith, h))

  -- one name more, from the last to the first
  module _ (ps : Names) (i : ℕ) (p : List ℕ × ℕ) (lt : i < length ps) (is : p ≡ get_or ps (length ps - 1 - i) p)
      (old new : BTreeMap (Bor (List ℕ)) ℕ) (so_far : in_order old ≡ told_of (drop (length ps - i) ps)) where
    pub told_more : (cmp : Bor (List ℕ) → Bor (List ℕ) → Ordering) → ((a b : Bor (List ℕ)) → cmp a b ≡ slice_cmp nat_cmp a.now b.now) →
        (k : Bor (List ℕ)) (v : ℕ) → k.now ≡ p.0 → v ≡ free + p.1 → is_told p.0 ≡ true → new.entries ≡ insert_entry cmp old.entries k v → in_order new ≡ told_of (drop (length ps - (i + 1)) ps)
    told_more cmp h k v key value t put =
        ap seen put ∙ put_seen cmp h old.entries k v
        ∙ ap (λ w. insert_entry (slice_cmp nat_cmp) (in_order old) w v) key
        ∙ ap (λ n. insert_entry (slice_cmp nat_cmp) (in_order old) p.0 n) value
        ∙ ap (λ (ns : Names). insert_entry (slice_cmp nat_cmp) ns p.0 (free + p.1)) so_far
        ∙ sym (one_back told_of ps i p lt is ∙ of_told p (drop (length ps - i) ps) t)

    pub told_passed : is_told p.0 ≡ false → new ≡ old → in_order new ≡ told_of (drop (length ps - (i + 1)) ps)
    told_passed t same = ap in_order same ∙ so_far ∙ sym (one_back told_of ps i p lt is ∙ of_others p (drop (length ps - i) ps) t)

-- ---- the list of an index

pub listed_more : (ns : Names) (es fs : List (Bor (List ℕ) × ℕ)) (all new : Names) (p : List ℕ × ℕ) → ns ++ seen es ≡ all → (e : Bor (List ℕ) × ℕ) → es ≡ e ∷ fs → p ≡ (e.0.now, e.1) → new ≡ ns ++ p ∷ [] → new ++ seen fs ≡ all
listed_more ns es fs all new p so_far e is same put =
    ap (λ (xs : Names). xs ++ seen fs) put ∙ append_assoc ns (p ∷ []) (seen fs) ∙ ap (λ (q : List ℕ × ℕ). ns ++ q ∷ seen fs) same ∙ ap (λ xs. ns ++ seen xs) (sym is) ∙ so_far

pub listed_all : (ns : Names) (es : List (Bor (List ℕ) × ℕ)) (all : Names) → ns ++ seen es ≡ all → es ≡ [] → ns ≡ all
listed_all ns es all so_far is = sym (append-nil ns) ∙ ap (λ xs. ns ++ seen xs) (sym is) ∙ so_far

-- ---- names that are told

as_they_are : (ps : Names) → names_behind 0 ps ≡ ps
as_they_are [] = refl
as_they_are (p ∷ ps) = ap (λ (n : ℕ). (p.0, n) ∷ names_behind 0 ps) (omega arith) ∙ ap (λ (qs : Names). p ∷ qs) (as_they_are ps)

module _ (empty told : BTreeMap (Bor (List ℕ)) ℕ) (nothing : empty.entries ≡ []) where
  pub told_alone : (ps : Names) → in_order told ≡ told_before (names_behind 0 ps) (in_order empty) → in_order told ≡ told_names ps
  told_alone ps is = is ∙ ap (λ qs. told_before qs (in_order empty)) (as_they_are ps) ∙ ap (λ es. told_before ps (seen es)) nothing

  pub told_beside : (goal template : ReadAs) (gs ts : Names) (free : ℕ) (behind : BTreeMap (Bor (List ℕ)) ℕ) → gs ≡ goal.1 → ts ≡ template.1 → free ≡ first_free goal.0 →
      in_order behind ≡ told_before (names_behind free ts) (in_order empty) → in_order told ≡ told_before (names_behind 0 gs) (in_order behind) → in_order told ≡ names_beside goal template
  told_beside goal template gs ts free behind a b f of_template of_goal =
      of_goal ∙ ap (λ qs. told_before qs (in_order behind)) (as_they_are gs ∙ a)
      ∙ ap (told_before goal.1) (of_template ∙ ap (λ es. told_before (names_behind free ts) (seen es)) nothing ∙ ap (λ n. told_names (names_behind n ts)) f ∙ ap (λ qs. told_names (names_behind (first_free goal.0) qs)) b)
