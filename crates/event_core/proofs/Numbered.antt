-- Numbering the variables of a term again changes nothing.
use Rattle.std.proofs.Common.{◌≡◌, ℕ, zero, suc, ◌==◌, cond, Bool, true, false, ◌||◌, List, [], ◌∷◌, ◌++◌, map, refl, ap, sym, ◌∙◌}
use Rattle.std.specs.List.{list_any, AllByRecursion}
use Rattle.std.proofs.lemmas.Bool.{eqb-true, eqb-false, eq-eqb, false≢true}
use Rattle.std.proofs.lemmas.List.{map-append}
use Rattle.std.proofs.lemmas.List.Folds.{list_any-append}
use Rattle.term_core.specs.Tree.{Tree, variable, integer, atom, compound, Trees, no_trees, tree}
use Rattle.term_core.specs.Variables.{occurrences, all_occurrences, with_new, distinct_after, variables, map_variables, map_all_variables, place_of, numbered}

abbrev is_among : ℕ → List ℕ → Bool
is_among n ns = list_any (λ m. m == n) ns

abbrev Each : (ℕ → Type 0) → List ℕ → Type 0
Each P ns = AllByRecursion P ns

-- ---- each number is among those that are seen in the end

stays_among : (n m : ℕ) (seen : List ℕ) (b : Bool) → is_among n seen ≡ true → is_among n (cond b seen (seen ++ m ∷ [])) ≡ true
stays_among n m seen true h = h
stays_among n m seen false h = list_any-append (λ k. k == n) seen (m ∷ []) ∙ ap (λ x. x || is_among n (m ∷ [])) h

new_among : (n : ℕ) (seen : List ℕ) (b : Bool) → is_among n seen ≡ b → is_among n (cond b seen (seen ++ n ∷ [])) ≡ true
new_among n seen true h = h
new_among n seen false h =
    list_any-append (λ k. k == n) seen (n ∷ [])
    ∙ ap (λ x. x || is_among n (n ∷ [])) h
    ∙ ap (λ x. x || false) (eq-eqb n n refl)

kept_among : (n : ℕ) (seen ns : List ℕ) → is_among n seen ≡ true → is_among n (distinct_after seen ns) ≡ true
kept_among n seen [] h = h
kept_among n seen (m ∷ ms) h = kept_among n (with_new seen m) ms (stays_among n m seen (is_among m seen) h)

each_seen : (P : ℕ → Type 0) (seen ns : List ℕ) → ((n : ℕ) → is_among n (distinct_after seen ns) ≡ true → P n) → Each P ns
each_seen P seen [] h = tt
each_seen P seen (n ∷ ns) h = (h n (kept_among n (with_new seen n) ns (new_among n seen (is_among n seen) refl)), each_seen P (with_new seen n) ns h)

each_more : (P Q : ℕ → Type 0) (ns : List ℕ) → ((n : ℕ) → P n → Q n) → Each P ns → Each Q ns
each_more P Q [] f h = tt
each_more P Q (n ∷ ns) f h = (f n h.0, each_more P Q ns f h.1)

each_one_more : (P : ℕ → Type 0) (ns : List ℕ) (n : ℕ) → Each P ns → P n → Each P (ns ++ n ∷ [])
each_one_more P [] n h p = (p, tt)
each_one_more P (m ∷ ms) n h p = (h.0, each_one_more P ms n h.1 p)

each_new : (P : ℕ → Type 0) (seen : List ℕ) (n : ℕ) (b : Bool) → Each P seen → P n → Each P (cond b seen (seen ++ n ∷ []))
each_new P seen n true h p = h
each_new P seen n false h p = each_one_more P seen n h p

each_distinct : (P : ℕ → Type 0) (seen ns : List ℕ) → Each P seen → Each P ns → Each P (distinct_after seen ns)
each_distinct P seen [] h k = h
each_distinct P seen (n ∷ ns) h k = each_distinct P (with_new seen n) ns (each_new P seen n (is_among n seen) h k.0) k.1

each_first : (P : ℕ → Type 0) (ms ns : List ℕ) → Each P (ms ++ ns) → Each P ms
each_first P [] ns h = tt
each_first P (m ∷ ms) ns h = (h.0, each_first P ms ns h.1)

each_behind : (P : ℕ → Type 0) (ms ns : List ℕ) → Each P (ms ++ ns) → Each P ns
each_behind P [] ns h = h
each_behind P (m ∷ ms) ns h = each_behind P ms ns h.1

-- ---- the number at a place

abbrev number_at : ℕ → List ℕ → ℕ
number_at k [] = 0
number_at zero (n ∷ ns) = n
number_at (suc k) (n ∷ ns) = number_at k ns

back : (n : ℕ) (ns : List ℕ) → is_among n ns ≡ true → number_at (place_of n ns) ns ≡ n
back n [] h = absurd (false≢true h)
back n (m ∷ ms) h = by (m == n) refl h (back n ms)
  where
    by : (b : Bool) → (m == n) ≡ b → (b || is_among n ms) ≡ true → (is_among n ms ≡ true → number_at (place_of n ms) ms ≡ n) → number_at (cond b 0 (suc (place_of n ms))) (m ∷ ms) ≡ n
    by true e k go = eqb-true m n e
    by false e k go = go k

-- ---- numbers that stand for others, one for one: g leads back

module _ (f g : ℕ → ℕ) where
  abbrev Undone : ℕ → Type 0
  Undone n = g (f n) ≡ n

  same_test : (m n : ℕ) → Undone m → Undone n → (f m == f n) ≡ (m == n)
  same_test m n h k = by (f m == f n) (m == n) refl refl
    where
      by : (b c : Bool) → (f m == f n) ≡ b → (m == n) ≡ c → b ≡ c
      by true true d e = refl
      by false false d e = refl
      by true false d e = absurd (eqb-false m n e (sym h ∙ ap g (eqb-true (f m) (f n) d) ∙ k))
      by false true d e = absurd (eqb-false (f m) (f n) d (ap f (eqb-true m n e)))

  same_among : (n : ℕ) (ms : List ℕ) → Undone n → Each Undone ms → is_among (f n) (map f ms) ≡ is_among n ms
  same_among n [] h k = refl
  same_among n (m ∷ ms) h k = ap (λ b. b || is_among (f n) (map f ms)) (same_test m n k.0 h) ∙ ap (λ b. (m == n) || b) (same_among n ms h k.1)

  same_new : (seen : List ℕ) (n : ℕ) → Each Undone seen → Undone n → with_new (map f seen) (f n) ≡ map f (with_new seen n)
  same_new seen n k h = ap (λ b. cond b (map f seen) (map f seen ++ f n ∷ [])) (same_among n seen h k) ∙ by (is_among n seen)
    where
      by : (b : Bool) → cond b (map f seen) (map f seen ++ f n ∷ []) ≡ map f (cond b seen (seen ++ n ∷ []))
      by true = refl
      by false = sym (map-append f seen (n ∷ []))

  same_distinct : (seen ns : List ℕ) → Each Undone seen → Each Undone ns → distinct_after (map f seen) (map f ns) ≡ map f (distinct_after seen ns)
  same_distinct seen [] k h = refl
  same_distinct seen (n ∷ ns) k h =
      ap (λ s. distinct_after s (map f ns)) (same_new seen n k h.0)
      ∙ same_distinct (with_new seen n) ns (each_new Undone seen n (is_among n seen) k h.0) h.1

  same_place : (n : ℕ) (ms : List ℕ) → Undone n → Each Undone ms → place_of (f n) (map f ms) ≡ place_of n ms
  same_place n [] h k = refl
  same_place n (m ∷ ms) h k =
      ap (λ b. cond b 0 (suc (place_of (f n) (map f ms)))) (same_test m n k.0 h)
      ∙ ap (λ p. cond (m == n) 0 (suc p)) (same_place n ms h k.1)

-- ---- a term

module _ (f : ℕ → ℕ) where
  mutual
    occurrences_map : (t : Tree) → occurrences (map_variables f t) ≡ map f (occurrences t)
    occurrences_map (variable n) = refl
    occurrences_map (integer z) = refl
    occurrences_map (atom a) = refl
    occurrences_map (compound a ts) = all_occurrences_map ts

    all_occurrences_map : (ts : Trees) → all_occurrences (map_all_variables f ts) ≡ map f (all_occurrences ts)
    all_occurrences_map no_trees = refl
    all_occurrences_map (tree t ts) =
        ap (λ ns. ns ++ all_occurrences (map_all_variables f ts)) (occurrences_map t)
        ∙ ap (λ ns. map f (occurrences t) ++ ns) (all_occurrences_map ts)
        ∙ sym (map-append f (occurrences t) (all_occurrences ts))

  module _ (h : ℕ → ℕ) where
    abbrev Steady : ℕ → Type 0
    Steady n = h (f n) ≡ f n

    mutual
      map_twice : (t : Tree) → Each Steady (occurrences t) → map_variables h (map_variables f t) ≡ map_variables f t
      map_twice (variable n) k = ap variable k.0
      map_twice (integer z) k = refl
      map_twice (atom a) k = refl
      map_twice (compound a ts) k = ap (compound a) (map_all_twice ts k)

      map_all_twice : (ts : Trees) → Each Steady (all_occurrences ts) → map_all_variables h (map_all_variables f ts) ≡ map_all_variables f ts
      map_all_twice no_trees k = refl
      map_all_twice (tree t ts) k =
          ap (λ u. tree u (map_all_variables h (map_all_variables f ts))) (map_twice t (each_first Steady (occurrences t) (all_occurrences ts) k))
          ∙ ap (λ us. tree (map_variables f t) us) (map_all_twice ts (each_behind Steady (occurrences t) (all_occurrences ts) k))

pub numbered_twice : (t : Tree) → numbered (numbered t) ≡ numbered t
numbered_twice t = map_twice f (λ n. place_of n (variables (numbered t))) t (each_more Undone_by (λ n. place_of (f n) (variables (numbered t)) ≡ f n) (occurrences t) steady all)
  where
    f : ℕ → ℕ
    f n = place_of n (variables t)

    g : ℕ → ℕ
    g k = number_at k (variables t)

    Undone_by : ℕ → Type 0
    Undone_by n = g (f n) ≡ n

    all : Each Undone_by (occurrences t)
    all = each_seen Undone_by [] (occurrences t) (λ n h. back n (variables t) h)

    same : variables (numbered t) ≡ map f (variables t)
    same = ap (distinct_after []) (occurrences_map f t) ∙ same_distinct f g [] (occurrences t) tt all

    steady : (n : ℕ) → Undone_by n → place_of (f n) (variables (numbered t)) ≡ f n
    steady n h = ap (λ ms. place_of (f n) ms) same ∙ same_place f g n (variables t) h (each_distinct Undone_by [] (occurrences t) tt all)
