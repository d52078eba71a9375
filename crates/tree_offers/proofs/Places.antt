-- Results whose places are all arguments'.
use Rattle.std.proofs.Common.{◌≡◌, ℕ, Bool, true, List, [], ◌∷◌, length, map, nat_lt, ap, sym, ◌∙◌, if◌then◌else◌}
use Rattle.std.specs.List.{All, list_all}
use Rattle.std.proofs.lemmas.Bool.{and_parts, ltb-true}
use Rattle.std.proofs.lemmas.List.Elements.{All-cons, All-nil}
use Rattle.term_core.specs.Tree.{Tree}
use Rattle.builtin_table.specs.Primitives.{Offers, Unknown}
use Rattle.tree_offers.specs.Results.{Result, for_arguments, has_places, results_for, HasPlace, HasPlaces}

pairs_within : (n : ℕ) (ps : List (ℕ × Tree)) → list_all (λ p. nat_lt p.0 n) ps ≡ true → All (HasPlace n) ps
pairs_within n [] h = All-nil (HasPlace n)
pairs_within n (p ∷ ps) h =
    let both = and_parts (nat_lt p.0 n) (list_all (λ q. nat_lt q.0 n) ps) h in
    All-cons (HasPlace n) p ps (ltb-true p.0 n both.0) (pairs_within n ps both.1)

pub results_within : (n : ℕ) (rs : List Result) → list_all (has_places n) rs ≡ true → All (HasPlaces n) rs
results_within n [] h = All-nil (HasPlaces n)
results_within n (r ∷ rs) h =
    let both = and_parts (has_places n r) (list_all (has_places n) rs) h in
    All-cons (HasPlaces n) r rs (pairs_within n r.pairs both.0) (results_within n rs both.1)

pub results_are : (ts : List Tree) (rs : List Result) → list_all (has_places (length ts)) rs ≡ true → Offers (map (for_arguments ts) rs) ≡ results_for ts rs
results_are ts rs h =
    ap (λ (b : Bool). if b then Offers (map (for_arguments ts) rs) else Unknown) (sym h)

pub results_for_same : (ts us : List Tree) (rs ns : List Result) → us ≡ ts → ns ≡ rs → list_all (has_places (length us)) rs ≡ true → Offers (map (for_arguments ts) ns) ≡ results_for us rs
results_for_same ts us rs ns e d h = (λ i. Offers (map (for_arguments (sym e i)) (d i))) ∙ results_are us rs h
