-- Cells that are made for a result's terms, one after the other.
use Rattle.std.proofs.Common.{◌≡◌, ℕ, ◌+◌, List, [], ◌∷◌, ◌++◌, map, max, refl, ap, sym, subst, ◌∙◌, arith}
use Rattle.std.specs.List.{All}
use Rattle.std.proofs.lemmas.List.{map-append}
use Rattle.std.proofs.lemmas.List.Elements.{All-nil, All-head, All-tail, All-push, All-weaker}
use Rattle.term_core.specs.Tree.{Tree, variable, integer, atom, compound, Trees, no_trees, tree}
use Rattle.term_core.specs.Substitution.{apply}
use Rattle.term_core.specs.Variables.{map_all_variables, renamed, first_free}
use Rattle.store.specs.Cells.{Cells, tree_of, Keeps, Makes}
use Rattle.store.specs.declared.seen.Offer.{Offer}
use Rattle.tree_offers.specs.Results.{Result, pair_told, PairHasCell, pair_bound, Offered, next_after, IsNext}

mutual
  pub renamed_zero : (t : Tree) → renamed 0 t ≡ t
  renamed_zero (variable n) = ap variable (omega arith)
  renamed_zero (integer z) = refl
  renamed_zero (atom a) = refl
  renamed_zero (compound g ts) = ap (compound g) (all_renamed_zero ts)

  all_renamed_zero : (ts : Trees) → map_all_variables (λ n. n + 0) ts ≡ ts
  all_renamed_zero no_trees = refl
  all_renamed_zero (tree t ts) = (λ i. tree (renamed_zero t i) (all_renamed_zero ts i))

pub Keeps-same : (s : Cells) → Keeps s s
Keeps-same s = record { cells = λ c h. (h, refl); next = omega arith; bound = refl }

pub Keeps-after : (s t u : Cells) → Keeps s t → Keeps t u → Keeps s u
Keeps-after s t u h g = record {
  cells = λ c i. let a = h.cells c i in let b = g.cells c a.0 in (b.0, b.1 ∙ a.1);
  next = omega (arith, h.next, g.next);
  bound = g.bound ∙ h.bound;
}

next_more : (n : ℕ) (ps : List (ℕ × Tree)) (p : ℕ × Tree) → next_after n (ps ++ p ∷ []) ≡ max (next_after n ps) (first_free p.1)
next_more n [] p = refl
next_more n (q ∷ ps) p = next_more (max n (first_free q.1)) ps p

same_trees : (mid new : Cells) → Keeps mid new → (cs : List (ℕ × ℕ)) → All (PairHasCell mid) cs → map (pair_told new) cs ≡ map (pair_told mid) cs
same_trees mid new k [] a = refl
same_trees mid new k (c ∷ cs) a =
    let rest = same_trees mid new k cs (All-tail (PairHasCell mid) c cs a) in
    let here = (k.cells c.1 (All-head (PairHasCell mid) c cs a)).1 in
    (λ i. (c.0, here i) ∷ rest i)

pub none_offered : (s : Cells) → Offered s s [] []
none_offered s = record { trees = refl; cells = All-nil (PairHasCell s); next = refl }

-- one more pair
pub one_offered : (old mid new : Cells) (ps : List (ℕ × Tree)) (cs cs' : List (ℕ × ℕ)) (i c : ℕ) (t : Tree) → Keeps old mid → Offered old mid ps cs → Makes mid new c (apply mid.bound (renamed 0 t)) → new.next ≡ max mid.next (first_free (renamed 0 t)) → cs' ≡ cs ++ (i, c) ∷ [] → Offered old new (ps ++ (i, t) ∷ []) cs'
one_offered old mid new ps cs cs' i c t k o m n e = record {
  trees =
      ap (map (pair_told new)) e
      ∙ map-append (pair_told new) cs ((i, c) ∷ [])
      ∙ (λ j. (same_trees mid new m.keeps cs o.cells ∙ o.trees) j ++ (i, here j) ∷ [])
      ∙ sym (map-append (pair_bound old.bound) ps ((i, t) ∷ []));
  cells = subst (All (PairHasCell new)) (sym e) (All-push (PairHasCell new) cs (i, c) (All-weaker (PairHasCell mid) (PairHasCell new) (λ d h. (m.keeps.cells d.1 h).0) cs o.cells) m.is_cell);
  next = n ∙ (λ j. max (o.next j) (first_free (renamed_zero t j))) ∙ sym (next_more old.next ps (i, t));
} where
  here : tree_of new c ≡ apply old.bound t
  here = m.tree ∙ (λ j. apply (k.bound j) (renamed_zero t j))

-- what is offered has cells
pub cells_of_next : (old new : Cells) (before after : List Result) (o : Offer) → IsNext old new before after o → All (PairHasCell new) o.pairs
cells_of_next old new [] after o h = absurd h
cells_of_next old new (r ∷ rs) after o h = h.0.cells
