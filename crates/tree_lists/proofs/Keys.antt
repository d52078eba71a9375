-- Terms sorted by their keys.
use Rattle.std.proofs.Common.{◌≡◌, List, [], ◌∷◌, map, refl, ap, ◌∙◌}
use Rattle.std.specs.List.Sorted.{IsSorted, IsStable}
use Rattle.term_core.specs.Tree.{Tree}
use Rattle.builtin_table.specs.Sorting.{sorted, key_cmp}
use Rattle.builtin_table.proofs.Sorting.{sorted_is, sorted-map}
use Rattle.tree_lists.specs.declared.keyed.Keyed.{Keyed}
use Rattle.tree_lists.specs.Keys.{keyed, keyed_cmp, keyed_cmp_total}

unkeyed : (ts : List Tree) → map (λ (k : Keyed). k.term) (map keyed ts) ≡ ts
unkeyed [] = refl
unkeyed (t ∷ ts) = ap (λ (us : List Tree). t ∷ us) (unkeyed ts)

pub sorted_by_keys : (ts : List Tree) (ks ls : List Keyed) → ks ≡ map keyed ts → IsSorted keyed_cmp ls → IsStable keyed_cmp ks ls → map (λ (k : Keyed). k.term) ls ≡ sorted key_cmp ts
sorted_by_keys ts ks ls e up stable =
    ap (λ (xs : List Keyed). map (λ (k : Keyed). k.term) xs) (sorted_is keyed_cmp keyed_cmp_total ks ls up stable ∙ ap (sorted keyed_cmp) e ∙ sorted-map keyed_cmp keyed ts)
    ∙ unkeyed (sorted key_cmp ts)
