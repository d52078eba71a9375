-- The primitives on lists: the results' pairs each begin with one of the arguments.
use Rattle.std.proofs.Common.{pos, length, List, [], ◌∷◌, Result, Ok, Err}
use Rattle.std.specs.List.{Contains}
use Rattle.std.proofs.lemmas.List.Elements.{All-nil}
use Rattle.term_core.specs.Tree.{Tree, integer}
use Rattle.builtin_table.specs.Lists.{elements, rest}
use Rattle.builtin_table.specs.Sorting.{msort_made, sort_made, keysort_made}
use Rattle.builtin_table.specs.Primitives.{skip_list}
use Rattle.tree_offers.specs.Results.{BeginsWith}
use Rattle.tree_offers.proofs.Over.{Over, ball_over, one_over, pair_before, unifies_over}

module _ (ts : List Tree) where
  -- ---- lists

  pub msort_over : (s : Tree) (r : Result (List Tree) Tree) → Contains ts s → Over ts (msort_made s r)
  msort_over s (Ok us) c = unifies_over _ _ c
  msort_over s (Err e) c = ball_over

  pub sort_over : (s : Tree) (r : Result (List Tree) Tree) → Contains ts s → Over ts (sort_made s r)
  sort_over s (Ok us) c = unifies_over _ _ c
  sort_over s (Err e) c = ball_over

  pub keysort_over : (s : Tree) (r : Result (List Tree) Tree) → Contains ts s → Over ts (keysort_made s r)
  keysort_over s (Ok us) c = unifies_over _ _ c
  keysort_over s (Err e) c = ball_over

  pub skip_list_over : (l k t : Tree) → Contains ts k → Contains ts t → Over ts (skip_list l k t)
  skip_list_over l k t c d =
      one_over ((k, integer (pos (length (elements l)))) ∷ (t, rest l) ∷ []) 0
      (pair_before ts k (integer (pos (length (elements l)))) ((t, rest l) ∷ []) c (pair_before ts t (rest l) [] d (All-nil (BeginsWith ts))))
