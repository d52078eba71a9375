-- What a body hands on, by its indicator and arguments.
use Rattle.std.proofs.Common.{◌≡◌, ℕ, ◌≤◌, min, length, drop, Bool, true, false, ◌&&◌, ◌==◌, List, [], ◌∷◌, map, ℤ, if◌then◌else◌, Some, None, refl, ap, sym, ◌∙◌}
use Rattle.std.specs.List.{list_all}
use Rattle.term_core.specs.declared.pi.Pi.{Pi}
use Rattle.term_core.specs.Tree.{Tree, variable, integer, atom, compound, Trees, no_trees, tree, arity, tree_list}
use Rattle.term_core.specs.Parts.{arguments_of}
use Rattle.builtin_table.specs.Table.{Rows}
use Rattle.program.specs.Bodies.{is_connective}
use Rattle.program.specs.Clauses.{indicator_of}
use Rattle.sandbox_walk.specs.Shown.{declared_kind, indicator}
use Rattle.sandbox_walk.specs.Keeping.{is_known, has_goal, hands_on, all_hand_on, hands_arguments, run_kinds}
use Rattle.library_check.proofs.Lists.{both_end, none_of, first_of_two, second_of_two}

module _ (rows : Rows) (given : ℕ → ℕ → Bool) where
  all_by : (ts : Trees) → all_hand_on rows given ts ≡ list_all (hands_on rows given) (tree_list ts)
  unfolding hands_on
  all_by no_trees = refl
  all_by (tree t ts) = ap (λ (b : Bool). hands_on rows given t && b) (all_by ts)

  nothing_more : (a b : Bool) → a ≡ (a && (if b then true else true))
  nothing_more true true = refl
  nothing_more true false = refl
  nothing_more false b = refl

  abbrev hands_as : Pi → List Tree → Bool
  hands_as i ts = is_known i && (if is_connective i.name && i.arity == 2 then list_all (hands_on rows given) ts else hands_arguments given ts (run_kinds rows i))

  hands_by : (t : Tree) (i : Pi) → indicator_of t ≡ Some i → hands_on rows given t ≡ hands_as i (arguments_of t)
  unfolding hands_on
  hands_by (variable n) i e = cc
  hands_by (integer z) i e = cc
  hands_by (atom f) i e =
      let q : i ≡ indicator f 0 = cc in
      nothing_more (is_known (indicator f 0)) (is_connective f && 0 == 2) ∙ ap (λ (j : Pi). hands_as j []) (sym q)
  hands_by (compound f ts) i e =
      let q : i ≡ indicator f (arity ts) = cc in
      ap (λ (b : Bool). is_known (indicator f (arity ts)) && (if is_connective f && arity ts == 2 then b else hands_arguments given (tree_list ts) (run_kinds rows (indicator f (arity ts))))) (all_by ts)
      ∙ ap (λ (j : Pi). hands_as j (tree_list ts)) (sym q)

  pub hands_none : (t : Tree) → indicator_of t ≡ None → false ≡ hands_on rows given t
  unfolding hands_on
  hands_none (variable n) e = refl
  hands_none (integer z) e = refl
  hands_none (atom f) e = cc
  hands_none (compound f ts) e = cc

  module _ (t : Tree) (i : Pi) (of : indicator_of t ≡ Some i) where
    pub hands_unknown : is_known i ≡ false → false ≡ hands_on rows given t
    hands_unknown k =
        none_of (is_known i) (if is_connective i.name && i.arity == 2 then list_all (hands_on rows given) (arguments_of t) else hands_arguments given (arguments_of t) (run_kinds rows i)) k
        ∙ sym (hands_by t i of)

    pub hands_parts : (args : List Tree) → is_known i ≡ true → (is_connective i.name && i.arity == 2) ≡ true → args ≡ arguments_of t → list_all (hands_on rows given) args ≡ hands_on rows given t
    hands_parts args k c a =
        ap (list_all (hands_on rows given)) a
        ∙ sym (hands_by t i of ∙ first_of_two (is_known i) (is_connective i.name && i.arity == 2) (list_all (hands_on rows given) (arguments_of t)) (hands_arguments given (arguments_of t) (run_kinds rows i)) k c)

    pub hands_literal : (args : List Tree) (ms : List ℤ) (b : Bool) → is_known i ≡ true → (is_connective i.name && i.arity == 2) ≡ false → args ≡ arguments_of t → map declared_kind ms ≡ run_kinds rows i →
        b ≡ hands_arguments given args (map declared_kind ms) → b ≡ hands_on rows given t
    hands_literal args ms b k c a m h =
        h ∙ ap (λ (us : List Tree). hands_arguments given us (map declared_kind ms)) a ∙ ap (hands_arguments given (arguments_of t)) m
        ∙ sym (hands_by t i of ∙ second_of_two (is_known i) (is_connective i.name && i.arity == 2) (list_all (hands_on rows given) (arguments_of t)) (hands_arguments given (arguments_of t) (run_kinds rows i)) k c)

-- ---- behind the last argument that has a goal position

module _ (ts : List Tree) (ms : List ℤ) (i : ℕ) (past : min (length ts) (length ms) ≤ i) where
  pub no_goal_left : (n k : ℕ) → has_goal (drop i ts) (map declared_kind (drop i ms)) n k ≡ false
  no_goal_left n k = both_end (λ us vs. has_goal us (map declared_kind vs) n k) false (λ vs. refl) ends ts ms i past
    where
      ends : (us : List Tree) → has_goal us [] n k ≡ false
      ends [] = refl
      ends (u ∷ us) = refl

  pub no_argument_left : (given : ℕ → ℕ → Bool) → hands_arguments given (drop i ts) (map declared_kind (drop i ms)) ≡ true
  no_argument_left given = both_end (λ us vs. hands_arguments given us (map declared_kind vs)) true (λ vs. refl) ends ts ms i past
    where
      ends : (us : List Tree) → hands_arguments given us [] ≡ true
      ends [] = refl
      ends (u ∷ us) = refl
