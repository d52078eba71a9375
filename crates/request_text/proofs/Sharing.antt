-- The names that a goal and its template share, found from the last one.
use Rattle.std.proofs.Common.{◌≡◌, ℕ, ◌+◌, ◌-◌, ◌<◌, ◌==◌, cond, List, ◌∷◌, length, map, drop, get_or, unwrap_or, Option, Some, None, String, BTreeMap, ap, sym, ◌∙◌, arith}
use Rattle.std.specs.Str.{bytes_eq}
use Rattle.std.specs.Map.{update}
use Rattle.std.specs.Ordering.{nat_cmp}
use Rattle.std.specs.BTreeMap.{get_by_text, is_at}
use Rattle.std.proofs.lemmas.Bool.Decides.{nat_tests}
use Rattle.std.proofs.lemmas.List.{at_drop_more}
use Rattle.term_core.specs.declared.node.Node.{Node}
use Rattle.term_core.specs.Tree.{Tree, variable, integer, atom, compound}
use Rattle.term_core.specs.Flat.{flatten}
use Rattle.term_core.specs.Nodes.{map_node}
use Rattle.term_core.specs.Variables.{first_free}
use Rattle.term_core.proofs.Storing.{mapped_nodes}
use Rattle.prolog_read.specs.Variables.{Names, lookup}
use Rattle.prolog_read.specs.Outcome.{ReadAs}
use Rattle.request_text.specs.Templates.{shared, number_beside, beside}

-- what a function has of the elements from one on, by what it has of those behind it
pub one_back : {X Y : Type 0} (F : List X → Y) (xs : List X) (i : ℕ) (x : X) → i < length xs → x ≡ get_or xs (length xs - 1 - i) x → F (drop (length xs - (i + 1)) xs) ≡ F (x ∷ drop (length xs - i) xs)
one_back F xs i x lt is =
    let j = length xs - (i + 1) in
    let at : length xs - 1 - i ≡ j = omega arith in
    let more : j + 1 ≡ length xs - i = omega arith in
    at_drop_more F xs j x (omega arith)
    ∙ ap (λ y. F (y ∷ drop (j + 1) xs)) (sym (is ∙ ap (λ k. get_or xs k x) at))
    ∙ ap (λ k. F (x ∷ drop k xs)) more

at_number : (n q : ℕ) → is_at (nat_cmp n) q ≡ (n == q)
at_number n q = grind (arith, nat_tests)

module _ (ps : Names) (i : ℕ) (p : List ℕ × ℕ) (lt : i < length ps) (is : p ≡ get_or ps (length ps - 1 - i) p) where
  -- a name more in an index
  pub indexed : {Y : Type 0} (old new : BTreeMap (String Y) ℕ) → ((v : List ℕ) → get_by_text old v ≡ lookup v (drop (length ps - i) ps)) → ((v : List ℕ) → get_by_text new v ≡ update bytes_eq (get_by_text old) p.0 (Some p.1) v) → (v : List ℕ) → get_by_text new v ≡ lookup v (drop (length ps - (i + 1)) ps)
  indexed old new so_far sets v =
      sets v ∙ ap (λ o. cond (bytes_eq p.0 v) (Some p.1) o) (so_far v) ∙ sym (one_back (lookup v) ps i p lt is)

  module _ (goal : Names) (old : ℕ → Option ℕ) (so_far : (n : ℕ) → old n ≡ shared goal (drop (length ps - i) ps) n) where
    by_name : (o : Option ℕ) → lookup p.0 goal ≡ o → (n : ℕ) → shared goal (drop (length ps - (i + 1)) ps) n ≡ elim o [ None ↦ shared goal (drop (length ps - i) ps) n | Some k ↦ cond (p.1 == n) (Some k) (shared goal (drop (length ps - i) ps) n) ]
    by_name o e n =
        one_back (λ qs. shared goal qs n) ps i p lt is
        ∙ ap (λ r. elim r [ None ↦ shared goal (drop (length ps - i) ps) n | Some k ↦ cond (p.1 == n) (Some k) (shared goal (drop (length ps - i) ps) n) ]) e

    -- a name that the goal has, and one that it hasn't
    pub shared_more : (new : ℕ → Option ℕ) (k : ℕ) → lookup p.0 goal ≡ Some k → ((n : ℕ) → new n ≡ cond (is_at (nat_cmp p.1) n) (Some k) (old n)) → (n : ℕ) → new n ≡ shared goal (drop (length ps - (i + 1)) ps) n
    shared_more new k e sets n =
        sets n ∙ ap (λ b. cond b (Some k) (old n)) (at_number p.1 n) ∙ ap (cond (p.1 == n) (Some k)) (so_far n) ∙ sym (by_name (Some k) e n)

    pub shared_passed : lookup p.0 goal ≡ None → (n : ℕ) → old n ≡ shared goal (drop (length ps - (i + 1)) ps) n
    shared_passed e n = so_far n ∙ sym (by_name None e n)

-- the nodes of a template beside its goal
module _ (goal template : ReadAs) (found : ℕ → Option ℕ) (free : ℕ) (gs ts : Names) (ns ms : List Node) where
  pub nodes_beside : gs ≡ goal.1 → ts ≡ template.1 → ((n : ℕ) → found n ≡ shared gs ts n) → free ≡ first_free goal.0 → ns ≡ flatten template.0 → ms ≡ map (map_node (λ n. unwrap_or (found n) (free + n))) ns → ms ≡ flatten (beside goal template)
  nodes_beside a b each free_is from made =
      let known : (n : ℕ) → found n ≡ shared goal.1 template.1 n = λ n. each n ∙ (λ i. shared (a i) (b i) n) in
      let same : (λ n. unwrap_or (found n) (free + n)) ≡ number_beside goal template = λ i n. unwrap_or (known n i) (free_is i + n) in
      mapped_nodes (number_beside goal template) template.0 ns ms from (made ∙ ap (λ f. map (map_node f) ns) same)

pub some_nodes : (t : Tree) (ns : List Node) → ns ≡ flatten t → 0 < length ns
some_nodes t ns e = rw e (some t)
  where
    some : (t : Tree) → 0 < length (flatten t)
    some (variable n) = omega arith
    some (integer z) = omega arith
    some (atom a) = omega arith
    some (compound f ts) = omega arith
