-- A tree's value, read off its nodes from the back.
use Rattle.std.proofs.Common.{◌≡◌, ℕ, ◌+◌, ◌-◌, ◌<◌, List, [], ◌∷◌, ◌++◌, length, drop, get_or, reverse, Option, Some, unwrap_or, refl, ap, sym, ◌∙◌, append_assoc, append-nil, arith}
use Rattle.std.proofs.lemmas.List.{length-append, length-reverse, at_drop_more, reverse-append, reverse-reverse}
use Rattle.term_core.specs.declared.node.Node.{Node}
use Rattle.term_core.specs.Tree.{Tree, variable, integer, atom, compound, Trees, no_trees, tree, arity}
use Rattle.term_core.specs.Flat.{flatten, flatten_all}
use Rattle.builtin_table.specs.Arithmetic.{Value, value_of, values_of, applied, not_evaluable}
use Rattle.tree_values.specs.Values.{with_node, node_values}
use Rattle.tree_results.proofs.Slices.{take_front, drop_front}

-- a functor without a value for so many arguments
others : (f : List ℕ) (ws : List Value) → (length ws ≡ 1 → ⊥) → (length ws ≡ 2 → ⊥) → not_evaluable f (length ws) ≡ applied f ws
unfolding applied
others f [] h k = refl
others f (v ∷ []) h k = absurd (h refl)
others f (v ∷ w ∷ []) h k = absurd (k refl)
others f (v ∷ w ∷ u ∷ ws) h k = refl

pub other_applied : (f : List ℕ) (vs : List Value) → (length vs ≡ 1 → ⊥) → (length vs ≡ 2 → ⊥) → not_evaluable f (length vs) ≡ applied f (reverse vs)
other_applied f vs h k =
    ap (not_evaluable f) (sym (length-reverse vs)) ∙ others f (reverse vs) (λ e. h (sym (length-reverse vs) ∙ e)) (λ e. k (sym (length-reverse vs) ∙ e))

length-values_of : (ts : Trees) → length (values_of ts) ≡ arity ts
unfolding values_of
length-values_of no_trees = refl
length-values_of (tree t ts) = omega (arith, length-values_of ts)

kept : (vs : List Value) (ts : Trees) → length (vs ++ reverse (values_of ts)) - arity ts ≡ length vs
kept vs ts = omega (arith, length-append vs (reverse (values_of ts)), length-reverse (values_of ts), length-values_of ts)

mutual
  unfolding value_of values_of

  pub node_values-flatten : (t : Tree) (ns : List Node) → node_values (flatten t ++ ns) ≡ node_values ns ++ value_of t ∷ []
  node_values-flatten (variable n) ns = refl
  node_values-flatten (integer z) ns = refl
  node_values-flatten (atom f) ns = refl
  node_values-flatten (compound f ts) ns =
      rw (node_values-flatten_all ts ns, kept (node_values ns) ts, take_front (node_values ns) (reverse (values_of ts)), drop_front (node_values ns) (reverse (values_of ts)), reverse-reverse (values_of ts))

  pub node_values-flatten_all : (ts : Trees) (ns : List Node) → node_values (flatten_all ts ++ ns) ≡ node_values ns ++ reverse (values_of ts)
  node_values-flatten_all no_trees ns = sym (append-nil (node_values ns))
  node_values-flatten_all (tree t ts) ns =
      rw (append_assoc (flatten t) (flatten_all ts) ns, node_values-flatten t (flatten_all ts ++ ns), node_values-flatten_all ts ns, reverse-append (value_of t ∷ []) (values_of ts))
      (append_assoc (node_values ns) (reverse (values_of ts)) (value_of t ∷ []))

-- one node taken from the back
pub node_values_back : (ns : List Node) (i : ℕ) (n : Node) (k : ℕ) (vs vs' : List Value) → i < length ns → n ≡ get_or ns k n → k ≡ length ns - 1 - i → vs ≡ node_values (drop (length ns - i) ns) → vs' ≡ with_node n vs → vs' ≡ node_values (drop (length ns - (i + 1)) ns)
node_values_back ns i n k vs vs' h e j b d =
    let back : length ns - i ≡ k + 1 = omega (arith, h, j) in
    let here : length ns - (i + 1) ≡ k = omega (arith, h, j) in
    rw (d, b, back, here) (ap (λ (x : Node). with_node x (node_values (drop (k + 1) ns))) e ∙ sym (at_drop_more node_values ns k n (omega (arith, h, j))))

-- the only value, taken off the end
pub value_popped : (t : Tree) (ns : List Node) (k : ℕ) (vs : List Value) (n : ℕ) (r : Option Value) (w : Value) → ns ≡ flatten t → k ≡ 0 → vs ≡ node_values (drop k ns) → n ≡ length vs → ((d : Value) → 0 < n → r ≡ Some (get_or vs (n - 1) d)) → unwrap_or r w ≡ value_of t
value_popped t ns k vs n r w e z b l h =
    let one : vs ≡ value_of t ∷ [] =
    b ∙ ap (λ (i : ℕ). node_values (drop i ns)) z ∙ ap node_values (e ∙ sym (append-nil (flatten t))) ∙ node_values-flatten t [] in
    let size : n ≡ 1 = l ∙ ap length one in
    let some : r ≡ Some (value_of t) =
    h w (omega (arith, size)) ∙ ap (λ (i : ℕ). Some (get_or vs (i - 1) w)) size ∙ ap (λ (cs : List Value). Some (get_or cs 0 w)) one in
    ap (λ (x : Option Value). unwrap_or x w) some
