-- Which trees are bodies, by their nodes from the back.
use Rattle.std.proofs.Common.{◌≡◌, ℕ, ◌+◌, ◌-◌, ◌<◌, Bool, true, false, ◌&&◌, List, [], ◌∷◌, ◌++◌, length, drop, get_or, Option, Some, unwrap_or, refl, ap, sym, ◌∙◌, append_assoc, append-nil, arith}
use Rattle.std.specs.List.{list_all}
use Rattle.std.proofs.Math.Seq.{drop-append_seam, take-append_seam}
use Rattle.std.proofs.lemmas.List.{length-append, at_drop_more}
use Rattle.std.proofs.lemmas.List.Folds.{list_all-append}
use Rattle.term_core.specs.declared.node.Node.{Node}
use Rattle.term_core.specs.Tree.{Tree, variable, integer, atom, compound, Trees, no_trees, tree, arity}
use Rattle.term_core.specs.Flat.{flatten, flatten_all}
use Rattle.program.specs.Bodies.{is_body, are_bodies}
use Rattle.program.specs.Symbols.{with_node, node_bodies}

abbrev pub flags : Trees → List Bool
flags no_trees = []
flags (tree t ts) = flags ts ++ is_body t ∷ []

length-flags : (ts : Trees) → length (flags ts) ≡ arity ts
length-flags no_trees = refl
length-flags (tree t ts) = omega (arith, length-append (flags ts) (is_body t ∷ []), length-flags ts)

and_comm : (a b : Bool) → (a && (b && true)) ≡ (b && a)
and_comm true true = refl
and_comm true false = refl
and_comm false true = refl
and_comm false false = refl

all-flags : (ts : Trees) → list_all (λ b. b) (flags ts) ≡ are_bodies ts
unfolding are_bodies
all-flags no_trees = refl
all-flags (tree t ts) =
    list_all-append (λ b. b) (flags ts) (is_body t ∷ []) ∙ ap (λ (b : Bool). b && (is_body t && true)) (all-flags ts) ∙ and_comm (are_bodies ts) (is_body t)

flags_kept : (bs : List Bool) (ts : Trees) → length (bs ++ flags ts) - arity ts ≡ length bs
flags_kept bs ts = omega (arith, length-append bs (flags ts), length-flags ts)

mutual
  unfolding is_body

  pub node_bodies-flatten : (t : Tree) (ns : List Node) → node_bodies (flatten t ++ ns) ≡ node_bodies ns ++ is_body t ∷ []
  node_bodies-flatten (variable n) ns = refl
  node_bodies-flatten (integer z) ns = refl
  node_bodies-flatten (atom f) ns = refl
  node_bodies-flatten (compound f ts) ns =
      rw (node_bodies-flatten_all ts ns, flags_kept (node_bodies ns) ts, take-append_seam (node_bodies ns) (flags ts), drop-append_seam (node_bodies ns) (flags ts), all-flags ts)

  pub node_bodies-flatten_all : (ts : Trees) (ns : List Node) → node_bodies (flatten_all ts ++ ns) ≡ node_bodies ns ++ flags ts
  node_bodies-flatten_all no_trees ns = sym (append-nil (node_bodies ns))
  node_bodies-flatten_all (tree t ts) ns =
      rw (append_assoc (flatten t) (flatten_all ts) ns, node_bodies-flatten t (flatten_all ts ++ ns), node_bodies-flatten_all ts ns)
      (append_assoc (node_bodies ns) (flags ts) (is_body t ∷ []))

-- one node taken from the back
pub node_bodies_back : (ns : List Node) (i : ℕ) (n : Node) (k : ℕ) (bs bs' : List Bool) → i < length ns → n ≡ get_or ns k n → k ≡ length ns - 1 - i → bs ≡ node_bodies (drop (length ns - i) ns) → bs' ≡ with_node n bs → bs' ≡ node_bodies (drop (length ns - (i + 1)) ns)
node_bodies_back ns i n k bs bs' h e j b d =
    let back : length ns - i ≡ k + 1 = omega (arith, h, j) in
    let here : length ns - (i + 1) ≡ k = omega (arith, h, j) in
    rw (d, b, back, here) (ap (λ (x : Node). with_node x (node_bodies (drop (k + 1) ns))) e ∙ sym (at_drop_more node_bodies ns k n (omega (arith, h, j))))

-- the only answer, taken off the end
pub body_popped : (t : Tree) (ns : List Node) (k : ℕ) (bs : List Bool) (n : ℕ) (r : Option Bool) → ns ≡ flatten t → k ≡ 0 → bs ≡ node_bodies (drop k ns) → n ≡ length bs → ((d : Bool) → 0 < n → r ≡ Some (get_or bs (n - 1) d)) → unwrap_or r true ≡ is_body t
body_popped t ns k bs n r e z b l h =
    let one : bs ≡ is_body t ∷ [] =
    b ∙ ap (λ (i : ℕ). node_bodies (drop i ns)) z ∙ ap node_bodies (e ∙ sym (append-nil (flatten t))) ∙ node_bodies-flatten t [] in
    let size : n ≡ 1 = l ∙ ap length one in
    let some : r ≡ Some (is_body t) =
    h true (omega (arith, size)) ∙ ap (λ (i : ℕ). Some (get_or bs (i - 1) true)) size ∙ ap (λ (cs : List Bool). Some (get_or cs 0 true)) one in
    ap (λ (x : Option Bool). unwrap_or x true) some
