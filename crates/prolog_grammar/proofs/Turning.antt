-- A tree's nodes with arguments first become its nodes with functors first.
use Rattle.std.specs.Prelude.{◌≡◌, refl, ℕ, suc, ◌+◌, ◌-◌, true, false, nat_lt, List, [], ◌∷◌, ◌++◌, reverse}
use Rattle.std.proofs.Common.{arith, ap, ◌∙◌, sym, append_assoc, append-nil}
use Rattle.std.proofs.lemmas.List.{reverse-append, reverse-reverse}
use Rattle.term_core.specs.declared.node.Node.{Node}
use Rattle.term_core.specs.declared.node.Node.TheVariants.{Comp}
use Rattle.term_core.specs.Tree.{Tree, variable, integer, atom, compound, Trees, no_trees, tree, arity}
use Rattle.term_core.specs.Flat.{flatten, flatten_all}
use Rattle.prolog_grammar.specs.Stack.{postorder, postorder_all}
use Rattle.prolog_grammar.specs.Turn.{Turning, settle, turn, turned}
use Rattle.prolog_grammar.proofs.Steps.{reverse_last}

-- ---- a turn of the loops

pub settle_more : (ys xs : List (Node × ℕ)) (n : Node) (k : ℕ) (out : List Node) → ys ≡ xs ++ (n, k) ∷ [] → nat_lt 1 k ≡ true → settle (reverse ys) out ≡ ((n, k - 1) ∷ reverse xs, out)
unfolding settle
settle_more ys xs n k out e h = rw (e, reverse_last xs (n, k), h) refl

pub settle_last : (ys xs : List (Node × ℕ)) (n : Node) (k : ℕ) (out : List Node) → ys ≡ xs ++ (n, k) ∷ [] → nat_lt 1 k ≡ false → settle (reverse ys) out ≡ settle (reverse xs) (out ++ n ∷ [])
unfolding settle
settle_last ys xs n k out e h = rw (e, reverse_last xs (n, k), h) refl

pub settle_none : (out : List Node) → settle [] out ≡ ([], out)
unfolding settle
settle_none out = refl

pub turned_last : (ys xs : List Node) (n : Node) (x : Turning) → ys ≡ xs ++ n ∷ [] → turned (reverse ys) x ≡ turned (reverse xs) (turn n x)
unfolding turned
turned_last ys xs n x e = rw (e, reverse_last xs n) refl

pub turned_none : (x : Turning) → turned [] x ≡ x
unfolding turned
turned_none x = refl

-- ---- a whole tree

-- the nodes of a tree in reverse, before the reverse of what came before
behind : (a b rest : List Node) → reverse (a ++ b) ++ rest ≡ reverse b ++ (reverse a ++ rest)
behind a b rest = ap (λ l. l ++ rest) (reverse-append a b) ∙ append_assoc (reverse b) (reverse a) rest

more_left : (n : Node) (m : ℕ) (st : List (Node × ℕ)) (out : List Node) → settle ((n, suc (suc m)) ∷ st) out ≡ ((n, suc m) ∷ st, out)
unfolding settle
more_left n m st out =
    let more : nat_lt 1 (suc (suc m)) ≡ true = grind arith in
    let less : suc (suc m) - 1 ≡ suc m = omega arith in
    rw (more, less) refl

last_left : (n : Node) (st : List (Node × ℕ)) (out : List Node) → settle ((n, 1) ∷ st) out ≡ settle st (out ++ n ∷ [])
unfolding settle
last_left n st out = refl

opened : (f : List ℕ) (k : ℕ) (ns : List Node) (st : List (Node × ℕ)) (out : List Node) → turned (Comp f (suc k) ∷ ns) (st, out) ≡ turned ns ((Comp f (suc k), suc k) ∷ st, out)
unfolding turned
opened f k ns st out =
    let some : nat_lt 0 (suc k) ≡ true = grind arith in
    rw some refl

mutual
  unfolding turned postorder

  pub turned_tree : (t : Tree) (rest : List Node) (st : List (Node × ℕ)) (out : List Node) → turned (reverse (postorder t) ++ rest) (st, out) ≡ turned rest (settle st (out ++ reverse (flatten t)))
  turned_tree (variable n) rest st out = refl
  turned_tree (integer z) rest st out = refl
  turned_tree (atom a) rest st out = refl
  turned_tree (compound f no_trees) rest st out = refl
  turned_tree (compound f (tree t ts)) rest st out =
      let n = Comp f (arity (tree t ts)) in
      ap (λ l. turned (l ++ rest) (st, out)) (reverse_last (postorder t ++ postorder_all ts) n)
      ∙ opened f (arity ts) (reverse (postorder t ++ postorder_all ts) ++ rest) st out
      ∙ ap (λ l. turned l ((n, suc (arity ts)) ∷ st, out)) (behind (postorder t) (postorder_all ts) rest)
      ∙ turned_trees ts n 0 (suc (arity ts)) (reverse (postorder t) ++ rest) st out (omega arith)
      ∙ turned_tree t rest ((n, 1) ∷ st) (out ++ reverse (flatten_all ts))
      ∙ ap (turned rest) (last_left n st ((out ++ reverse (flatten_all ts)) ++ reverse (flatten t)))
      ∙ ap (λ l. turned rest (settle st l))
      (rw (append_assoc out (reverse (flatten_all ts)) (reverse (flatten t)), ← reverse-append (flatten t) (flatten_all ts), append_assoc out (reverse (flatten t ++ flatten_all ts)) (n ∷ []), ← reverse-append (n ∷ []) (flatten t ++ flatten_all ts)) refl)

  turned_trees : (ts : Trees) (n : Node) (m k : ℕ) (rest : List Node) (st : List (Node × ℕ)) (out : List Node) → k ≡ suc m + arity ts → turned (reverse (postorder_all ts) ++ rest) ((n, k) ∷ st, out) ≡ turned rest ((n, suc m) ∷ st, out ++ reverse (flatten_all ts))
  turned_trees no_trees n m k rest st out e = rw (e ∙ (let z : suc m + 0 ≡ suc m = omega arith in z), append-nil out) refl
  turned_trees (tree t ts) n m k rest st out e =
      ap (λ l. turned l ((n, k) ∷ st, out)) (behind (postorder t) (postorder_all ts) rest)
      ∙ turned_trees ts n (suc m) k (reverse (postorder t) ++ rest) st out (omega (arith, e))
      ∙ turned_tree t rest ((n, suc (suc m)) ∷ st) (out ++ reverse (flatten_all ts))
      ∙ ap (turned rest) (more_left n m st ((out ++ reverse (flatten_all ts)) ++ reverse (flatten t)))
      ∙ ap (λ l. turned rest ((n, suc m) ∷ st, l)) (rw (append_assoc out (reverse (flatten_all ts)) (reverse (flatten t)), ← reverse-append (flatten t) (flatten_all ts)) refl)

-- all nodes of a tree
pub turned_all : (t : Tree) → reverse (turned (reverse (postorder t)) ([], [])).1 ≡ flatten t
unfolding turned settle
turned_all t =
    ap (λ l. reverse (turned l ([], [])).1) (sym (append-nil (reverse (postorder t)))) ∙ ap (λ x. reverse x.1) (turned_tree t [] [] []) ∙ reverse-reverse (flatten t)
