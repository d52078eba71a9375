-- The nodes of a goal behind V^.
use Rattle.std.proofs.Common.{◌≡◌, ℕ, ◌<◌, ◌≤◌, Bool, true, false, ◌==◌, List, [], ◌∷◌, ◌++◌, length, drop, get_or, if◌then◌else◌, codes, bytes_eq, refl, ap, sym, subst, ◌∙◌, append_assoc, append-nil, arith}
use Rattle.std.specs.Cmp.Lexicographic.{bytes_decides}
use Rattle.std.proofs.lemmas.Bool.{and_parts, eqb-true}
use Rattle.std.proofs.lemmas.List.{length-append}
use Rattle.term_core.specs.declared.node.Node.{Node}
use Rattle.term_core.specs.Tree.{Tree, variable, integer, atom, compound, Trees, no_trees, tree, arity, IsTerm}
use Rattle.term_core.specs.Flat.{flatten, parse, first_tree, build-flatten, parse-flatten}
use Rattle.term_core.specs.Parts.{symbol_of}
use Rattle.term_core.proofs.Apart.{first_node, some_node}
use Rattle.tree_results.proofs.Cells.{IsNodes, of_term}
use Rattle.tree_results.proofs.Slices.{drop_front}
use Rattle.builtin_table.specs.Errors.{two_arguments}
use Rattle.builtin_table.specs.Solutions.{carets, carets_of, behind_carets, behind_caret}
use Rattle.solve_model.specs.Collecting.{is_caret_node}

-- V^G
abbrev caret : Tree → Tree → Tree
caret v g = two_arguments (codes "^") v g

pub record IsCaret (t : Tree) : Type 0 where
  pub head : Tree
  pub tail : Tree
  pub is : t ≡ caret head tail

caret_by_symbol : (t : Tree) → is_caret_node (symbol_of t) ≡ true → IsCaret t
caret_by_symbol (variable n) h = cc
caret_by_symbol (integer z) h = cc
caret_by_symbol (atom f) h = cc
caret_by_symbol (compound f ts) h =
    let both = and_parts (arity ts == 2) (bytes_eq f (codes "^")) h in
    by ts (eqb-true (arity ts) 2 both.0) ((bytes_decides f (codes "^")).0 both.1)
  where
    by : (ts : Trees) → arity ts ≡ 2 → f ≡ codes "^" → IsCaret (compound f ts)
    by no_trees i j = absurd (omega (arith, i))
    by (tree x no_trees) i j = absurd (omega (arith, i))
    by (tree x (tree y no_trees)) i j = record { head = x; tail = y; is = ap (λ (g : List ℕ). compound g (tree x (tree y no_trees))) j }
    by (tree x (tree y (tree z us))) i j = absurd (omega (arith, i))

symbol_is : (ns : List Node) (n : Node) → IsNodes ns → n ≡ get_or ns 0 n → n ≡ symbol_of (parse ns)
symbol_is ns n h e = first_node (parse ns) n (e ∙ ap (λ ms. get_or ms 0 n) h.are)

pub caret_at : (ns : List Node) (n : Node) → IsNodes ns → n ≡ get_or ns 0 n → is_caret_node n ≡ true → IsCaret (parse ns)
caret_at ns n h e b = caret_by_symbol (parse ns) (ap is_caret_node (sym (symbol_is ns n h e)) ∙ b)

carets-caret : (a b : Tree) → carets (caret a b) ≡ a ∷ carets b
unfolding carets carets_of
carets-caret a b = refl

behind-caret : (a b : Tree) → behind_carets (caret a b) ≡ behind_carets b
unfolding behind_carets behind_caret
behind-caret a b = refl

-- what stands behind the first node
pub head_is : (ns ms : List Node) (h : IsNodes ns) (c : IsCaret (parse ns)) → ms ≡ drop 1 ns → parse ms ≡ c.head
head_is ns ms h c e =
    ap parse (e ∙ ap (drop 1) (h.are ∙ ap flatten c.is)) ∙ ap first_tree (build-flatten c.head (flatten c.tail ++ []))

pub tail_is : (ns ms ls : List Node) (h : IsNodes ns) (c : IsCaret (parse ns)) (k : ℕ) → ms ≡ drop 1 ns → k ≡ length (flatten c.head) → ls ≡ drop k ms → ls ≡ flatten c.tail
tail_is ns ms ls h c k e l d =
    d ∙ ap (λ (i : ℕ). drop i ms) l ∙ ap (drop (length (flatten c.head))) (e ∙ ap (drop 1) (h.are ∙ ap flatten c.is))
    ∙ drop_front (flatten c.head) (flatten c.tail ++ []) ∙ append-nil (flatten c.tail)

pub some_parts : (ns ms : List Node) (h : IsNodes ns) (c : IsCaret (parse ns)) → ms ≡ drop 1 ns → (0 < length ms) × (length (flatten c.head) ≤ length ms)
some_parts ns ms h c e =
    let all : length ms ≡ length (flatten c.head ++ (flatten c.tail ++ [])) = ap length (e ∙ ap (drop 1) (h.are ∙ ap flatten c.is)) in
    let sum = length-append (flatten c.head) (flatten c.tail ++ []) in
    (omega (arith, all, sum, some_node c.head), omega (arith, all, sum))

pub tail_nodes : (ns ms : List Node) (h : IsNodes ns) (c : IsCaret (parse ns)) → ms ≡ flatten c.tail → IsNodes ms
tail_nodes ns ms h c e = of_term c.tail ms e (subst IsTerm c.is h.is_term).2.1.0

-- one V taken
pub carets_more : (ns ms : List Node) (c : IsCaret (parse ns)) (done done' all : List Tree) (a : Tree) → done ++ carets (parse ns) ≡ all → a ≡ c.head → ms ≡ flatten c.tail → done' ≡ done ++ a ∷ [] → done' ++ carets (parse ms) ≡ all
carets_more ns ms c done done' all a e g k d =
    ap (λ xs. xs ++ carets (parse ms)) d
    ∙ append_assoc done (a ∷ []) (carets (parse ms))
    ∙ ap (λ (x : Tree). done ++ x ∷ carets (parse ms)) g
    ∙ ap (λ (t : Tree). done ++ c.head ∷ carets t) (ap parse k ∙ parse-flatten c.tail)
    ∙ ap (λ xs. done ++ xs) (sym (ap carets c.is ∙ carets-caret c.head c.tail))
    ∙ e

pub behind_more : (ns ms : List Node) (c : IsCaret (parse ns)) (r : Tree) → behind_carets (parse ns) ≡ r → ms ≡ flatten c.tail → behind_carets (parse ms) ≡ r
behind_more ns ms c r e k =
    ap behind_carets (ap parse k ∙ parse-flatten c.tail) ∙ sym (ap behind_carets c.is ∙ behind-caret c.head c.tail) ∙ e

-- ---- a goal behind no V^

either : {A : Type 0} (b : Bool) (x : A) → (if b then x else x) ≡ x
either true x = refl
either false x = refl

no_caret : (t : Tree) → is_caret_node (symbol_of t) ≡ false → (carets t ≡ []) × (behind_carets t ≡ t)
unfolding carets carets_of behind_carets behind_caret
no_caret (variable n) h = (refl, refl)
no_caret (integer z) h = (refl, refl)
no_caret (atom f) h = (refl, refl)
no_caret (compound f no_trees) h = (either (bytes_eq f (codes "^")) [], either (bytes_eq f (codes "^")) (compound f no_trees))
no_caret (compound f (tree a no_trees)) h = (either (bytes_eq f (codes "^")) [], either (bytes_eq f (codes "^")) (compound f (tree a no_trees)))
no_caret (compound f (tree a (tree b no_trees))) h =
    (ap (λ (x : Bool). if x then a ∷ carets b else []) h, ap (λ (x : Bool). if x then behind_carets b else compound f (tree a (tree b no_trees))) h)
no_caret (compound f (tree a (tree b (tree d ts)))) h =
    (either (bytes_eq f (codes "^")) [], either (bytes_eq f (codes "^")) (compound f (tree a (tree b (tree d ts)))))

pub carets_end : (ns : List Node) (n : Node) (done all : List Tree) → IsNodes ns → n ≡ get_or ns 0 n → is_caret_node n ≡ false → done ++ carets (parse ns) ≡ all → done ≡ all
carets_end ns n done all h e b d =
    sym (append-nil done) ∙ ap (λ xs. done ++ xs) (sym (no_caret (parse ns) (ap is_caret_node (sym (symbol_is ns n h e)) ∙ b)).0) ∙ d

pub behind_end : (ns : List Node) (n : Node) (r : Tree) → IsNodes ns → n ≡ get_or ns 0 n → is_caret_node n ≡ false → behind_carets (parse ns) ≡ r → parse ns ≡ r
behind_end ns n r h e b d = sym (no_caret (parse ns) (ap is_caret_node (sym (symbol_is ns n h e)) ∙ b)).1 ∙ d
