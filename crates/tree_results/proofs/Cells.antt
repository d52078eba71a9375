-- The nodes of a list's cells.
use Rattle.std.proofs.Common.{◌≡◌, ℕ, suc, ◌+◌, ◌<◌, ◌≤◌, Bool, true, false, ◌==◌, List, [], ◌∷◌, ◌++◌, length, drop, get_or, if◌then◌else◌, codes, bytes_eq, refl, ap, sym, subst, ◌∙◌, append_assoc, append-nil, drop-cons, arith}
use Rattle.std.specs.Cmp.Lexicographic.{bytes_decides}
use Rattle.std.proofs.lemmas.Bool.{and_parts, eqb-true}
use Rattle.std.specs.Prelude.{All}
use Rattle.std.proofs.lemmas.List.{length-append, drop_all}
use Rattle.std.proofs.lemmas.List.Elements.{All-head, All-tail}
use Rattle.term_core.specs.declared.node.Node.{Node}
use Rattle.term_core.specs.declared.node.Node.TheVariants as node
use Rattle.term_core.specs.Tree.{Tree, variable, integer, atom, compound, Trees, no_trees, tree, arity, IsTerm}
use Rattle.term_core.specs.Flat.{flatten, parse, first_tree, build-flatten, parse-flatten}
use Rattle.term_core.specs.Parts.{symbol_of}
use Rattle.term_core.specs.Preorder.{AreTermNodes}
use Rattle.term_core.proofs.Preorder.{AreTermNodes-flatten}
use Rattle.term_core.proofs.Apart.{first_node, some_node}
use Rattle.builtin_table.specs.Lists.{cell, list_of, elements, elements_of_cell, rest, rest_of_cell}
use Rattle.tree_results.specs.Cells.{is_cell_node}
use Rattle.tree_results.proofs.Slices.{drop_front}

-- these are the nodes of one term
pub record IsNodes (ns : List Node) : Type 0 where
  pub are : ns ≡ flatten (parse ns)
  pub is_term : IsTerm (parse ns)

pub of_term : (t : Tree) (ns : List Node) → ns ≡ flatten t → IsTerm t → IsNodes ns
of_term t ns e h =
    let same : parse ns ≡ t = ap parse e ∙ parse-flatten t in
    record { are = e ∙ ap flatten (sym same); is_term = subst IsTerm (sym same) h }

pub some : (ns : List Node) → IsNodes ns → 0 < length ns
some ns h = omega (arith, some_node (parse ns), ap length h.are)

pub all_nodes : (ns : List Node) → IsNodes ns → AreTermNodes ns
all_nodes ns h = AreTermNodes-flatten (parse ns) ns h.are h.is_term

-- a cell has an element and a rest
pub record IsCell (t : Tree) : Type 0 where
  pub head : Tree
  pub tail : Tree
  pub is : t ≡ cell head tail

cell_by_symbol : (t : Tree) → is_cell_node (symbol_of t) ≡ true → IsCell t
cell_by_symbol (variable n) h = cc
cell_by_symbol (integer z) h = cc
cell_by_symbol (atom f) h = cc
cell_by_symbol (compound f ts) h =
    let both = and_parts (arity ts == 2) (bytes_eq f (codes ".")) h in
    by ts (eqb-true (arity ts) 2 both.0) ((bytes_decides f (codes ".")).0 both.1)
  where
    by : (ts : Trees) → arity ts ≡ 2 → f ≡ codes "." → IsCell (compound f ts)
    by no_trees i j = absurd (omega (arith, i))
    by (tree x no_trees) i j = absurd (omega (arith, i))
    by (tree x (tree y no_trees)) i j = record { head = x; tail = y; is = ap (λ (g : List ℕ). compound g (tree x (tree y no_trees))) j }
    by (tree x (tree y (tree z us))) i j = absurd (omega (arith, i))

symbol_is : (ns : List Node) (n : Node) → IsNodes ns → n ≡ get_or ns 0 n → n ≡ symbol_of (parse ns)
symbol_is ns n h e = first_node (parse ns) n (e ∙ ap (λ ms. get_or ms 0 n) h.are)

pub cell_of : (ns : List Node) (n : Node) → IsNodes ns → n ≡ get_or ns 0 n → is_cell_node n ≡ true → IsCell (parse ns)
cell_of ns n h e b = cell_by_symbol (parse ns) (ap is_cell_node (sym (symbol_is ns n h e)) ∙ b)

elements-cell : (a b : Tree) → elements (cell a b) ≡ a ∷ elements b
unfolding elements elements_of_cell
elements-cell a b = refl

rest-cell : (a b : Tree) → rest (cell a b) ≡ rest b
unfolding rest rest_of_cell
rest-cell a b = refl

-- what stands behind a cell's first node
pub head_is : (ns ms : List Node) (h : IsNodes ns) (c : IsCell (parse ns)) → ms ≡ drop 1 ns → parse ms ≡ c.head
head_is ns ms h c e =
    ap parse (e ∙ ap (drop 1) (h.are ∙ ap flatten c.is)) ∙ ap first_tree (build-flatten c.head (flatten c.tail ++ []))

pub tail_is : (ns ms ls : List Node) (h : IsNodes ns) (c : IsCell (parse ns)) (k : ℕ) → ms ≡ drop 1 ns → k ≡ length (flatten c.head) → ls ≡ drop k ms → ls ≡ flatten c.tail
tail_is ns ms ls h c k e l d =
    d ∙ ap (λ (i : ℕ). drop i ms) l ∙ ap (drop (length (flatten c.head))) (e ∙ ap (drop 1) (h.are ∙ ap flatten c.is))
    ∙ drop_front (flatten c.head) (flatten c.tail ++ []) ∙ append-nil (flatten c.tail)

pub some_parts : (ns ms : List Node) (h : IsNodes ns) (c : IsCell (parse ns)) → ms ≡ drop 1 ns → (0 < length ms) × (length (flatten c.head) ≤ length ms)
some_parts ns ms h c e =
    let all : length ms ≡ length (flatten c.head ++ (flatten c.tail ++ [])) = ap length (e ∙ ap (drop 1) (h.are ∙ ap flatten c.is)) in
    let sum = length-append (flatten c.head) (flatten c.tail ++ []) in
    (omega (arith, all, sum, some_node c.head), omega (arith, all, sum))

pub tail_nodes : (ns ms : List Node) (h : IsNodes ns) (c : IsCell (parse ns)) → ms ≡ flatten c.tail → IsNodes ms
tail_nodes ns ms h c e = of_term c.tail ms e (subst IsTerm c.is h.is_term).2.1.0

-- one element taken
pub elements_more : (ns ms : List Node) (c : IsCell (parse ns)) (done done' all : List Tree) (a : Tree) → done ++ elements (parse ns) ≡ all → a ≡ c.head → ms ≡ flatten c.tail → done' ≡ done ++ a ∷ [] → done' ++ elements (parse ms) ≡ all
elements_more ns ms c done done' all a e g k d =
    ap (λ xs. xs ++ elements (parse ms)) d
    ∙ append_assoc done (a ∷ []) (elements (parse ms))
    ∙ ap (λ (x : Tree). done ++ x ∷ elements (parse ms)) g
    ∙ ap (λ (t : Tree). done ++ c.head ∷ elements t) (ap parse k ∙ parse-flatten c.tail)
    ∙ ap (λ xs. done ++ xs) (sym (ap elements c.is ∙ elements-cell c.head c.tail))
    ∙ e

pub rest_more : (ns ms : List Node) (c : IsCell (parse ns)) (r : Tree) → rest (parse ns) ≡ r → ms ≡ flatten c.tail → rest (parse ms) ≡ r
rest_more ns ms c r e k = ap rest (ap parse k ∙ parse-flatten c.tail) ∙ sym (ap rest c.is ∙ rest-cell c.head c.tail) ∙ e

-- ---- a term that is no cell

either : {A : Type 0} (b : Bool) (x : A) → (if b then x else x) ≡ x
either true x = refl
either false x = refl

no_cell : (t : Tree) → is_cell_node (symbol_of t) ≡ false → (elements t ≡ []) × (rest t ≡ t)
unfolding elements elements_of_cell rest rest_of_cell
no_cell (variable n) h = (refl, refl)
no_cell (integer z) h = (refl, refl)
no_cell (atom f) h = (refl, refl)
no_cell (compound f no_trees) h = (either (bytes_eq f (codes ".")) [], either (bytes_eq f (codes ".")) (compound f no_trees))
no_cell (compound f (tree a no_trees)) h = (either (bytes_eq f (codes ".")) [], either (bytes_eq f (codes ".")) (compound f (tree a no_trees)))
no_cell (compound f (tree a (tree b no_trees))) h =
    (ap (λ (x : Bool). if x then a ∷ elements b else []) h, ap (λ (x : Bool). if x then rest b else compound f (tree a (tree b no_trees))) h)
no_cell (compound f (tree a (tree b (tree d ts)))) h =
    (either (bytes_eq f (codes ".")) [], either (bytes_eq f (codes ".")) (compound f (tree a (tree b (tree d ts)))))

pub elements_end : (ns : List Node) (n : Node) (done all : List Tree) → IsNodes ns → n ≡ get_or ns 0 n → is_cell_node n ≡ false → done ++ elements (parse ns) ≡ all → done ≡ all
elements_end ns n done all h e b d =
    sym (append-nil done) ∙ ap (λ xs. done ++ xs) (sym (no_cell (parse ns) (ap is_cell_node (sym (symbol_is ns n h e)) ∙ b)).0) ∙ d

pub rest_end : (ns : List Node) (n : Node) (r : Tree) → IsNodes ns → n ≡ get_or ns 0 n → is_cell_node n ≡ false → rest (parse ns) ≡ r → parse ns ≡ r
rest_end ns n r h e b d = sym (no_cell (parse ns) (ap is_cell_node (sym (symbol_is ns n h e)) ∙ b)).1 ∙ d

-- ---- the nodes of a list

pub cell_more : (ts : List Tree) (i : ℕ) (t : Tree) (ns ns' ms es all : List Node) → i < length ts → t ≡ get_or ts i t → es ≡ flatten t → ns' ≡ ns ++ node.Comp (codes ".") 2 ∷ es → ns ++ flatten (list_of (drop i ts)) ≡ all → ns' ++ flatten (list_of (drop (i + 1) ts)) ≡ all
cell_more ts i t ns ns' ms es all l e f d h =
    let after : List Node = flatten (list_of (drop (i + 1) ts)) in
    let here : drop i ts ≡ t ∷ drop (i + 1) ts = drop-cons ts i t l ∙ ap (λ x. x ∷ drop (suc i) ts) (sym e) ∙ ap (λ (k : ℕ). t ∷ drop k ts) (let g : suc i ≡ i + 1 = omega arith in g) in
    ap (λ xs. xs ++ after) d
    ∙ append_assoc ns (node.Comp (codes ".") 2 ∷ es) after
    ∙ ap (λ (xs : List Node). ns ++ node.Comp (codes ".") 2 ∷ (xs ++ after)) f
    ∙ ap (λ (xs : List Node). ns ++ node.Comp (codes ".") 2 ∷ (flatten t ++ xs)) (sym (append-nil after))
    ∙ ap (λ (us : List Tree). ns ++ flatten (list_of us)) (sym here)
    ∙ h

pub list_end : (ts : List Tree) (i : ℕ) (f : List ℕ) (ns ns' ms : List Node) (all : List Node) → length ts ≤ i → f ≡ codes "[]" → ns' ≡ ns ++ node.Atom f ∷ [] → ms ≡ ns' → ns ++ flatten (list_of (drop i ts)) ≡ all → ms ≡ all
list_end ts i f ns ns' ms all l g d e h =
    e ∙ d ∙ ap (λ (a : List ℕ). ns ++ node.Atom a ∷ []) g ∙ ap (λ (us : List Tree). ns ++ flatten (list_of us)) (sym (drop_all i ts l)) ∙ h

pub IsTerm-list_of : (ts : List Tree) → All IsTerm ts → IsTerm (list_of ts)
IsTerm-list_of [] h = tt
IsTerm-list_of (t ∷ ts) h = (omega arith, omega arith, (All-head IsTerm t ts h, (IsTerm-list_of ts (All-tail IsTerm t ts h), tt)))
