-- List cells, by their outermost symbol.
use Rattle.std.proofs.Common.{◌≡◌, ℕ, suc, Bool, true, false, ◌==◌, List, [], ◌∷◌, ◌++◌, length, map, if◌then◌else◌, codes, bytes_eq, refl, ap, sym, ◌∙◌, append_assoc, append-nil, arith}
use Rattle.std.proofs.lemmas.Bool.{and_parts, eqb-true}
use Rattle.std.proofs.lemmas.List.{map_push}
use Rattle.term_core.specs.Tree.{Tree, variable, integer, atom, compound, Trees, no_trees, tree, arity, tree_list}
use Rattle.term_core.specs.Parts.{symbol_of, arguments_of}
use Rattle.term_core.specs.Preorder.{count_of}
use Rattle.builtin_table.specs.Lists.{elements, elements_of_cell, rest, rest_of_cell}
use Rattle.store.specs.Cells.{Cells, tree_of, argument_of}
use Rattle.prims_term.specs.Symbols.{is_cell_symbol}

-- a list cell's element and rest
pub record IsListCell (t : Tree) : Type 0 where
  pub two : length (arguments_of t) ≡ 2
  pub elements_are : elements t ≡ argument_of t 0 ∷ elements (argument_of t 1)
  pub rest_is : rest t ≡ rest (argument_of t 1)

pub list_cell : (t : Tree) → is_cell_symbol (symbol_of t) ≡ true → IsListCell t
unfolding elements elements_of_cell rest rest_of_cell
list_cell (variable n) h = cc
list_cell (integer z) h = cc
list_cell (atom f) h = cc
list_cell (compound f no_trees) h =
    let both = and_parts (arity no_trees == 2) (bytes_eq f (codes ".")) h in
    absurd (omega (arith, eqb-true (arity no_trees) 2 both.0))
list_cell (compound f (tree a no_trees)) h =
    let both = and_parts (arity (tree a no_trees) == 2) (bytes_eq f (codes ".")) h in
    absurd (omega (arith, eqb-true (arity (tree a no_trees)) 2 both.0))
list_cell (compound f (tree a (tree b no_trees))) h =
    let both = and_parts (arity (tree a (tree b no_trees)) == 2) (bytes_eq f (codes ".")) h in
    record {
      two = refl;
      elements_are = ap (λ (x : Bool). if x then a ∷ elements b else []) both.1;
      rest_is = ap (λ (x : Bool). if x then rest b else compound f (tree a (tree b no_trees))) both.1;
    }
list_cell (compound f (tree a (tree b (tree d ts)))) h =
    let both = and_parts (arity (tree a (tree b (tree d ts))) == 2) (bytes_eq f (codes ".")) h in
    absurd (omega (arith, eqb-true (arity (tree a (tree b (tree d ts)))) 2 both.0))

either : {A : Type 0} (b : Bool) (x : A) → (if b then x else x) ≡ x
either true x = refl
either false x = refl

pub no_cell : (t : Tree) → is_cell_symbol (symbol_of t) ≡ false → (elements t ≡ []) × (rest t ≡ t)
unfolding elements elements_of_cell rest rest_of_cell
no_cell (variable n) h = (refl, refl)
no_cell (integer z) h = (refl, refl)
no_cell (atom f) h = (refl, refl)
no_cell (compound f no_trees) h = (either (bytes_eq f (codes ".")) [], either (bytes_eq f (codes ".")) (compound f no_trees))
no_cell (compound f (tree a no_trees)) h = (either (bytes_eq f (codes ".")) [], either (bytes_eq f (codes ".")) (compound f (tree a no_trees)))
no_cell (compound f (tree a (tree b no_trees))) h =
    (ap (λ (x : Bool). if x then a ∷ elements b else []) h, ap (λ (x : Bool). if x then rest b else compound f (tree a (tree b no_trees))) h)
no_cell (compound f (tree a (tree b (tree d ts)))) h =
    (either (bytes_eq f (codes ".")) [], either (bytes_eq f (codes ".")) (compound f (tree a (tree b (tree d ts)))))

-- one element more
pub elements_more : (s : Cells) (cs ds : List ℕ) (c a b : ℕ) (all : List Tree) → IsListCell (tree_of s c) → map (tree_of s) cs ++ elements (tree_of s c) ≡ all → tree_of s a ≡ argument_of (tree_of s c) 0 → tree_of s b ≡ argument_of (tree_of s c) 1 → ds ≡ cs ++ a ∷ [] → map (tree_of s) ds ++ elements (tree_of s b) ≡ all
elements_more s cs ds c a b all h e at bt d =
    ap (λ (xs : List ℕ). map (tree_of s) xs ++ elements (tree_of s b)) d
    ∙ ap (λ ts. ts ++ elements (tree_of s b)) (map_push (tree_of s) cs a)
    ∙ append_assoc (map (tree_of s) cs) (tree_of s a ∷ []) (elements (tree_of s b))
    ∙ (λ i. map (tree_of s) cs ++ (at i ∷ elements (bt i)))
    ∙ ap (λ ts. map (tree_of s) cs ++ ts) (sym h.elements_are)
    ∙ e

pub rest_more : (s : Cells) (c b : ℕ) (r : Tree) → IsListCell (tree_of s c) → rest (tree_of s c) ≡ r → tree_of s b ≡ argument_of (tree_of s c) 1 → rest (tree_of s b) ≡ r
rest_more s c b r h e bt = ap rest bt ∙ sym h.rest_is ∙ e

pub elements_end : (s : Cells) (cs : List ℕ) (c : ℕ) (all : List Tree) → is_cell_symbol (symbol_of (tree_of s c)) ≡ false → map (tree_of s) cs ++ elements (tree_of s c) ≡ all → map (tree_of s) cs ≡ all
elements_end s cs c all h e =
    sym (append-nil (map (tree_of s) cs)) ∙ ap (λ ts. map (tree_of s) cs ++ ts) (sym (no_cell (tree_of s c) h).0) ∙ e

pub rest_end : (s : Cells) (c : ℕ) (r : Tree) → is_cell_symbol (symbol_of (tree_of s c)) ≡ false → rest (tree_of s c) ≡ r → tree_of s c ≡ r
rest_end s c r h e = sym (no_cell (tree_of s c) h).1 ∙ e

-- how many arguments a symbol tells
pub count_of_symbol : (t : Tree) → count_of (symbol_of t) ≡ length (arguments_of t)
count_of_symbol (variable n) = refl
count_of_symbol (integer z) = refl
count_of_symbol (atom f) = refl
count_of_symbol (compound f ts) = sym (length-tree_list ts)
  where
    length-tree_list : (us : Trees) → length (tree_list us) ≡ arity us
    length-tree_list no_trees = refl
    length-tree_list (tree u us) = ap suc (length-tree_list us)
