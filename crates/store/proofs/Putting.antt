-- A term's nodes from the last to the first, as words.
use Rattle.std.proofs.Common.{◌≡◌, ℕ, ◌+◌, ◌-◌, ◌<◌, ◌≤◌, List, [], ◌∷◌, length, get_or, take, drop, map, refl, ap, ◌∙◌, sym, subst, arith}
use Rattle.std.proofs.lemmas.List.{at_drop_more, drop-map, take-map, length-map}
use Rattle.term_core.specs.declared.node.Node.{Node}
use Rattle.term_core.specs.declared.node.Node.TheVariants.{Var, Int, Atom, Comp}
use Rattle.term_core.specs.Tree.{Tree, compound, tree, trees_of}
use Rattle.term_core.specs.Flat.{build, grow, first_tree, parse}
use Rattle.term_core.specs.Nodes.{map_node}
use Rattle.term_core.specs.Preorder.{count_of, HasArities, AreTermNodes}
use Rattle.term_core.specs.Variables.{map_variables, map_all_variables, renamed}
use Rattle.term_core.proofs.Preorder.{AreTermNodes-drop, some_tree}

map_all_variables-trees_of : (f : ℕ → ℕ) (ts : List Tree) → map_all_variables f (trees_of ts) ≡ trees_of (map (map_variables f) ts)
map_all_variables-trees_of f [] = refl
map_all_variables-trees_of f (t ∷ ts) = ap (tree (map_variables f t)) (map_all_variables-trees_of f ts)

-- to rename and to grow
pub grow-map : (f : ℕ → ℕ) (n : Node) (ts : List Tree) → grow (map_node f n) (map (map_variables f) ts) ≡ map (map_variables f) (grow n ts)
grow-map f (Var n) ts = refl
grow-map f (Int z) ts = refl
grow-map f (Atom a) ts = refl
grow-map f (Comp g k) ts = (λ i. compound g ((ap trees_of (take-map (map_variables f) k ts) ∙ sym (map_all_variables-trees_of f (take k ts))) i) ∷ drop-map (map_variables f) k ts i)

-- the element before the last i ones
pub element_before : {A : Type 0} (xs : List A) (i : ℕ) (x : A) → i < length xs → x ≡ get_or xs (length xs - 1 - i) x → drop (length xs - (i + 1)) xs ≡ x ∷ drop (length xs - i) xs
element_before xs i x h e =
    let at = length xs - 1 - i in
    let first : drop at xs ≡ get_or xs at x ∷ drop (at + 1) xs = at_drop_more (λ ys. ys) xs at x (omega arith) in
    ap (λ (j : ℕ). drop j xs) (let f : length xs - (i + 1) ≡ at = omega arith in f) ∙ first
    ∙ (λ j. sym e j ∷ drop ((let f : at + 1 ≡ length xs - i = omega arith in f) j) xs)

first_arity : (n : Node) (ns : List Node) → HasArities (n ∷ ns) → HasArities (n ∷ [])
first_arity (Var m) ns h = tt
first_arity (Int z) ns h = tt
first_arity (Atom a) ns h = tt
first_arity (Comp f k) ns h = (h.0, h.1, tt)

-- what that node asks for is there
pub node_fits : (ns : List Node) (i : ℕ) (n : Node) → AreTermNodes ns → i < length ns → n ≡ get_or ns (length ns - 1 - i) n → HasArities (n ∷ []) × (count_of n ≤ length (build (drop (length ns - i) ns)))
node_fits ns i n h l e =
    let those = subst AreTermNodes (element_before ns i n l e) (AreTermNodes-drop (length ns - (i + 1)) ns h) in
    (first_arity n (drop (length ns - i) ns) those.arities, those.preorder.0)

pub one_more_node : (base : ℕ) (ns : List Node) (i : ℕ) (n : Node) (ts us : List Tree) → i < length ns → n ≡ get_or ns (length ns - 1 - i) n → ts ≡ map (renamed base) (build (drop (length ns - i) ns)) → us ≡ grow (map_node (λ m. m + base) n) ts → us ≡ map (renamed base) (build (drop (length ns - (i + 1)) ns))
one_more_node base ns i n ts us l e so_far more =
    more ∙ ap (grow (map_node (λ m. m + base) n)) so_far
    ∙ grow-map (λ m. m + base) n (build (drop (length ns - i) ns))
    ∙ ap (λ ms. map (renamed base) (build ms)) (sym (element_before ns i n l e))

all_nodes : (ns : List Node) (i : ℕ) → length ns ≤ i → drop (length ns - i) ns ≡ ns
all_nodes ns i h = ap (λ (j : ℕ). drop j ns) (let f : length ns - i ≡ 0 = omega arith in f)

pub all_put : (base : ℕ) (ns : List Node) (i : ℕ) (ts : List Tree) → length ns ≤ i → ts ≡ map (renamed base) (build (drop (length ns - i) ns)) → ts ≡ map (renamed base) (build ns)
all_put base ns i ts h e = e ∙ ap (λ ms. map (renamed base) (build ms)) (all_nodes ns i h)

first_of_map : (base : ℕ) (ts us : List Tree) (t : Tree) → t ∷ us ≡ map (renamed base) ts → t ≡ renamed base (first_tree ts)
first_of_map base [] us t e = cc
first_of_map base (u ∷ ts) us t e = cc

pub first_put : (base : ℕ) (ns : List Node) (t : Tree) (us : List Tree) → t ∷ us ≡ map (renamed base) (build ns) → t ≡ renamed base (parse ns)
first_put base ns t us e = first_of_map base (build ns) us t e

pub some_put : (base : ℕ) (ns : List Node) (ts : List Tree) → 0 < length ns → ts ≡ map (renamed base) (build ns) → 0 < length ts
some_put base ns ts h e = omega (arith, ap length e, length-map (build ns) (renamed base), some_tree ns h)
