-- A term's nodes behind the first are those of its arguments.
use Rattle.std.proofs.Common.{◌≡◌, ℕ, zero, suc, ◌<◌, ◌≤◌, List, [], ◌∷◌, ◌++◌, length, drop, get_or, refl, ap, sym, ◌∙◌, append_assoc, append-nil, arith}
use Rattle.std.proofs.lemmas.List.{length-drop}
use Rattle.term_core.specs.declared.node.Node.{Node}
use Rattle.term_core.specs.Tree.{Tree, variable, integer, atom, compound, tree_list}
use Rattle.term_core.specs.Flat.{flatten, flatten_all, first_tree, build, build-flatten_all}
use Rattle.term_core.specs.Parts.{symbol_of, arguments_of}
use Rattle.term_core.proofs.Preorder.{some_tree}

pub some_node : (t : Tree) → 1 ≤ length (flatten t)
some_node (variable n) = omega arith
some_node (integer z) = omega arith
some_node (atom f) = omega arith
some_node (compound f ts) = omega arith

pub first_node : (t : Tree) (n : Node) → n ≡ get_or (flatten t) 0 n → n ≡ symbol_of t
first_node (variable m) n h = h
first_node (integer z) n h = h
first_node (atom f) n h = h
first_node (compound f ts) n h = h

pub behind_first : (t : Tree) → build (drop 1 (flatten t)) ≡ arguments_of t
behind_first (variable n) = refl
behind_first (integer z) = refl
behind_first (atom f) = refl
behind_first (compound f ts) = ap build (sym (append-nil (flatten_all ts))) ∙ build-flatten_all ts [] ∙ append-nil (tree_list ts)

-- a list that isn't empty is its first element and the rest
first_and_rest : (us : List Tree) → 1 ≤ length us → us ≡ first_tree us ∷ drop 1 us
first_and_rest [] h = absurd (omega arith)
first_and_rest (u ∷ us) h = refl

-- one argument more
pub one_more : (done : List Tree) (ns ms : List Node) → 0 < length ns → build ms ≡ drop 1 (build ns) → (done ++ first_tree (build ns) ∷ []) ++ build ms ≡ done ++ build ns
one_more done ns ms h e =
    append_assoc done (first_tree (build ns) ∷ []) (build ms)
    ∙ ap (λ (us : List Tree). done ++ first_tree (build ns) ∷ us) e
    ∙ ap (λ (us : List Tree). done ++ us) (sym (first_and_rest (build ns) (some_tree ns h)))

-- the first tree has a node
pub moves_on : (ns : List Node) (end : ℕ) → 0 < length ns → build (drop end ns) ≡ drop 1 (build ns) → 1 ≤ end
moves_on ns zero h e = absurd (omega (arith, ap length e, length-drop 1 (build ns), some_tree ns h))
moves_on ns (suc end) h e = omega arith
