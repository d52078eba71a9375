-- What is read off a word.
use Rattle.std.proofs.Common.{◌≡◌, ℕ, suc, ◌+◌, ◌-◌, ◌<◌, ◌≤◌, Bool, List, [], ◌∷◌, ◌++◌, length, get_or, take, drop, map, refl, ap, ◌∙◌, sym, subst, append_assoc, length-append, arith}
use Rattle.std.proofs.lemmas.List.{length-take-le, length-drop, get_or-take, get_or-drop, take_all, get_or_default, length_push, get_or_push, map_push, map_more}
use Rattle.std.proofs.lemmas.List.Elements.{All-push, All-weaker}
use Rattle.std.proofs.lemmas.List.Concat.{flat_map-append}
use Rattle.store.proofs.Putting.{element_before}
use Rattle.std.specs.List.{All, flat_map}
use Rattle.store.proofs.Growing.{get_or-begins}
use Rattle.term_core.specs.declared.node.Node.{Node}
use Rattle.term_core.specs.declared.node.Node.TheVariants.{Comp as CompNode}
use Rattle.term_core.specs.Tree.{Tree, variable, integer, atom, compound, Trees, no_trees, tree, arity, trees_of, tree_list}
use Rattle.term_core.specs.Flat.{flatten, flatten_all}
use Rattle.term_core.specs.Parts.{symbol_of, arguments_of}
use Rattle.term_core.proofs.Lists.{arity-trees_of}
use Rattle.store.specs.declared.word.Word.{Word}
use Rattle.store.specs.declared.word.Shape.TheVariants.{Comp}
use Rattle.store.specs.Words.{shape_of}
use Rattle.store.specs.Heap.{Known, name_at, block, shape_tree, IsCompound, IsShape, word_tree, IsWord, tree_at, Grows, gathered}

pub tree_list-trees_of : (ts : List Tree) → tree_list (trees_of ts) ≡ ts
tree_list-trees_of [] = refl
tree_list-trees_of (t ∷ ts) = ap (λ us. t ∷ us) (tree_list-trees_of ts)

module _ (k : Known) (w : Word) (name count first : ℕ) (closed : Bool) (s : Comp name count first closed ≡ shape_of w) (h : IsWord k w) where
  pub is_compound : IsCompound k name count first closed
  is_compound = subst (IsShape k) (sym s) h

  pub length-block : length (block k first count) ≡ count
  length-block = length-take-le count (drop first k.trees) (omega (arith, length-drop first k.trees, is_compound.within))

  pub compound_tree : word_tree k w ≡ compound (name_at k name) (trees_of (block k first count))
  compound_tree = ap (shape_tree k) (sym s)

  pub compound_symbol : (f : List ℕ) → f ≡ name_at k name → CompNode f count ≡ symbol_of (word_tree k w)
  compound_symbol f e =
      (λ i. CompNode (e i) ((sym length-block ∙ sym (arity-trees_of (block k first count))) i)) ∙ ap symbol_of (sym compound_tree)

  pub compound_arguments : arguments_of (word_tree k w) ≡ block k first count
  compound_arguments = ap arguments_of compound_tree ∙ tree_list-trees_of (block k first count)

  pub argument_below : (i : ℕ) → i < length (arguments_of (word_tree k w)) → i < 1024
  argument_below i l = omega (arith, ap length compound_arguments, length-block, is_compound.few)

  pub argument_at : (i : ℕ) → i < length (arguments_of (word_tree k w)) → (first + i < length k.trees) × (tree_at k (first + i) ≡ get_or (arguments_of (word_tree k w)) i (atom []))
  argument_at i l =
      let j : i < count = omega (arith, ap length compound_arguments, length-block) in (
        omega (arith, is_compound.within),
        sym (ap (λ ts. get_or ts i (atom [])) compound_arguments ∙ get_or-take count (drop first k.trees) i (atom []) j ∙ get_or-drop first k.trees i (atom [])),
      )

-- cells stand for the same trees when more is known
pub same_cells : (k m : Known) → Grows k m → (cs : List ℕ) → All (λ c. c < length k.trees) cs → map (tree_at m) cs ≡ map (tree_at k) cs
same_cells k m g [] h = refl
same_cells k m g (c ∷ cs) h =
    (λ i. get_or-begins k.trees m.trees c (atom []) g.trees (h 0 c (omega arith)) i ∷ same_cells k m g cs (λ j d l. h (suc j) d (omega arith)) i)

-- all trees as the arguments of one compound
pub whole_compound : (f : List ℕ) (count : ℕ) (t : Tree) (rest us ts : List Tree) → t ∷ rest ≡ gathered f count us → us ≡ ts → length ts ≡ count → t ≡ compound f (trees_of ts)
whole_compound f count t rest us ts e same l =
    let g : t ∷ rest ≡ gathered f count ts = e ∙ ap (gathered f count) same in
    let h : t ≡ compound f (trees_of (take count ts)) = cc in
    h ∙ ap (λ us. compound f (trees_of us)) (take_all count ts (omega arith))

-- the argument before the last i ones
pub argument_before : (k : Known) (first count i : ℕ) → first + count ≤ length k.trees → i < count → drop (count - (i + 1)) (block k first count) ≡ tree_at k (first + (count - 1 - i)) ∷ drop (count - i) (block k first count)
argument_before k first count i h l =
    let ts = block k first count in
    let size : length ts ≡ count = length-take-le count (drop first k.trees) (omega (arith, length-drop first k.trees)) in
    let t = tree_at k (first + (count - 1 - i)) in
    let here : get_or ts (count - 1 - i) (atom []) ≡ t = get_or-take count (drop first k.trees) (count - 1 - i) (atom []) (omega arith) ∙ get_or-drop first k.trees (count - 1 - i) (atom []) in
    let read : t ≡ get_or ts (length ts - 1 - i) t = sym here ∙ get_or_default ts (count - 1 - i) (atom []) t (omega arith) ∙ ap (λ (n : ℕ). get_or ts (n - 1 - i) t) (sym size) in
    ap (λ (n : ℕ). drop (n - (i + 1)) ts) (sym size) ∙ element_before ts i t (omega arith) read ∙ ap (λ (n : ℕ). t ∷ drop (n - i) ts) size

-- a node, and the arguments behind it
pub flatten_parts : (t : Tree) → flatten t ≡ symbol_of t ∷ flat_map flatten (arguments_of t)
flatten_parts (variable n) = refl
flatten_parts (integer z) = refl
flatten_parts (atom f) = refl
flatten_parts (compound f ts) = ap (λ ns. CompNode f (arity ts) ∷ ns) (all_parts ts)
  where
    all_parts : (us : Trees) → flatten_all us ≡ flat_map flatten (tree_list us)
    all_parts no_trees = refl
    all_parts (tree u us) = ap (λ ns. flatten u ++ ns) (all_parts us)

-- one node more
pub node_taken : (ns : List Node) (n : Node) (t : Tree) (ts us : List Tree) (all : List Node) → ns ++ flat_map flatten (t ∷ ts) ≡ all → n ≡ symbol_of t → us ≡ arguments_of t ++ ts → (ns ++ n ∷ []) ++ flat_map flatten us ≡ all
node_taken ns n t ts us all e s u =
    let fs = flat_map flatten (arguments_of t) in
    (λ i. (ns ++ s i ∷ []) ++ flat_map flatten (u i))
    ∙ append_assoc ns (symbol_of t ∷ []) (flat_map flatten (arguments_of t ++ ts))
    ∙ ap (λ ms. ns ++ (symbol_of t ∷ ms)) (flat_map-append flatten (arguments_of t) ts)
    ∙ ap (λ ms. ns ++ (ms ++ flat_map flatten ts)) (sym (flatten_parts t))
    ∙ e

pub some_left : (ns : List Node) (t : Tree) (ts : List Tree) (all : List Node) → ns ++ flat_map flatten (t ∷ ts) ≡ all → length ns < length all
some_left ns t ts all e =
    omega (arith, ap length e, length-append ns (flat_map flatten (t ∷ ts)), length-append (flatten t) (flat_map flatten ts), ap length (flatten_parts t))

-- one cell more, for one variable more
pub variable_more : (k m : Known) → Grows k m → (cs ds : List ℕ) (at n i : ℕ) (ns : List ℕ) → All (λ c. c < length k.trees) cs → map (tree_at k) cs ≡ map variable (take i ns) → at ≡ length k.trees → m.trees ≡ k.trees ++ variable n ∷ [] → i < length ns → n ≡ get_or ns i 0 → ds ≡ cs ++ at ∷ [] → All (λ c. c < length m.trees) ds × (map (tree_at m) ds ≡ map variable (take (i + 1) ns))
variable_more k m g cs ds at n i ns all so_far a t l e d =
    let room : length m.trees ≡ length k.trees + 1 = ap length t ∙ length_push k.trees (variable n) in
    let wider : All (λ c. c < length m.trees) cs = All-weaker (λ c. c < length k.trees) (λ c. c < length m.trees) (λ c h. omega arith) cs all in
    let last : tree_at m at ≡ variable n = ap (λ (ts : List Tree). get_or ts at (atom [])) t ∙ get_or_push k.trees (variable n) (atom []) at (sym a) in (
      subst (λ (xs : List ℕ). All (λ c. c < length m.trees) xs) (sym d) (All-push (λ c. c < length m.trees) cs at wider (omega arith)),
      ap (map (tree_at m)) d ∙ map_push (tree_at m) cs at
          ∙ (λ j. (same_cells k m g cs all ∙ so_far) j ++ (last ∙ ap variable e) j ∷ [])
          ∙ sym (map_more variable ns i 0 l),
    )
