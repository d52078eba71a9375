-- The value of an expression, by its outermost symbol.
use Rattle.std.proofs.Common.{◌≡◌, ℕ, suc, ℤ, List, [], ◌∷◌, ◌++◌, length, reverse, Option, Some, None, Ok, Err, refl, ap, ◌∙◌, sym, arith}
use Rattle.std.proofs.lemmas.List.{reverse-append}
use Rattle.term_core.specs.declared.node.Node.TheVariants.{Var, Int, Atom, Comp}
use Rattle.term_core.specs.Tree.{Tree, variable, integer, atom, compound, Trees, no_trees, tree, arity, tree_list}
use Rattle.term_core.specs.Parts.{symbol_of, arguments_of}
use Rattle.builtin_table.specs.declared.functions.Unary.{Unary}
use Rattle.builtin_table.specs.declared.functions.Binary.{Binary}
use Rattle.builtin_table.specs.Errors.{instantiation_error}
use Rattle.builtin_table.specs.Arithmetic.{Value, value_of, values_of, applied, not_evaluable, unary_named, binary_named, unary_applied, binary_applied, evaluated, unary_value, binary_value}
use Rattle.store.specs.Cells.{Cells, tree_of, argument_of}
use Rattle.arith.specs.declared.machine.Task.{Task}
use Rattle.arith.specs.declared.machine.Task.TheVariants.{Find, One, Two}
use Rattle.arith.specs.Machine.{then, run, parted, part_result}

-- ---- by symbol

pub value-variable : (t : Tree) (n : ℕ) → symbol_of t ≡ Var n → value_of t ≡ Err instantiation_error
unfolding value_of
value-variable (variable m) n e = refl
value-variable (integer z) n e = cc
value-variable (atom f) n e = cc
value-variable (compound f ts) n e = cc

pub value-integer : (t : Tree) (z : ℤ) → symbol_of t ≡ Int z → value_of t ≡ Ok z
unfolding value_of
value-integer (variable m) z e = cc
value-integer (integer y) z e = let s : y ≡ z = cc in ap (λ (x : ℤ). Ok x) s
value-integer (atom f) z e = cc
value-integer (compound f ts) z e = cc

pub value-atom : (t : Tree) (f : List ℕ) → symbol_of t ≡ Atom f → value_of t ≡ not_evaluable f 0
unfolding value_of
value-atom (variable m) f e = cc
value-atom (integer y) f e = cc
value-atom (atom g) f e = let s : g ≡ f = cc in ap (λ h. not_evaluable h 0) s
value-atom (compound g ts) f e = cc

length-values_of : (ts : Trees) → length (values_of ts) ≡ arity ts
unfolding values_of
length-values_of no_trees = refl
length-values_of (tree t ts) = ap suc (length-values_of ts)

others : (f : List ℕ) (ws : List Value) → (length ws ≡ 1 → ⊥) → (length ws ≡ 2 → ⊥) → applied f ws ≡ not_evaluable f (length ws)
unfolding applied
others f [] h k = refl
others f (v ∷ []) h k = absurd (h refl)
others f (v ∷ w ∷ []) h k = absurd (k refl)
others f (v ∷ w ∷ u ∷ ws) h k = refl

pub value-other : (t : Tree) (f : List ℕ) (count : ℕ) → symbol_of t ≡ Comp f count → (count ≡ 1 → ⊥) → (count ≡ 2 → ⊥) → value_of t ≡ not_evaluable f count
unfolding value_of
value-other (variable m) f count e h k = cc
value-other (integer y) f count e h k = cc
value-other (atom g) f count e h k = cc
value-other (compound g ts) f count e h k =
    let s : g ≡ f = cc in
    let n : arity ts ≡ count = cc in
    let size : length (values_of ts) ≡ count = length-values_of ts ∙ n in
    others g (values_of ts) (λ o. h (sym size ∙ o)) (λ o. k (sym size ∙ o)) ∙ (λ i. not_evaluable (s i) (size i))

one_argument : (ts : Trees) → arity ts ≡ 1 → (t : Tree) × (ts ≡ tree t no_trees)
one_argument no_trees e = absurd (omega arith)
one_argument (tree t no_trees) e = (t, refl)
one_argument (tree t (tree u us)) e = absurd (omega arith)

two_arguments : (ts : Trees) → arity ts ≡ 2 → (t : Tree) × ((u : Tree) × (ts ≡ tree t (tree u no_trees)))
two_arguments no_trees e = absurd (omega arith)
two_arguments (tree t no_trees) e = absurd (omega arith)
two_arguments (tree t (tree u no_trees)) e = (t, (u, refl))
two_arguments (tree t (tree u (tree v vs))) e = absurd (omega arith)

-- a term with this symbol is a compound
pub as_compound : (t : Tree) (f : List ℕ) (count : ℕ) → symbol_of t ≡ Comp f count → (ts : Trees) × ((t ≡ compound f ts) × (arity ts ≡ count))
as_compound (variable m) f count e = absurd (cc)
as_compound (integer y) f count e = absurd (cc)
as_compound (atom g) f count e = absurd (cc)
as_compound (compound g ts) f count e =
    let s : g ≡ f = cc in
    let n : arity ts ≡ count = cc in
    (ts, (ap (λ h. compound h ts) s, n))

pub as_one : (t : Tree) (f : List ℕ) → symbol_of t ≡ Comp f 1 → t ≡ compound f (tree (argument_of t 0) no_trees)
as_one t f e =
    let c = as_compound t f 1 e in
    let a = one_argument c.0 c.1.1 in
    let same : t ≡ compound f (tree a.0 no_trees) = c.1.0 ∙ ap (compound f) a.1 in
    same ∙ ap (λ u. compound f (tree u no_trees)) (sym (ap (λ u. argument_of u 0) same))

pub as_two : (t : Tree) (f : List ℕ) → symbol_of t ≡ Comp f 2 → t ≡ compound f (tree (argument_of t 0) (tree (argument_of t 1) no_trees))
as_two t f e =
    let c = as_compound t f 2 e in
    let a = two_arguments c.0 c.1.1 in
    let same : t ≡ compound f (tree a.0 (tree a.1.0 no_trees)) = c.1.0 ∙ ap (compound f) a.1.1 in
    same ∙ (λ i. compound f (tree (sym (ap (λ u. argument_of u 0) same) i) (tree (sym (ap (λ u. argument_of u 1) same) i) no_trees)))

length-tree_list : (ts : Trees) → length (tree_list ts) ≡ arity ts
length-tree_list no_trees = refl
length-tree_list (tree t ts) = ap suc (length-tree_list ts)

pub length-arguments : (t : Tree) (f : List ℕ) (count : ℕ) → symbol_of t ≡ Comp f count → length (arguments_of t) ≡ count
length-arguments (variable m) f count e = cc
length-arguments (integer y) f count e = cc
length-arguments (atom g) f count e = cc
length-arguments (compound g ts) f count e = let n : arity ts ≡ count = cc in length-tree_list ts ∙ n

computed_one : (f : List ℕ) (a : Tree) → value_of (compound f (tree a no_trees)) ≡ applied f (value_of a ∷ [])
unfolding value_of values_of
computed_one f a = refl

computed_two : (f : List ℕ) (a b : Tree) → value_of (compound f (tree a (tree b no_trees))) ≡ applied f (value_of a ∷ value_of b ∷ [])
unfolding value_of values_of
computed_two f a b = refl

pub value-one : (t : Tree) (f : List ℕ) → symbol_of t ≡ Comp f 1 → value_of t ≡ applied f (value_of (argument_of t 0) ∷ [])
value-one t f e = ap value_of (as_one t f e) ∙ computed_one f (argument_of t 0)

pub value-two : (t : Tree) (f : List ℕ) → symbol_of t ≡ Comp f 2 → value_of t ≡ applied f (value_of (argument_of t 0) ∷ value_of (argument_of t 1) ∷ [])
value-two t f e = ap value_of (as_two t f e) ∙ computed_two f (argument_of t 0) (argument_of t 1)

-- ---- the functor applied

choose_unary : (f : List ℕ) (v : Value) (o : Option Unary) → Value
choose_unary f v o = elim o [ Some u ↦ unary_applied u v | None ↦ not_evaluable f 1 ]

pub applied-unary : (f : List ℕ) (v : Value) (u : Unary) → Some u ≡ unary_named f → applied f (v ∷ []) ≡ unary_applied u v
unfolding applied choose_unary
applied-unary f v u e = ap (choose_unary f v) (sym e)

pub applied-no_unary : (f : List ℕ) (v : Value) → None ≡ unary_named f → applied f (v ∷ []) ≡ not_evaluable f 1
unfolding applied choose_unary
applied-no_unary f v e = ap (choose_unary f v) (sym e)

choose_binary : (f : List ℕ) (v w : Value) (o : Option Binary) → Value
choose_binary f v w o = elim o [ Some b ↦ binary_applied b v w | None ↦ not_evaluable f 2 ]

pub applied-binary : (f : List ℕ) (v w : Value) (b : Binary) → Some b ≡ binary_named f → applied f (v ∷ w ∷ []) ≡ binary_applied b v w
unfolding applied choose_binary
applied-binary f v w b e = ap (choose_binary f v w) (sym e)

pub applied-no_binary : (f : List ℕ) (v w : Value) → None ≡ binary_named f → applied f (v ∷ w ∷ []) ≡ not_evaluable f 2
unfolding applied choose_binary
applied-no_binary f v w e = ap (choose_binary f v w) (sym e)

-- ---- what is left to do

unary_steps : (u : Unary) (v : Value) (f : ℤ → Value) → then v (λ x. then (evaluated (unary_value u x)) f) ≡ then (unary_applied u v) f
unary_steps u (Ok x) f = refl
unary_steps u (Err e) f = refl

binary_steps : (b : Binary) (v w : Value) (f : ℤ → Value) → then v (λ x. then w (λ y. then (evaluated (binary_value b x y)) f)) ≡ then (binary_applied b v w) f
binary_steps b (Ok x) (Ok y) f = refl
binary_steps b (Ok x) (Err e) f = refl
binary_steps b (Err d) w f = refl

module _ (s : Cells) (c : ℕ) (name : List ℕ) where
  abbrev found : Value
  found = value_of (tree_of s c)

  pub one_planned : (u : Unary) (a : ℕ) (ts : List Task) (vs : List ℤ) → symbol_of (tree_of s c) ≡ Comp name 1 → Some u ≡ unary_named name → tree_of s a ≡ argument_of (tree_of s c) 0 → run s (Find a ∷ One u ∷ ts) vs ≡ run s (Find c ∷ ts) vs
  one_planned u a ts vs e n at =
      let v = value_of (tree_of s a) in
      let same : found ≡ unary_applied u v = value-one (tree_of s c) name e ∙ applied-unary name (value_of (argument_of (tree_of s c) 0)) u n ∙ ap (λ t. unary_applied u (value_of t)) (sym at) in
      unary_steps u v (λ x. run s ts (x ∷ vs)) ∙ ap (λ w. then w (λ x. run s ts (x ∷ vs))) (sym same)

  pub two_planned : (b : Binary) (a d : ℕ) (ts : List Task) (vs : List ℤ) → symbol_of (tree_of s c) ≡ Comp name 2 → Some b ≡ binary_named name → tree_of s a ≡ argument_of (tree_of s c) 0 → tree_of s d ≡ argument_of (tree_of s c) 1 → run s (Find a ∷ Find d ∷ Two b ∷ ts) vs ≡ run s (Find c ∷ ts) vs
  two_planned b a d ts vs e n at dt =
      let v = value_of (tree_of s a) in
      let w = value_of (tree_of s d) in
      let same : found ≡ binary_applied b v w = value-two (tree_of s c) name e ∙ applied-binary name (value_of (argument_of (tree_of s c) 0)) (value_of (argument_of (tree_of s c) 1)) b n ∙ (λ i. binary_applied b (value_of (sym at i)) (value_of (sym dt i))) in
      binary_steps b v w (λ x. run s ts (x ∷ vs)) ∙ ap (λ w. then w (λ x. run s ts (x ∷ vs))) (sym same)

  -- a fault ends all
  pub faulty : (e : Tree) (ts : List Task) (vs : List ℤ) → found ≡ Err e → run s (Find c ∷ ts) vs ≡ Err e
  faulty e ts vs f = ap (λ w. then w (λ x. run s ts (x ∷ vs))) f

  pub no_functor_one : (e : Tree) → symbol_of (tree_of s c) ≡ Comp name 1 → None ≡ unary_named name → Err e ≡ not_evaluable name 1 → found ≡ Err e
  no_functor_one e h n w = value-one (tree_of s c) name h ∙ applied-no_unary name (value_of (argument_of (tree_of s c) 0)) n ∙ sym w

  pub no_functor_two : (e : Tree) → symbol_of (tree_of s c) ≡ Comp name 2 → None ≡ binary_named name → Err e ≡ not_evaluable name 2 → found ≡ Err e
  no_functor_two e h n w = value-two (tree_of s c) name h ∙ applied-no_binary name (value_of (argument_of (tree_of s c) 0)) (value_of (argument_of (tree_of s c) 1)) n ∙ sym w

  pub found_integer : (z : ℤ) (ts : List Task) (vs : List ℤ) → symbol_of (tree_of s c) ≡ Int z → run s ts (z ∷ vs) ≡ run s (Find c ∷ ts) vs
  found_integer z ts vs e = sym (ap (λ w. then w (λ x. run s ts (x ∷ vs))) (value-integer (tree_of s c) z e))

pub reverse-push : {A : Type 0} (xs : List A) (x : A) → reverse (xs ++ x ∷ []) ≡ x ∷ reverse xs
reverse-push xs x = reverse-append xs (x ∷ [])

-- two tasks more, and three
pub two_more : (ts us ws : List Task) (a b : Task) → us ≡ ts ++ a ∷ [] → ws ≡ us ++ b ∷ [] → reverse ws ≡ b ∷ a ∷ reverse ts
two_more ts us ws a b e f = ap reverse f ∙ reverse-push us b ∙ ap (λ xs. b ∷ xs) (ap reverse e ∙ reverse-push ts a)

pub three_more : (ts us ws xs : List Task) (a b d : Task) → us ≡ ts ++ a ∷ [] → ws ≡ us ++ b ∷ [] → xs ≡ ws ++ d ∷ [] → reverse xs ≡ d ∷ b ∷ a ∷ reverse ts
three_more ts us ws xs a b d e f g = ap reverse g ∙ reverse-push ws d ∙ ap (λ ys. d ∷ ys) (two_more ts us ws a b e f)

-- a part's value on top
pub pushed : (s : Cells) (ts : List Task) (ball : Option Tree) (before after : List ℤ) (v : Value) → part_result ball before after v → parted ball (run s ts (reverse after)) (then v (λ x. run s ts (x ∷ reverse before)))
pushed s ts (Some e) before after v h = ap (λ w. then w (λ x. run s ts (x ∷ reverse before))) h
pushed s ts None before after (Ok z) h = ap (λ (vs : List ℤ). run s ts vs) (ap reverse h ∙ reverse-push before z)
pushed s ts None before after (Err e) h = absurd h
