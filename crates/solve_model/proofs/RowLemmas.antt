-- What a goal's symbol and arguments tell of its row.
use Rattle.std.proofs.Common.{◌≡◌, ◌≢◌, ℕ, suc, ◌≤◌, ℤ, Bool, true, false, ◌&&◌, ◌==◌, nat_lt, nat_le, List, [], ◌∷◌, ◌++◌, length, codes, bytes_eq, refl, ap, sym, ◌∙◌, arith, if◌then◌else◌}
use Rattle.std.specs.Cmp.Lexicographic.{bytes_decides}
use Rattle.std.proofs.lemmas.Bool.{false_from_ne_true, and_parts, eqb-true, le-leb}
use borrow.Author.Tests.{leb-true}
use Rattle.term_core.specs.declared.node.Node.{Node}
use Rattle.term_core.specs.declared.node.Node.TheVariants as node
use Rattle.term_core.specs.Tree.{Tree, variable, integer, atom, compound, Trees, no_trees, tree, tree_list, trees_of, arity, greatest}
use Rattle.term_core.specs.Parts.{symbol_of, arguments_of}
use Rattle.term_core.specs.Variables.{above_all}
use Rattle.builtin_table.specs.Errors.{one_argument, two_arguments}
use Rattle.program.specs.Bodies.{is_body}
use Rattle.solve_model.specs.Goals.{Row, Ready, with_arguments, ready_compound, Call, Predicate, Runs, Throws, ready, not_callable, unbound_goal, row_named, row_of, row_of_atom, row_of_one, row_of_two, row_of_three, row_of_arguments, row_of_compound, is_call, indicator_of}
use Rattle.solve_model.specs.Rows.{is_call_of}

pub other_text : (f g : List ℕ) → (f ≡ g → ⊥) → bytes_eq f g ≡ false
other_text f g h = false_from_ne_true (bytes_eq f g) (λ e. h ((bytes_decides f g).0 e))

-- none of these rows has the name
abbrev pub NoneNamed : List ℕ → List (List ℕ × Row) → Type 0
NoneNamed f [] = Unit {0}
NoneNamed f (p ∷ ps) = (f ≡ p.0 → ⊥) × NoneNamed f ps

pub not_named : (f : List ℕ) (ps : List (List ℕ × Row)) (r : Row) → NoneNamed f ps → r ≡ row_named f ps r
not_named f [] r h = refl
not_named f (p ∷ ps) r h =
    not_named f ps r h.1 ∙ ap (λ (b : Bool). if b then p.1 else row_named f ps r) (sym (other_text f p.0 h.0))

pub length-arguments : (t : Tree) (f : List ℕ) (k : ℕ) → symbol_of t ≡ node.Comp f k → length (arguments_of t) ≡ k
length-arguments (variable n) f k e = cc
length-arguments (integer z) f k e = cc
length-arguments (atom g) f k e = cc
length-arguments (compound g ts) f k e = counted ts ∙ (let x : arity ts ≡ k = cc in x)
  where
    counted : (us : Trees) → length (tree_list us) ≡ arity us
    counted no_trees = refl
    counted (tree u us) = ap suc (counted us)

pub only_argument : (t : Tree) (f : List ℕ) (a x : Tree) → t ≡ one_argument f a → arguments_of t ≡ x ∷ [] → x ≡ a
only_argument t f a x e h = let same : a ∷ [] ≡ x ∷ [] = sym (ap arguments_of e) ∙ h in cc

pub both_arguments : (t : Tree) (f : List ℕ) (a b x y : Tree) → t ≡ two_arguments f a b → arguments_of t ≡ x ∷ y ∷ [] → (x ≡ a) × (y ≡ b)
both_arguments t f a b x y e h =
    let same : a ∷ b ∷ [] ≡ x ∷ y ∷ [] = sym (ap arguments_of e) ∙ h in (cc, cc)

abbrev pub three : List ℕ → (a b c : Tree) → Tree
three f a b c = compound f (trees_of (a ∷ b ∷ c ∷ []))

pub all_three : (t : Tree) (f : List ℕ) (a b c x y z : Tree) → t ≡ three f a b c → arguments_of t ≡ x ∷ y ∷ z ∷ [] → (x ≡ a) × (y ≡ b) × (z ≡ c)
all_three t f a b c x y z e h =
    let same : a ∷ b ∷ c ∷ [] ≡ x ∷ y ∷ z ∷ [] = sym (ap arguments_of e) ∙ h in (cc, cc, cc)

pub row_of_variable : (t : Tree) (n : ℕ) → symbol_of t ≡ node.Var n → Call t [] ≡ row_of t
unfolding row_of
row_of_variable (variable m) n e = refl
row_of_variable (integer z) n e = cc
row_of_variable (atom f) n e = cc
row_of_variable (compound f ts) n e = cc

pub row_of_integer : (t : Tree) (z : ℤ) → symbol_of t ≡ node.Int z → Call t [] ≡ row_of t
unfolding row_of
row_of_integer (variable m) n e = cc
row_of_integer (integer z) n e = refl
row_of_integer (atom f) n e = cc
row_of_integer (compound f ts) n e = cc

pub row_of_atomic : (t : Tree) (f : List ℕ) (r : Row) → symbol_of t ≡ node.Atom f → r ≡ row_of_atom f → r ≡ row_of t
unfolding row_of
row_of_atomic (variable m) f r e h = cc
row_of_atomic (integer z) f r e h = cc
row_of_atomic (atom g) f r e h = h ∙ ap row_of_atom (let x : f ≡ g = cc in x)
row_of_atomic (compound g ts) f r e h = cc

pub the_atom : (t : Tree) (f : List ℕ) → symbol_of t ≡ node.Atom f → t ≡ atom f
the_atom (variable m) f e = cc
the_atom (integer z) f e = cc
the_atom (atom g) f e = ap atom (let x : g ≡ f = cc in x)
the_atom (compound g ts) f e = cc

and_swapped : (a b : Bool) → (a && b) ≡ (b && a)
and_swapped true true = refl
and_swapped true false = refl
and_swapped false true = refl
and_swapped false false = refl

same_calls : (f : List ℕ) (n : ℕ) → is_call_of f (suc n) ≡ is_call f n
same_calls f n =
    ap (λ (b : Bool). (b && nat_le (suc n) 8) && bytes_eq f (codes "call")) (le-leb 1 (suc n) (omega arith)) ∙ and_swapped (nat_lt n 8) (bytes_eq f (codes "call"))

pub some_called : (f : List ℕ) (k : ℕ) → is_call_of f k ≡ true → 1 ≤ k
some_called f k h =
    leb-true 1 k ((and_parts (nat_le 1 k) (nat_le k 8) ((and_parts (nat_le 1 k && nat_le k 8) (bytes_eq f (codes "call")) h).0)).0)

pub row_of_added : (t : Tree) (f : List ℕ) (k : ℕ) (g : Tree) (ts : List Tree) → symbol_of t ≡ node.Comp f k → is_call_of f k ≡ true → arguments_of t ≡ g ∷ ts → Call g ts ≡ row_of t
unfolding row_of row_of_compound
row_of_added (variable n) f k g ts e h d = cc
row_of_added (integer z) f k g ts e h d = cc
row_of_added (atom a) f k g ts e h d = cc
row_of_added (compound a no_trees) f k g ts e h d = cc
row_of_added (compound a (tree u us)) f k g ts e h d =
    let name : a ≡ f = cc in
    let count : suc (arity us) ≡ k = cc in
    let first : u ≡ g = cc in
    let others : tree_list us ≡ ts = cc in
    let called : is_call a (arity us) ≡ true =
    sym (same_calls a (arity us)) ∙ ap (λ (b : List ℕ). is_call_of b (suc (arity us))) name ∙ ap (is_call_of f) count ∙ h in
    rw (called, first, others)

-- a goal that is no call, by its arguments
of_arguments : (a : List ℕ) (u : Tree) (us : Trees) (f : List ℕ) (k : ℕ) → symbol_of (compound a (tree u us)) ≡ node.Comp f k → is_call_of f k ≡ false → row_of (compound a (tree u us)) ≡ row_of_arguments a u us
unfolding row_of row_of_compound
of_arguments a u us f k e h =
    let name : a ≡ f = cc in
    let count : suc (arity us) ≡ k = cc in
    let called : is_call a (arity us) ≡ false =
    sym (same_calls a (arity us)) ∙ ap (λ (b : List ℕ). is_call_of b (suc (arity us))) name ∙ ap (is_call_of f) count ∙ h in
    rw called

pub row_by_one : (t : Tree) (f : List ℕ) (k : ℕ) (r : Row) → symbol_of t ≡ node.Comp f k → is_call_of f k ≡ false → k ≡ 1 → ((a : Tree) → t ≡ one_argument f a → r ≡ row_of_one f a) → r ≡ row_of t
unfolding row_of_arguments
row_by_one (variable n) f k r e h j g = cc
row_by_one (integer z) f k r e h j g = cc
row_by_one (atom a) f k r e h j g = cc
row_by_one (compound a no_trees) f k r e h j g = absurd (omega (arith, (let x : 0 ≡ k = cc in x), j))
row_by_one (compound a (tree u no_trees)) f k r e h j g =
    let name : a ≡ f = cc in
    g u (ap (λ (b : List ℕ). one_argument b u) name) ∙ ap (λ (b : List ℕ). row_of_one b u) (sym name) ∙ sym (of_arguments a u no_trees f k e h)
row_by_one (compound a (tree u (tree v us))) f k r e h j g =
    absurd (omega (arith, (let x : suc (suc (arity us)) ≡ k = cc in x), j))

pub row_by_two : (t : Tree) (f : List ℕ) (k : ℕ) (r : Row) → symbol_of t ≡ node.Comp f k → is_call_of f k ≡ false → k ≡ 2 → ((a b : Tree) → t ≡ two_arguments f a b → r ≡ row_of_two f a b) → r ≡ row_of t
unfolding row_of_arguments
row_by_two (variable n) f k r e h j g = cc
row_by_two (integer z) f k r e h j g = cc
row_by_two (atom a) f k r e h j g = cc
row_by_two (compound a no_trees) f k r e h j g = absurd (omega (arith, (let x : 0 ≡ k = cc in x), j))
row_by_two (compound a (tree u no_trees)) f k r e h j g = absurd (omega (arith, (let x : 1 ≡ k = cc in x), j))
row_by_two (compound a (tree u (tree v no_trees))) f k r e h j g =
    let name : a ≡ f = cc in
    g u v (ap (λ (b : List ℕ). two_arguments b u v) name) ∙ ap (λ (b : List ℕ). row_of_two b u v) (sym name) ∙ sym (of_arguments a u (tree v no_trees) f k e h)
row_by_two (compound a (tree u (tree v (tree x us)))) f k r e h j g =
    absurd (omega (arith, (let y : suc (suc (suc (arity us))) ≡ k = cc in y), j))

pub row_by_three : (t : Tree) (f : List ℕ) (k : ℕ) (r : Row) → symbol_of t ≡ node.Comp f k → is_call_of f k ≡ false → k ≡ 3 → ((a b c : Tree) → t ≡ three f a b c → r ≡ row_of_three f a b c) → r ≡ row_of t
unfolding row_of_arguments
row_by_three (variable n) f k r e h j g = cc
row_by_three (integer z) f k r e h j g = cc
row_by_three (atom a) f k r e h j g = cc
row_by_three (compound a no_trees) f k r e h j g = absurd (omega (arith, (let x : 0 ≡ k = cc in x), j))
row_by_three (compound a (tree u no_trees)) f k r e h j g = absurd (omega (arith, (let x : 1 ≡ k = cc in x), j))
row_by_three (compound a (tree u (tree v no_trees))) f k r e h j g =
    absurd (omega (arith, (let x : 2 ≡ k = cc in x), j))
row_by_three (compound a (tree u (tree v (tree x no_trees)))) f k r e h j g =
    let name : a ≡ f = cc in
    g u v x (ap (λ (b : List ℕ). three b u v x) name) ∙ ap (λ (b : List ℕ). row_of_three b u v x) (sym name) ∙ sym (of_arguments a u (tree v (tree x no_trees)) f k e h)
row_by_three (compound a (tree u (tree v (tree x (tree y us))))) f k r e h j g =
    absurd (omega (arith, (let z : suc (suc (suc (suc (arity us)))) ≡ k = cc in z), j))

pub row_by_more : (t : Tree) (f : List ℕ) (k : ℕ) → symbol_of t ≡ node.Comp f k → is_call_of f k ≡ false → (k ≡ 1 → ⊥) → (k ≡ 2 → ⊥) → (k ≡ 3 → ⊥) → Predicate (indicator_of t) t ≡ row_of t
unfolding row_of row_of_compound row_of_arguments
row_by_more (variable n) f k e h i j l = cc
row_by_more (integer z) f k e h i j l = cc
row_by_more (atom a) f k e h i j l = cc
row_by_more (compound a no_trees) f k e h i j l = refl
row_by_more (compound a (tree u no_trees)) f k e h i j l = absurd (i (let x : k ≡ 1 = cc in x))
row_by_more (compound a (tree u (tree v no_trees))) f k e h i j l = absurd (j (let x : k ≡ 2 = cc in x))
row_by_more (compound a (tree u (tree v (tree x no_trees)))) f k e h i j l = absurd (l (let y : k ≡ 3 = cc in y))
row_by_more (compound a (tree u (tree v (tree x (tree y us))))) f k e h i j l =
    sym (of_arguments a u (tree v (tree x (tree y us))) f k e h)

pub greatest_le : (ns : List ℕ) → greatest ns ≤ above_all ns
greatest_le [] = omega arith
greatest_le (n ∷ ns) = omega (arith, greatest_le ns)

-- ---- terms made ready

pub ready_variable : (t : Tree) (n : ℕ) → symbol_of t ≡ node.Var n → Throws unbound_goal ≡ ready t
unfolding ready
ready_variable (variable m) n e = refl
ready_variable (integer z) n e = cc
ready_variable (atom f) n e = cc
ready_variable (compound f ts) n e = cc

pub ready_other : (t : Tree) → ((n : ℕ) → symbol_of t ≡ node.Var n → ⊥) → (if is_body t then Runs t else Throws (not_callable t)) ≡ ready t
unfolding ready
ready_other (variable n) h = absurd (h n refl)
ready_other (integer z) h = refl
ready_other (atom f) h = refl
ready_other (compound f ts) h = refl

-- ---- arguments that are added

pub none_added : (ts : List Tree) (n : ℕ) → n ≡ length ts → (n == 0) ≡ true → ts ≡ []
none_added [] n e h = refl
none_added (t ∷ ts) n e h = absurd (omega (arith, e, eqb-true n 0 h))

pub some_added : (ts : List Tree) (n : ℕ) → n ≡ length ts → (n == 0) ≡ false → ts ≢ []
some_added [] n e h d = let x : true ≡ false = sym (ap (λ (m : ℕ). m == 0) e) ∙ h in cc
some_added (t ∷ ts) n e h d = cc

pub added_none : (t : Tree) (ts : List Tree) → ts ≡ [] → ready t ≡ with_arguments t ts
unfolding with_arguments
added_none (variable n) [] e = refl
added_none (integer z) [] e = refl
added_none (atom f) [] e = refl
added_none (compound f us) [] e = refl
added_none (variable n) (u ∷ ts) e = cc
added_none (integer z) (u ∷ ts) e = cc
added_none (atom f) (u ∷ ts) e = cc
added_none (compound f us) (u ∷ ts) e = cc

-- what comes of adding some arguments to a goal of this symbol
abbrev pub added_to : Node → Tree → List Tree → Ready
added_to (node.Var n) t ts = Throws unbound_goal
added_to (node.Int z) t ts = Throws (not_callable t)
added_to (node.Atom f) t ts = ready_compound f ts
added_to (node.Comp f k) t ts = ready_compound f (arguments_of t ++ ts)

pub added_by_symbol : (t : Tree) (n : Node) (ts : List Tree) → symbol_of t ≡ n → ts ≢ [] → added_to n t ts ≡ with_arguments t ts
unfolding with_arguments
added_by_symbol t n [] e h = absurd (h refl)
added_by_symbol (variable m) n (u ∷ us) e h = ap (λ (x : Node). added_to x (variable m) (u ∷ us)) (sym e)
added_by_symbol (integer z) n (u ∷ us) e h = ap (λ (x : Node). added_to x (integer z) (u ∷ us)) (sym e)
added_by_symbol (atom f) n (u ∷ us) e h = ap (λ (x : Node). added_to x (atom f) (u ∷ us)) (sym e)
added_by_symbol (compound f ts) n (u ∷ us) e h =
    ap (λ (x : Node). added_to x (compound f ts) (u ∷ us)) (sym e)
