-- What a text shows, a node at a time.
use Rattle.std.proofs.Common.{◌≡◌, ℕ, take, drop, get_or, zero, suc, ◌+◌, ◌-◌, ◌<◌, ◌≤◌, Bool, true, false, ◌&&◌, ◌==◌, List, [], ◌∷◌, ◌++◌, length, reverse, nat_lt, if◌then◌else◌, codes, bytes_eq, Option, Some, None, refl, ap, sym, subst, ◌∙◌, append_assoc, append-nil, arith}
use Rattle.std.specs.Bool.{⊤}
use Rattle.std.specs.List.{flat_map}
use Rattle.std.proofs.lemmas.Bool.{lt-ltb, le-ltb, ltb-true, and_parts, eqb-true}
use Rattle.std.proofs.lemmas.List.{reverse-reverse, reverse-append, length-append, length-take, length-drop, take_all, take-append-drop, at_drop_more}
use Rattle.term_core.specs.declared.pi.Pi.{Pi}
use Rattle.term_core.specs.declared.node.Node.{Node}
use Rattle.term_core.specs.declared.node.Node.TheVariants.{Var, Int, Atom, Comp}
use Rattle.term_core.specs.Tree.{Tree, variable, integer, atom, compound, Trees, no_trees, tree, tree_list, trees_of, arity, IsTerm}
use Rattle.term_core.specs.Parts.{symbol_of, arguments_of}
use Rattle.term_core.specs.Flat.{flatten, build-flatten, build, grow, first_tree, parse}
use Rattle.term_core.specs.Preorder.{count_of, ArePreorder, AreTermNodes}
use Rattle.term_core.proofs.Preorder.{flatten-build, length-build_le, AreTermNodes-drop, IsTerm-parse}
use Rattle.term_core.proofs.Lists.{arity-trees_of}
use Rattle.program.specs.Bodies.{is_body, is_connective, are_bodies}
use Rattle.program.specs.Symbols.{with_node, node_bodies}
use Rattle.program.proofs.BodyLemmas.{node_bodies-flatten}
use Rattle.sandbox_walk.specs.declared.found.Kind.{Kind}
use Rattle.sandbox_walk.specs.declared.found.Kind.TheVariants.{Plain, Part, Adds, Behind}
use Rattle.sandbox_walk.specs.declared.found.Stands.TheVariants.{Opens, Unbound, Shut}
use Rattle.sandbox_walk.specs.declared.found.Found.{Found}
use Rattle.sandbox_walk.specs.declared.found.Found.TheVariants.{Literal, Place}
use Rattle.sandbox_walk.specs.declared.shown.Task.{Task}
use Rattle.sandbox_walk.specs.declared.shown.Task.TheVariants.{Argument, Fresh}
use Rattle.sandbox_walk.specs.Shown.{Kinds, shown, shown_in, fresh, fresh_one, indicator, called_variable, variables_added, with_variables, stands, stands_if, placed, too_many, is_hat}
use Rattle.sandbox_walk.specs.Pending.{body_of, with_body, tree_bodies, bodies_at, extends, tasks_show, needs, HasNode, IsReading, tasks_of, literal_tasks, skipped_node, part_found, part_tasks, compound_found, compound_tasks, goal_node_found, goal_node_tasks, is_hat_symbol, found_by, tasks_by}

-- ---- tasks

tasks_next : (f : Kind → Task) (n : ℕ) (xs : List Kind) → tasks_of f (suc n) xs ≡ tasks_of f n xs ++ f (get_or xs n Plain) ∷ []
tasks_next f zero [] = refl
tasks_next f zero (x ∷ xs) = refl
tasks_next f (suc n) [] = ap (λ (ts : List Task). f Plain ∷ ts) (tasks_next f n [])
tasks_next f (suc n) (x ∷ xs) = ap (λ (ts : List Task). f x ∷ ts) (tasks_next f n xs)

-- one task more
pub tasks_more : (f : Kind → Task) (n : ℕ) (xs : List Kind) → tasks_of f (n + 1) xs ≡ tasks_of f n xs ++ f (get_or xs n Plain) ∷ []
tasks_more f n xs = let e : n + 1 ≡ suc n = omega arith in rw e (tasks_next f n xs)

needs-append : (ts rest : List Task) → needs (ts ++ rest) ≡ needs ts + needs rest
needs-append [] rest = omega arith
needs-append (Argument h x ∷ ts) rest = omega (arith, needs-append ts rest)
needs-append (Fresh h x ∷ ts) rest = needs-append ts rest

needs_arguments : (h : Option Pi) (n : ℕ) (xs : List Kind) → needs (tasks_of (Argument h) n xs) ≡ n
needs_arguments h zero xs = refl
needs_arguments h (suc n) [] = ap suc (needs_arguments h n [])
needs_arguments h (suc n) (x ∷ xs) = ap suc (needs_arguments h n xs)

needs_fresh : (h : Option Pi) (n : ℕ) (xs : List Kind) → needs (tasks_of (Fresh h) n xs) ≡ 0
needs_fresh h zero xs = refl
needs_fresh h (suc n) [] = needs_fresh h n []
needs_fresh h (suc n) (x ∷ xs) = needs_fresh h n xs

length-tree_list : (ts : Trees) → length (tree_list ts) ≡ arity ts
length-tree_list no_trees = refl
length-tree_list (tree t ts) = ap suc (length-tree_list ts)

-- what is said of the found and the tasks of a term that is opened
record Opened (ks : Kinds) (h : Option Pi) (x : Kind) (t : Tree) (fs : List Found) (ts : List Task) : Type 0 where
  shows : (rest : List Task) (us : List Tree) → fs ++ tasks_show ks (ts ++ rest) (arguments_of t ++ us) ≡ shown ks h t x ++ tasks_show ks rest us
  takes : needs ts ≡ length (arguments_of t)

module _ (ks : Kinds) where
  shows_fresh : (h : Option Pi) (k : ℕ) (xs : List Kind) (rest : List Task) (us : List Tree) → tasks_show ks (tasks_of (Fresh h) k xs ++ rest) us ≡ fresh h k xs ++ tasks_show ks rest us
  unfolding fresh
  shows_fresh h zero xs rest us = refl
  shows_fresh h (suc k) [] rest us = shows_fresh h k [] rest us ∙ ap (λ (fs : List Found). fs ++ tasks_show ks rest us) (none k)
    where
      none : (n : ℕ) → fresh h n [] ≡ []
      none zero = refl
      none (suc n) = refl
  shows_fresh h (suc k) (x ∷ xs) rest us =
      ap (λ (fs : List Found). fresh_one h x ++ fs) (shows_fresh h k xs rest us) ∙ sym (append_assoc (fresh_one h x) (fresh h k xs) (tasks_show ks rest us))

  shows_skipped : (h : Option Pi) (ts : Trees) (rest : List Task) (us : List Tree) → tasks_show ks (tasks_of (Argument h) (arity ts) [] ++ rest) (tree_list ts ++ us) ≡ tasks_show ks rest us
  unfolding shown
  shows_skipped h no_trees rest us = refl
  shows_skipped h (tree t ts) rest us = shows_skipped h ts rest us

  shows_arguments : (h : Option Pi) (ts : Trees) (xs : List Kind) (k : ℕ) (rest : List Task) (us : List Tree) →
      tasks_show ks (tasks_of (Argument h) (arity ts) xs ++ (tasks_of (Fresh h) k (drop (arity ts) xs) ++ rest)) (tree_list ts ++ us) ≡ shown_in ks h ts xs k ++ tasks_show ks rest us
  unfolding shown fresh
  shows_arguments h no_trees xs k rest us = shows_fresh h k xs rest us
  shows_arguments h (tree t ts) [] k rest us =
      shows_skipped h ts (tasks_of (Fresh h) k [] ++ rest) us ∙ shows_fresh h k [] rest us ∙ ap (λ (fs : List Found). fs ++ tasks_show ks rest us) (none k)
    where
      none : (n : ℕ) → fresh h n [] ≡ []
      none zero = refl
      none (suc n) = refl
  shows_arguments h (tree t ts) (x ∷ xs) k rest us =
      ap (λ (fs : List Found). shown ks h t x ++ fs) (shows_arguments h ts xs k rest us) ∙ sym (append_assoc (shown ks h t x) (shown_in ks h ts xs k) (tasks_show ks rest us))

  shows_literal : (f : List ℕ) (ts : Trees) (k : ℕ) (rest : List Task) (us : List Tree) →
      tasks_show ks (literal_tasks ks f (arity ts) k ++ rest) (tree_list ts ++ us) ≡ shown_in ks (Some (indicator f (arity ts + k))) ts (ks (indicator f (arity ts + k))) k ++ tasks_show ks rest us
  shows_literal f ts k rest us =
      let h : Option Pi = Some (indicator f (arity ts + k)) in
      let xs : List Kind = ks (indicator f (arity ts + k)) in
      ap (λ (all : List Task). tasks_show ks all (tree_list ts ++ us)) (append_assoc (tasks_of (Argument h) (arity ts) xs) (tasks_of (Fresh h) k (drop (arity ts) xs)) rest)
      ∙ shows_arguments h ts xs k rest us

  needs_literal : (f : List ℕ) (ts : Trees) (k : ℕ) → needs (literal_tasks ks f (arity ts) k) ≡ length (tree_list ts)
  needs_literal f ts k =
      let h : Option Pi = Some (indicator f (arity ts + k)) in
      let xs : List Kind = ks (indicator f (arity ts + k)) in
      omega (arith, needs-append (tasks_of (Argument h) (arity ts) xs) (tasks_of (Fresh h) k (drop (arity ts) xs)), needs_arguments h (arity ts) xs, needs_fresh h k (drop (arity ts) xs), length-tree_list ts)

-- a literal of these arguments and k fresh variables
abbrev literal_shown : Kinds → List ℕ → Trees → ℕ → List Found
literal_shown ks f ts k =
    Literal (indicator f (arity ts + k)) ∷ shown_in ks (Some (indicator f (arity ts + k))) ts (ks (indicator f (arity ts + k))) k

no_more : (ks : Kinds) (f : List ℕ) (ts : Trees) → literal_shown ks f ts 0 ≡ Literal (indicator f (arity ts)) ∷ shown_in ks (Some (indicator f (arity ts))) ts (ks (indicator f (arity ts))) 0
no_more ks f ts =
    ap (λ (n : ℕ). Literal (indicator f n) ∷ shown_in ks (Some (indicator f n)) ts (ks (indicator f n)) 0) (plus_zero (arity ts))
  where
    plus_zero : (n : ℕ) → n + 0 ≡ n
    plus_zero n = omega arith

-- ---- where bodies begin

-- the answers for the first term and for its first argument
abbrev pub Marked : List Bool → Tree → Type 0
Marked bs (variable n) = ⊤
Marked bs (integer z) = ⊤
Marked bs (atom f) = ⊤
Marked bs (compound f no_trees) = ⊤
Marked bs (compound f (tree u us)) = (get_or bs 0 true ≡ is_body (compound f (tree u us))) × (get_or bs 1 true ≡ is_body u)

abbrev last_of : List Bool → Bool
last_of [] = true
last_of (b ∷ []) = b
last_of (b ∷ (c ∷ bs)) = last_of (c ∷ bs)

last-append : (bs : List Bool) (b : Bool) → last_of (bs ++ b ∷ []) ≡ b
last-append [] b = refl
last-append (c ∷ []) b = refl
last-append (c ∷ (d ∷ bs)) b = last-append (d ∷ bs) b

with_body-node : (n : Node) (bs : List Bool) → with_body n bs ≡ with_node n bs
with_body-node (Var n) bs = ap (λ (cs : List Bool). cs ++ true ∷ []) (take_all (length bs - 0) bs (omega arith))
with_body-node (Int z) bs = ap (λ (cs : List Bool). cs ++ false ∷ []) (take_all (length bs - 0) bs (omega arith))
with_body-node (Atom f) bs = ap (λ (cs : List Bool). cs ++ true ∷ []) (take_all (length bs - 0) bs (omega arith))
with_body-node (Comp f k) bs = refl

tree_bodies-nodes : (ns : List Node) → tree_bodies ns ≡ node_bodies ns
tree_bodies-nodes [] = refl
tree_bodies-nodes (n ∷ ns) = with_body-node n (tree_bodies ns) ∙ ap (with_node n) (tree_bodies-nodes ns)

first_and_rest : (n : Node) (us : List Tree) → grow n us ≡ first_tree (grow n us) ∷ drop 1 (grow n us)
first_and_rest (Var n) us = refl
first_and_rest (Int z) us = refl
first_and_rest (Atom f) us = refl
first_and_rest (Comp f k) us = refl

body_first : (n : Node) (ns : List Node) → ArePreorder (n ∷ ns) → body_of n (tree_bodies ns) ≡ is_body (first_tree (build (n ∷ ns)))
body_first n ns h =
    let t : Tree = first_tree (grow n (build ns)) in
    let us : List Tree = drop 1 (grow n (build ns)) in
    let nodes : flatten t ++ flat_map flatten us ≡ n ∷ ns = ap (flat_map flatten) (sym (first_and_rest n (build ns))) ∙ flatten-build (n ∷ ns) h in
    let bs : List Bool = tree_bodies ns in
    sym (last-append (take (length bs - count_of n) bs) (body_of n bs))
    ∙ ap last_of (tree_bodies-nodes (n ∷ ns) ∙ ap node_bodies (sym nodes) ∙ node_bodies-flatten t (flat_map flatten us))
    ∙ last-append (node_bodies (flat_map flatten us)) (is_body t)

pub marked : (ns : List Node) → ArePreorder ns → Marked (bodies_at ns) (parse ns)
marked [] h = tt
marked (Var n ∷ ns) h = tt
marked (Int z ∷ ns) h = tt
marked (Atom f ∷ ns) h = tt
marked (Comp f k ∷ ns) h = by k ns h
  where
    by : (j : ℕ) (ms : List Node) → ArePreorder (Comp f j ∷ ms) → Marked (bodies_at (Comp f j ∷ ms)) (compound f (trees_of (take j (build ms))))
    by zero ms a = tt
    by (suc j) [] a = tt
    by (suc j) (m ∷ ms) a = two (build (m ∷ ms)) refl
      where
        two : (us : List Tree) → build (m ∷ ms) ≡ us → Marked (bodies_at (Comp f (suc j) ∷ (m ∷ ms))) (compound f (trees_of (take (suc j) us)))
        two [] e = tt
        two (u ∷ us) e =
            (body_first (Comp f (suc j)) (m ∷ ms) a ∙ ap (λ (vs : List Tree). is_body (compound f (trees_of (take (suc j) vs)))) e, body_first m ms a.1 ∙ ap (λ (vs : List Tree). is_body (first_tree vs)) e)

-- one node from the back
pub bodies_more : (ns : List Node) (i : ℕ) (n : Node) → i < length ns → n ≡ get_or ns (length ns - 1 - i) n → (F : List Node → List Bool) → F (drop (length ns - (i + 1)) ns) ≡ F (n ∷ drop (length ns - i) ns)
bodies_more ns i n h e F =
    let here : length ns - (i + 1) ≡ length ns - 1 - i = omega arith in
    let next : length ns - 1 - i + 1 ≡ length ns - i = omega (arith, h) in
    ap (λ (k : ℕ). F (drop k ns)) here ∙ at_drop_more F ns (length ns - 1 - i) n (omega (arith, h))
    ∙ ap (λ (m : Node). F (m ∷ drop (length ns - 1 - i + 1) ns)) (sym e)
    ∙ ap (λ (k : ℕ). F (n ∷ drop k ns)) next

with_none : (ts : Trees) → with_variables ts 0 ≡ ts
with_none no_trees = refl
with_none (tree t ts) = ap (tree t) (with_none ts)

arity-added : (k : ℕ) → arity (variables_added k) ≡ k
arity-added zero = refl
arity-added (suc k) = ap suc (arity-added k)

arity-with : (ts : Trees) (k : ℕ) → arity (with_variables ts k) ≡ arity ts + k
arity-with no_trees k = omega (arith, arity-added k)
arity-with (tree t ts) k = omega (arith, arity-with ts k)

compound_body : (f : List ℕ) (vs : Trees) → is_body (compound f vs) ≡ (if is_connective f && arity vs == 2 then are_bodies vs else true)
unfolding is_body
compound_body f vs = refl

and_true : (b : Bool) → b ≡ (b && (true && true))
and_true true = refl
and_true false = refl

some_added : (n : ℕ) → (suc n == 0) ≡ false
some_added n = grind arith

-- one argument and one fresh variable
one_body : (u : Tree) (vs : Trees) (i : ℕ) → suc (arity vs) + suc i ≡ 2 → is_body u ≡ are_bodies (tree u (with_variables vs (suc i)))
unfolding is_body
one_body u no_trees zero e = and_true (is_body u)
one_body u no_trees (suc i) e = absurd (omega (arith, e))
one_body u (tree v vs) i e = absurd (omega (arith, e))

-- whether a compound with fresh variables behind its arguments is a body
extends-body : (f : List ℕ) (ts : Trees) (k : ℕ) (bs : List Bool) → 1 ≤ arity ts → Marked bs (compound f ts) → extends k f (arity ts) bs ≡ is_body (compound f (with_variables ts k))
extends-body f no_trees k bs s m = absurd (omega (arith, s))
extends-body f (tree u us) zero bs s m = m.0 ∙ ap (λ (vs : Trees). is_body (compound f vs)) (sym (with_none (tree u us)))
extends-body f (tree u us) (suc j) bs s m =
    ap (λ (b : Bool). if b then get_or bs 0 true else if is_connective f && arity (tree u us) + suc j == 2 then get_or bs 1 true else true) (some_added j)
    ∙ by (is_connective f && arity (tree u us) + suc j == 2) refl
    ∙ ap (λ (n : ℕ). if is_connective f && n == 2 then are_bodies (with_variables (tree u us) (suc j)) else true) (sym (arity-with (tree u us) (suc j)))
    ∙ sym (compound_body f (with_variables (tree u us) (suc j)))
  where
    by : (b : Bool) → (is_connective f && arity (tree u us) + suc j == 2) ≡ b →
        (if is_connective f && arity (tree u us) + suc j == 2 then get_or bs 1 true else true) ≡ (if is_connective f && arity (tree u us) + suc j == 2 then are_bodies (with_variables (tree u us) (suc j)) else true)
    by true e = rw e (m.1 ∙ one_body u us j (eqb-true (arity (tree u us) + suc j) 2 (and_parts (is_connective f) (arity (tree u us) + suc j == 2) e).1))
    by false e = rw e refl

-- ---- one term

module _ (ks : Kinds) (h : Option Pi) where
  -- a compound by whether it has too many arguments, and whether it is a body
  goal_by : (f : List ℕ) (us : Trees) (k : ℕ) (many body : Bool) → too_many k (arity us + k) ≡ many → is_body (compound f (with_variables us k)) ≡ body → shown ks h (compound f us) (Adds k) ≡ (if many then Place h Opens ∷ [] else placed h (stands_if body (compound f us)) (literal_shown ks f us k))
  unfolding shown
  goal_by f us k many body e g = rw (e, g) refl

  many_at : (k n : ℕ) → n ≤ 1024 → 1024 < n + k → too_many k (n + k) ≡ true
  many_at k n h g = rw (lt-ltb 0 k (omega (arith, h, g)), lt-ltb 1024 (n + k) g) refl

  few_at : (k n : ℕ) → n + k ≤ 1024 → too_many k (n + k) ≡ false
  few_at k n g = by (nat_lt 0 k)
    where
      by : (b : Bool) → (b && nat_lt 1024 (n + k)) ≡ false
      by true = le-ltb 1024 (n + k) g
      by false = refl

  -- a goal behind `^`
  hat_by : (f : List ℕ) (us : Trees) (b : Bool) → is_hat f (arity us) ≡ b → shown ks h (compound f us) Behind ≡ (if b then shown_in ks h us (Plain ∷ Behind ∷ []) 0 else placed h (stands 0 f us) (literal_shown ks f us 0))
  unfolding shown
  hat_by f us b e = rw (e, no_more ks f us) refl

  -- without one it is read as any goal
  pub no_hat : (t : Tree) → is_hat_symbol (symbol_of t) ≡ false → shown ks h t (Adds 0) ≡ shown ks h t Behind
  unfolding shown fresh
  no_hat (variable n) e = refl
  no_hat (integer z) e = refl
  no_hat (atom f) e = refl
  no_hat (compound f us) e = sym (hat_by f us false e)

  opens_plain : (t : Tree) → Opened ks h Plain t [] (skipped_node (symbol_of t))
  unfolding shown
  opens_plain (variable n) = record { shows = λ rest us. refl; takes = refl }
  opens_plain (integer z) = record { shows = λ rest us. refl; takes = refl }
  opens_plain (atom f) = record { shows = λ rest us. refl; takes = refl }
  opens_plain (compound f ts) = record { shows = λ rest us. shows_skipped ks None ts rest us; takes = needs_arguments None (arity ts) [] ∙ sym (length-tree_list ts) }

  opens_part : (t : Tree) → Opened ks h Part t (part_found (symbol_of t)) (part_tasks ks (symbol_of t))
  unfolding shown
  opens_part (variable n) = record { shows = λ rest us. refl; takes = refl }
  opens_part (integer z) = record { shows = λ rest us. refl; takes = refl }
  opens_part (atom f) = record { shows = λ rest us. refl; takes = refl }
  opens_part (compound f ts) = record {
    shows = λ rest us. ap (λ (fs : List Found). Literal (indicator f (arity ts + 0)) ∷ fs) (shows_literal ks f ts 0 rest us) ∙ ap (λ (fs : List Found). fs ++ tasks_show ks rest us) (no_more ks f ts);
    takes = needs_literal ks f ts 0;
  }

  too_many_by : (k n : ℕ) (b : Bool) → n ≤ 1024 → nat_lt 1024 (n + k) ≡ b → too_many k (n + k) ≡ b
  too_many_by k n true l e = many_at k n l (ltb-true 1024 (n + k) e)
  too_many_by k n false l e = by (nat_lt 0 k)
    where
      by : (b : Bool) → (b && nat_lt 1024 (n + k)) ≡ false
      by true = e
      by false = refl

  opens_compound : (f : List ℕ) (ts : Trees) (k : ℕ) (many body : Bool) → too_many k (arity ts + k) ≡ many → is_body (compound f (with_variables ts k)) ≡ body →
      Opened ks h (Adds k) (compound f ts) (compound_found h (compound f ts) f (arity ts) k many body) (compound_tasks ks f (arity ts) k many body)
  opens_compound f ts k true body e g = record {
    shows = λ rest us. ap (λ (fs : List Found). Place h Opens ∷ fs) (shows_skipped ks None ts rest us) ∙ ap (λ (fs : List Found). fs ++ tasks_show ks rest us) (sym (goal_by f ts k true body e g));
    takes = needs_arguments None (arity ts) [] ∙ sym (length-tree_list ts);
  }
  opens_compound f ts k false false e g = record {
    shows = λ rest us. ap (λ (fs : List Found). Place h (Shut (compound f ts)) ∷ fs) (shows_skipped ks None ts rest us) ∙ ap (λ (fs : List Found). fs ++ tasks_show ks rest us) (sym (goal_by f ts k false false e g));
    takes = needs_arguments None (arity ts) [] ∙ sym (length-tree_list ts);
  }
  opens_compound f ts k false true e g = record {
    shows = λ rest us. ap (λ (fs : List Found). Place h Opens ∷ Literal (indicator f (arity ts + k)) ∷ fs) (shows_literal ks f ts k rest us) ∙ ap (λ (fs : List Found). fs ++ tasks_show ks rest us) (sym (goal_by f ts k false true e g));
    takes = needs_literal ks f ts k;
  }

  opens_goal : (t : Tree) (k : ℕ) (bs : List Bool) → IsTerm t → Marked bs t → Opened ks h (Adds k) t (goal_node_found h k t bs (symbol_of t)) (goal_node_tasks ks k bs (symbol_of t))
  unfolding shown
  opens_goal (variable n) k bs w m = record { shows = λ rest us. refl; takes = refl }
  opens_goal (integer z) k bs w m = record { shows = λ rest us. refl; takes = refl }
  opens_goal (atom f) k bs w m = record {
    shows = λ rest us.
        ap (λ (fs : List Found). Place h Opens ∷ Literal (indicator f k) ∷ fs)
        (shows_literal ks f no_trees k rest us ∙ ap (λ (n : ℕ). shown_in ks (Some (indicator f n)) no_trees (ks (indicator f n)) k ++ tasks_show ks rest us) (let e : 0 + k ≡ k = omega arith in e));
    takes = needs_literal ks f no_trees k;
  }
  opens_goal (compound f ts) k bs w m =
      opens_compound f ts k (nat_lt 1024 (arity ts + k)) (extends k f (arity ts) bs) (too_many_by k (arity ts) (nat_lt 1024 (arity ts + k)) w.1 refl) (sym (extends-body f ts k bs w.0 m))

  opens_hat : (t : Tree) → is_hat_symbol (symbol_of t) ≡ true → Opened ks h Behind t [] (tasks_of (Argument h) 2 (Plain ∷ Behind ∷ []))
  opens_hat (variable n) e = cc
  opens_hat (integer z) e = cc
  opens_hat (atom f) e = cc
  opens_hat (compound f ts) e =
      let two : arity ts ≡ 2 = eqb-true (arity ts) 2 (and_parts (bytes_eq f (codes "^")) (arity ts == 2) e).1 in
      record {
        shows = λ rest us.
            ap (λ (n : ℕ). tasks_show ks (tasks_of (Argument h) n (Plain ∷ Behind ∷ []) ++ rest) (tree_list ts ++ us)) (sym two)
            ∙ shows_arguments ks h ts (Plain ∷ Behind ∷ []) 0 rest us
            ∙ ap (λ (fs : List Found). fs ++ tasks_show ks rest us) (sym (hat_by f ts true e));
        takes = sym two ∙ sym (length-tree_list ts);
      }

  opens_behind : (t : Tree) (bs : List Bool) (b : Bool) → IsTerm t → Marked bs t → is_hat_symbol (symbol_of t) ≡ b →
      Opened ks h Behind t (if b then [] else goal_node_found h 0 t bs (symbol_of t)) (if b then tasks_of (Argument h) 2 (Plain ∷ Behind ∷ []) else goal_node_tasks ks 0 bs (symbol_of t))
  opens_behind t bs true w m e = opens_hat t e
  opens_behind t bs false w m e = record {
    shows = λ rest us. (opens_goal t 0 bs w m).shows rest us ∙ ap (λ (fs : List Found). fs ++ tasks_show ks rest us) (no_hat t e);
    takes = (opens_goal t 0 bs w m).takes;
  }

-- ---- one node

symbol_first : (n : Node) (us : List Tree) → count_of n ≤ length us → symbol_of (first_tree (grow n us)) ≡ n
symbol_first (Var n) us e = refl
symbol_first (Int z) us e = refl
symbol_first (Atom f) us e = refl
symbol_first (Comp f k) us e = ap (Comp f) (arity-trees_of (take k us) ∙ omega (arith, length-take k us, e))

tree_list-trees_of : (ts : List Tree) → tree_list (trees_of ts) ≡ ts
tree_list-trees_of [] = refl
tree_list-trees_of (t ∷ ts) = ap (λ (us : List Tree). t ∷ us) (tree_list-trees_of ts)

behind_first : (n : Node) (us : List Tree) → us ≡ arguments_of (first_tree (grow n us)) ++ drop 1 (grow n us)
behind_first (Var n) us = refl
behind_first (Int z) us = refl
behind_first (Atom f) us = refl
behind_first (Comp f k) us = sym (take-append-drop k us) ∙ ap (λ (vs : List Tree). vs ++ drop k us) (sym (tree_list-trees_of (take k us)))

opens_by : (ks : Kinds) (h : Option Pi) (x : Kind) (n : Node) (ns : List Node) → AreTermNodes (n ∷ ns) → Opened ks h x (parse (n ∷ ns)) (found_by h x (n ∷ ns) (bodies_at (n ∷ ns))) (tasks_by ks x h (n ∷ ns) (bodies_at (n ∷ ns)))
opens_by ks h x n ns a = by x
  where
    t : Tree
    t = parse (n ∷ ns)

    bs : List Bool
    bs = bodies_at (n ∷ ns)

    is : symbol_of t ≡ n
    is = symbol_first n (build ns) a.preorder.0

    w : IsTerm t
    w = IsTerm-parse (n ∷ ns) a

    m : Marked bs t
    m = marked (n ∷ ns) a.preorder

    by : (y : Kind) → Opened ks h y t (found_by h y (n ∷ ns) bs) (tasks_by ks y h (n ∷ ns) bs)
    by Plain = subst (λ (s : Node). Opened ks h Plain t [] (skipped_node s)) is (opens_plain ks h t)
    by Part = subst (λ (s : Node). Opened ks h Part t (part_found s) (part_tasks ks s)) is (opens_part ks h t)
    by (Adds k) = subst (λ (s : Node). Opened ks h (Adds k) t (goal_node_found h k t bs s) (goal_node_tasks ks k bs s)) is (opens_goal ks h t k bs w m)
    by Behind =
        subst (λ (s : Node). Opened ks h Behind t (if is_hat_symbol s then [] else goal_node_found h 0 t bs s) (if is_hat_symbol s then tasks_of (Argument h) 2 (Plain ∷ Behind ∷ []) else goal_node_tasks ks 0 bs s)) is
        (opens_behind ks h t bs (is_hat_symbol (symbol_of t)) w m refl)

-- ---- one turn

module _ (ks : Kinds) (whole found : List Found) (rest : List Task) where
  node_turn : (h : Option Pi) (x : Kind) (n : Node) (ns : List Node) → AreTermNodes (n ∷ ns) → IsReading ks whole found (Argument h x ∷ rest) (build (n ∷ ns)) →
      IsReading ks whole (found ++ found_by h x (n ∷ ns) (bodies_at (n ∷ ns))) (tasks_by ks x h (n ∷ ns) (bodies_at (n ∷ ns)) ++ rest) (build ns)
  node_turn h x n ns a r =
      let t : Tree = parse (n ∷ ns) in
      let us : List Tree = drop 1 (build (n ∷ ns)) in
      let fs : List Found = found_by h x (n ∷ ns) (bodies_at (n ∷ ns)) in
      let ts : List Task = tasks_by ks x h (n ∷ ns) (bodies_at (n ∷ ns)) in
      let o : Opened ks h x t fs ts = opens_by ks h x n ns a in
      let split : build ns ≡ arguments_of t ++ us = behind_first n (build ns) in
      let all : build (n ∷ ns) ≡ t ∷ us = first_and_rest n (build ns) in
      record {
        needed =
            let count : suc (needs rest) ≡ suc (length us) = r.needed ∙ ap (λ (vs : List Tree). length vs) all in
            let size : length (build ns) ≡ length (arguments_of t) + length us = ap (λ (vs : List Tree). length vs) split ∙ length-append (arguments_of t) us in
            omega (arith, needs-append ts rest, o.takes, count, size);
        all =
            append_assoc found fs (tasks_show ks (ts ++ rest) (build ns))
            ∙ ap (λ (vs : List Tree). found ++ (fs ++ tasks_show ks (ts ++ rest) vs)) split
            ∙ ap (λ (gs : List Found). found ++ gs) (o.shows rest us)
            ∙ ap (λ (vs : List Tree). found ++ tasks_show ks (Argument h x ∷ rest) vs) (sym all)
            ∙ r.all;
      }

  pub fresh_turn : (h : Option Pi) (x : Kind) (us : List Tree) → IsReading ks whole found (Fresh h x ∷ rest) us → IsReading ks whole (found ++ fresh_one h x) rest us
  fresh_turn h x us r = record {
    needed = r.needed;
    all = append_assoc found (fresh_one h x) (tasks_show ks rest us) ∙ r.all;
  }

  -- the node at a place of the text
  pub argument_turn : (h : Option Pi) (x : Kind) (ns : List Node) (at : ℕ) → at < length ns → AreTermNodes (drop at ns) → IsReading ks whole found (Argument h x ∷ rest) (build (drop at ns)) →
      IsReading ks whole (found ++ found_by h x (drop at ns) (bodies_at (drop at ns))) (tasks_by ks x h (drop at ns) (bodies_at (drop at ns)) ++ rest) (build (drop (at + 1) ns))
  argument_turn h x ns at inside a r =
      let n : Node = get_or ns at (Var 0) in
      let ms : List Node = drop (at + 1) ns in
      let here : drop at ns ≡ n ∷ ms = at_drop_more (λ (ys : List Node). ys) ns at (Var 0) inside in
      subst (λ (ys : List Node). IsReading ks whole (found ++ found_by h x ys (bodies_at ys)) (tasks_by ks x h ys (bodies_at ys) ++ rest) (build ms)) (sym here)
      (node_turn h x n ms (subst AreTermNodes here a) (subst (λ (ys : List Node). IsReading ks whole found (Argument h x ∷ rest) (build ys)) here r))

-- where all is read
pub reading_begins : (ks : Kinds) (t : Tree) (x : Kind) (found : List Found) (tasks : List Task) (ns : List Node) → found ≡ [] → tasks ≡ Argument None x ∷ [] → ns ≡ flatten t → IsReading ks (shown ks None t x) found (reverse tasks) (build (drop 0 ns))
reading_begins ks t x found tasks ns e g n =
    subst (λ (fs : List Found). IsReading ks (shown ks None t x) fs (reverse tasks) (build (drop 0 ns))) (sym e)
    (subst (λ (ts : List Task). IsReading ks (shown ks None t x) [] (reverse ts) (build (drop 0 ns))) (sym g)
    (subst (λ (us : List Tree). IsReading ks (shown ks None t x) [] (Argument None x ∷ []) us) (sym (ap build (n ∙ sym (append-nil (flatten t))) ∙ build-flatten t []))
    (record { needed = refl; all = append-nil (shown ks None t x) })))

-- the next task is taken off the end
pub task_last : (old mid : List Task) (t : Task) → old ≡ mid ++ t ∷ [] → t ∷ reverse mid ≡ reverse old
task_last old mid t e = sym (ap reverse e ∙ reverse-append mid (t ∷ []))

pub next_has_node : (ks : Kinds) (whole found : List Found) (ts : List Task) (t : Task) (us : List Tree) → IsReading ks whole found (t ∷ ts) us → HasNode t us
next_has_node ks whole found ts (Fresh h x) us r = tt
next_has_node ks whole found ts (Argument h x) us r = omega (arith, r.needed)

pub reading_ends : (ks : Kinds) (whole found : List Found) (ts : List Task) (us : List Tree) → ts ≡ [] → IsReading ks whole found (reverse ts) us → found ≡ whole
reading_ends ks whole found ts us e r =
    let q : IsReading ks whole found [] us = subst (λ (vs : List Task). IsReading ks whole found (reverse vs) us) e r in
    sym (append-nil found) ∙ q.all

-- the tasks of a node, put before the others
pub put_before : (old new ots : List Task) → new ≡ old ++ reverse ots → reverse new ≡ ots ++ reverse old
put_before old new ots e = ap reverse e ∙ reverse-append old (reverse ots) ∙ ap (λ (ts : List Task). ts ++ reverse old) (reverse-reverse ots)

pub bodies_drop : (at : ℕ) (ns : List Node) → drop at (bodies_at ns) ≡ bodies_at (drop at ns)
bodies_drop zero ns = refl
bodies_drop (suc at) [] = refl
bodies_drop (suc at) (n ∷ ns) = bodies_drop at ns

pub length-bodies : (ns : List Node) → length (bodies_at ns) ≡ length ns
length-bodies [] = refl
length-bodies (n ∷ ns) = ap suc (length-bodies ns)

-- there is a node for an argument
pub has_node : (t : Task) (h : Option Pi) (x : Kind) (ns : List Node) (at : ℕ) → t ≡ Argument h x → HasNode t (build (drop at ns)) → at < length ns
has_node (Fresh g y) h x ns at e n = cc
has_node (Argument g y) h x ns at e n = omega (arith, n, length-build_le (drop at ns), length-drop at ns)

-- an argument is next, and what it shows comes before the others
pub takes_argument : (ks : Kinds) (whole before after : List Found) (ts old new : List Task) (task : Task) (h : Option Pi) (x : Kind) (ns rest : List Node) (bs marks : List Bool) (at : ℕ) (fs : List Found) (os : List Task) →
    AreTermNodes ns → bs ≡ bodies_at ns → HasNode task (build (drop at ns)) → task ≡ Argument h x → rest ≡ drop at ns → marks ≡ drop at bs → fs ≡ found_by h x rest marks → os ≡ tasks_by ks x h rest marks →
    after ≡ before ++ fs → new ≡ old ++ reverse os → ts ≡ task ∷ reverse old → IsReading ks whole before ts (build (drop at ns)) → IsReading ks whole after (reverse new) (build (drop (at + 1) ns))
takes_argument ks whole before after ts old new task h x ns rest bs marks at fs os a b node is r m f o e g t reading =
    let marks_are : marks ≡ bodies_at (drop at ns) = m ∙ ap (drop at) b ∙ bodies_drop at ns in
    let found : fs ≡ found_by h x (drop at ns) (bodies_at (drop at ns)) = f ∙ ap (λ (ys : List Node). found_by h x ys marks) r ∙ ap (found_by h x (drop at ns)) marks_are in
    let tasks : os ≡ tasks_by ks x h (drop at ns) (bodies_at (drop at ns)) = o ∙ ap (λ (ys : List Node). tasks_by ks x h ys marks) r ∙ ap (tasks_by ks x h (drop at ns)) marks_are in
    let start : IsReading ks whole before (Argument h x ∷ reverse old) (build (drop at ns)) =
    subst (λ (us : List Task). IsReading ks whole before us (build (drop at ns))) (t ∙ ap (λ (u : Task). u ∷ reverse old) is) reading in
    subst (λ (ys : List Found). IsReading ks whole ys (reverse new) (build (drop (at + 1) ns))) (sym (e ∙ ap (λ (ys : List Found). before ++ ys) found))
    (subst (λ (us : List Task). IsReading ks whole (before ++ found_by h x (drop at ns) (bodies_at (drop at ns))) us (build (drop (at + 1) ns)))
    (sym (put_before old new os g ∙ ap (λ (us : List Task). us ++ reverse old) tasks))
    (argument_turn ks whole before (reverse old) h x ns at (has_node task h x ns at is node) (AreTermNodes-drop at ns a) start))

pub called_by : (i j : Pi) → i ≡ indicator (codes "call") 1 → j ≡ i → Literal i ∷ Place (Some j) Unbound ∷ [] ≡ called_variable
called_by i j e g = rw (g, e) refl
