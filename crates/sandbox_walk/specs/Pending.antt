-- What is still to be read of a text, as the code keeps it.
use Rattle.std.specs.Prelude.{◌≡◌, ℕ, zero, suc, ◌+◌, ◌-◌, ◌<◌, Bool, true, false, ◌&&◌, ◌==◌, List, [], ◌∷◌, ◌++◌, length, take, drop, get_or, nat_lt, if◌then◌else◌, Option, Some, None, ⊤}
use Rattle.std.specs.List.{list_all}
use Rattle.term_core.specs.declared.pi.Pi.{Pi}
use Rattle.term_core.specs.declared.node.Node.{Node}
use Rattle.term_core.specs.declared.node.Node.TheVariants.{Var, Int, Atom, Comp}
use Rattle.term_core.specs.Tree.{Tree}
use Rattle.term_core.specs.Flat.{parse}
use Rattle.term_core.specs.Preorder.{count_of}
use Rattle.program.specs.Bodies.{is_connective}
use Rattle.sandbox_walk.specs.declared.found.Kind.{Kind}
use Rattle.sandbox_walk.specs.declared.found.Kind.TheVariants.{Plain, Part, Adds, Behind}
use Rattle.sandbox_walk.specs.declared.found.Stands.TheVariants.{Opens, Unbound, Shut}
use Rattle.sandbox_walk.specs.declared.found.Found.{Found}
use Rattle.sandbox_walk.specs.declared.found.Found.TheVariants.{Literal, Place}
use Rattle.sandbox_walk.specs.declared.shown.Task.{Task}
use Rattle.sandbox_walk.specs.declared.shown.Task.TheVariants.{Argument, Fresh}
use Rattle.sandbox_walk.specs.Shown.{Kinds, shown, fresh_one, called_variable, indicator, is_hat}

-- ---- where bodies begin

-- whether a body begins at a node, from whether its arguments are bodies
abbrev pub begins_body : Node → List Bool → Bool
begins_body (Var n) bs = true
begins_body (Int z) bs = false
begins_body (Atom f) bs = true
begins_body (Comp f k) bs = if is_connective f && k == 2 then list_all (λ b. b) bs else true

-- the same from the answers for all trees behind the node, that of the first one last
abbrev pub body_of : Node → List Bool → Bool
body_of n bs = begins_body n (drop (length bs - count_of n) bs)

abbrev pub with_body : Node → List Bool → List Bool
with_body n bs = take (length bs - count_of n) bs ++ body_of n bs ∷ []

abbrev pub tree_bodies : List Node → List Bool
tree_bodies [] = []
tree_bodies (n ∷ ns) = with_body n (tree_bodies ns)

abbrev pub bodies_at : List Node → List Bool
bodies_at [] = []
bodies_at (n ∷ ns) = body_of n (tree_bodies ns) ∷ bodies_at ns

-- whether a compound to which so many arguments are added is a body, where bodies begin at these nodes of it
abbrev pub extends : ℕ → List ℕ → ℕ → List Bool → Bool
extends k f n bs = if k == 0 then get_or bs 0 true else if is_connective f && n + k == 2 then get_or bs 1 true else true

-- ---- what is read next

-- what tasks show, over the terms that are left
abbrev pub tasks_show : Kinds → List Task → List Tree → List Found
tasks_show ks [] us = []
tasks_show ks (Fresh h x ∷ ts) us = fresh_one h x ++ tasks_show ks ts us
tasks_show ks (Argument h x ∷ ts) [] = []
tasks_show ks (Argument h x ∷ ts) (u ∷ us) = shown ks h u x ++ tasks_show ks ts us

-- how many terms tasks take
abbrev pub needs : List Task → ℕ
needs [] = 0
needs (Fresh h x ∷ ts) = needs ts
needs (Argument h x ∷ ts) = suc (needs ts)

abbrev pub HasNode : Task → List Tree → Type 0
HasNode (Fresh h x) us = ⊤
HasNode (Argument h x) us = 0 < length us

-- what was found and what the tasks show are the whole, and there is a term for each argument
pub record IsReading (ks : Kinds) (whole found : List Found) (ts : List Task) (us : List Tree) : Type 0 where
  pub needed : needs ts ≡ length us
  pub all : found ++ tasks_show ks ts us ≡ whole

-- ---- what a node shows before its arguments, and how these are read

-- so many tasks, side by side with how they are read; those behind the list are no goals
abbrev pub tasks_of : (Kind → Task) → ℕ → List Kind → List Task
tasks_of f zero xs = []
tasks_of f (suc n) [] = f Plain ∷ tasks_of f n []
tasks_of f (suc n) (x ∷ xs) = f x ∷ tasks_of f n xs

abbrev pub skipped : ℕ → List Task
skipped n = tasks_of (Argument None) n []

abbrev pub literal_tasks : Kinds → List ℕ → ℕ → ℕ → List Task
literal_tasks ks f n k =
    tasks_of (Argument (Some (indicator f (n + k)))) n (ks (indicator f (n + k)))
    ++ tasks_of (Fresh (Some (indicator f (n + k)))) k (drop n (ks (indicator f (n + k))))

abbrev pub first_node : List Node → Node
first_node [] = Var 0
first_node (n ∷ ns) = n

abbrev pub skipped_node : Node → List Task
skipped_node (Comp f n) = skipped n
skipped_node (Var n) = []
skipped_node (Int z) = []
skipped_node (Atom f) = []

abbrev pub part_found : Node → List Found
part_found (Var n) = called_variable
part_found (Int z) = []
part_found (Atom f) = Literal (indicator f 0) ∷ []
part_found (Comp f n) = Literal (indicator f (n + 0)) ∷ []

abbrev pub part_tasks : Kinds → Node → List Task
part_tasks ks (Var n) = []
part_tasks ks (Int z) = []
part_tasks ks (Atom f) = literal_tasks ks f 0 0
part_tasks ks (Comp f n) = literal_tasks ks f n 0

-- a compound of so many arguments, by whether it has too many and is a body
abbrev pub compound_found : Option Pi → Tree → List ℕ → (n k : ℕ) → (many body : Bool) → List Found
compound_found h t f n k true body = Place h Opens ∷ []
compound_found h t f n k false false = Place h (Shut t) ∷ []
compound_found h t f n k false true = Place h Opens ∷ Literal (indicator f (n + k)) ∷ []

abbrev pub compound_tasks : Kinds → List ℕ → (n k : ℕ) → (many body : Bool) → List Task
compound_tasks ks f n k true body = skipped n
compound_tasks ks f n k false false = skipped n
compound_tasks ks f n k false true = literal_tasks ks f n k

abbrev pub goal_node_found : Option Pi → ℕ → Tree → List Bool → Node → List Found
goal_node_found h k t bs (Var n) = Place h Unbound ∷ []
goal_node_found h k t bs (Int z) = Place h (Shut t) ∷ []
goal_node_found h k t bs (Atom f) = Place h Opens ∷ Literal (indicator f k) ∷ []
goal_node_found h k t bs (Comp f n) = compound_found h t f n k (nat_lt 1024 (n + k)) (extends k f n bs)

abbrev pub goal_node_tasks : Kinds → ℕ → List Bool → Node → List Task
goal_node_tasks ks k bs (Var n) = []
goal_node_tasks ks k bs (Int z) = []
goal_node_tasks ks k bs (Atom f) = literal_tasks ks f 0 k
goal_node_tasks ks k bs (Comp f n) = compound_tasks ks f n k (nat_lt 1024 (n + k)) (extends k f n bs)

abbrev pub goal_found : Option Pi → ℕ → List Node → List Bool → List Found
goal_found h k ns bs = goal_node_found h k (parse ns) bs (first_node ns)

abbrev pub goal_tasks : Kinds → ℕ → List Node → List Bool → List Task
goal_tasks ks k ns bs = goal_node_tasks ks k bs (first_node ns)

abbrev pub is_hat_symbol : Node → Bool
is_hat_symbol (Comp f k) = is_hat f k
is_hat_symbol (Var n) = false
is_hat_symbol (Int z) = false
is_hat_symbol (Atom f) = false

-- what the first of these terms shows, by how it is read
abbrev pub found_by : Option Pi → Kind → List Node → List Bool → List Found
found_by h Plain ns bs = []
found_by h Part ns bs = part_found (first_node ns)
found_by h (Adds k) ns bs = goal_found h k ns bs
found_by h Behind ns bs = if is_hat_symbol (first_node ns) then [] else goal_found h 0 ns bs

abbrev pub tasks_by : Kinds → Kind → Option Pi → List Node → List Bool → List Task
tasks_by ks Plain h ns bs = skipped_node (first_node ns)
tasks_by ks Part h ns bs = part_tasks ks (first_node ns)
tasks_by ks (Adds k) h ns bs = goal_tasks ks k ns bs
tasks_by ks Behind h ns bs = if is_hat_symbol (first_node ns) then tasks_of (Argument h) 2 (Plain ∷ Behind ∷ []) else goal_tasks ks 0 ns bs
