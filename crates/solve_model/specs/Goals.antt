-- How a goal is read: what its step is, and which terms may be run as goals.
use Rattle.std.specs.Prelude.{ℕ, Bool, true, false, ◌&&◌, List, [], ◌∷◌, ◌++◌, length, nat_lt, if◌then◌else◌, Option, Some, None, codes, bytes_eq}
use Rattle.term_core.specs.declared.pi.Pi.{Pi}
use Rattle.term_core.specs.Tree.{Tree, variable, integer, atom, compound, Trees, no_trees, tree, tree_list, trees_of, arity}
use Rattle.builtin_table.specs.Errors.{one_argument, two_arguments, error_term, no_context, instantiation_error, type_error, representation_error, existence_error}
use Rattle.program.specs.Bodies.{is_body}

-- the indicator of a predicate: its name and its number of arguments (ISO 13211-1, 3.136)
abbrev pub indicator : List ℕ → ℕ → Pi
indicator f n = record { name = f; arity = n }

-- the predicate that a goal calls
abbrev pub indicator_of : Tree → Pi
indicator_of (atom f) = indicator f 0
indicator_of (compound f ts) = indicator f (arity ts)
indicator_of (variable n) = indicator [] 0
indicator_of (integer z) = indicator [] 0

-- The rows of the table of steps (ISO 13211-1, 7.8 and 8).
pub data Row : Type 0 where
  -- true/0
  Succeeds : Row
  -- fail/0 and false/0
  Fails : Row
  -- !/0
  Cuts : Row
  -- ','/2
  Both : Tree → Tree → Row
  -- ;/2
  Either : Tree → Tree → Row
  -- a condition of ->/2, which is a part of the body; then the goal where it succeeds, and the goal where it fails
  IfElse : Tree → Tree → Tree → Row
  -- the same, where the condition is an argument of \+/1, once/1, ignore/1 or forall/2
  Test : Tree → Tree → Tree → Row
  -- \=/2
  Differ : Tree → Tree → Row
  -- call/1 to call/8: a goal, and the arguments that are added to it
  Call : Tree → List Tree → Row
  -- catch/3
  Catch : Tree → Tree → Tree → Row
  -- throw/1
  Throw : Tree → Row
  -- pengine_output/1
  Output : Tree → Row
  -- pengine_input/2: the prompt, and the term that the reply is unified with
  Input : Tree → Tree → Row
  -- findall/3
  FindAll : Tree → Tree → Tree → Row
  -- bagof/3
  BagOf : Tree → Tree → Tree → Row
  -- setof/3
  SetOf : Tree → Tree → Tree → Row
  -- a predicate of the program, or a primitive, by the goal
  Predicate : Pi → Tree → Row

-- the row beside the name, and the last where none has it
abbrev pub row_named : List ℕ → List (List ℕ × Row) → Row → Row
row_named f [] r = r
row_named f (p ∷ ps) r = if bytes_eq f p.0 then p.1 else row_named f ps r

abbrev pub true_goal : Tree
true_goal = atom (codes "true")

abbrev pub fail_goal : Tree
fail_goal = atom (codes "fail")

-- the condition and the goal of C -> T
abbrev pub arrow : Tree → Option (Tree × Tree)
arrow (compound f (tree c (tree t no_trees))) = if bytes_eq f (codes "->") then Some (c, t) else None
arrow t = None

-- C -> T ; E is a condition, and any other A ; B a choice
abbrev pub disjunction : Option (Tree × Tree) → Tree → Tree → Row
disjunction None a b = Either a b
disjunction (Some p) a b = IfElse p.0 p.1 b

abbrev pub atom_rows : List (List ℕ × Row)
atom_rows =
    (codes "true", Succeeds)
    ∷ (codes "fail", Fails)
    ∷ (codes "false", Fails)
    ∷ (codes "!", Cuts)
    ∷ []

unfoldable pub row_of_atom : List ℕ → Row
row_of_atom f = row_named f atom_rows (Predicate (indicator f 0) (atom f))

abbrev pub one_rows : Tree → List (List ℕ × Row)
one_rows a =
    (codes "\\+", Test a fail_goal true_goal)
    ∷ (codes "once", Test a true_goal fail_goal)
    ∷ (codes "ignore", Test a true_goal true_goal)
    ∷ (codes "throw", Throw a)
    ∷ (codes "pengine_output", Output a)
    ∷ []

unfoldable pub row_of_one : List ℕ → Tree → Row
row_of_one f a = row_named f (one_rows a) (Predicate (indicator f 1) (one_argument f a))

-- forall(C,A) is \+ (C, \+ A)
abbrev pub counterexample : Tree → Tree → Tree
counterexample c a = two_arguments (codes ",") c (one_argument (codes "\\+") a)

abbrev pub two_rows : Tree → Tree → List (List ℕ × Row)
two_rows a b =
    (codes ",", Both a b)
    ∷ (codes ";", disjunction (arrow a) a b)
    ∷ (codes "->", IfElse a b fail_goal)
    ∷ (codes "\\=", Differ a b)
    ∷ (codes "forall", Test (counterexample a b) fail_goal true_goal)
    ∷ (codes "pengine_input", Input a b)
    ∷ []

unfoldable pub row_of_two : List ℕ → Tree → Tree → Row
row_of_two f a b = row_named f (two_rows a b) (Predicate (indicator f 2) (two_arguments f a b))

abbrev pub three_rows : Tree → Tree → Tree → List (List ℕ × Row)
three_rows a b c =
    (codes "catch", Catch a b c)
    ∷ (codes "findall", FindAll a b c)
    ∷ (codes "bagof", BagOf a b c)
    ∷ (codes "setof", SetOf a b c)
    ∷ []

unfoldable pub row_of_three : List ℕ → Tree → Tree → Tree → Row
row_of_three f a b c =
    row_named f (three_rows a b c) (Predicate (indicator f 3) (compound f (trees_of (a ∷ b ∷ c ∷ []))))

unfoldable pub row_of_arguments : List ℕ → Tree → Trees → Row
row_of_arguments f a no_trees = row_of_one f a
row_of_arguments f a (tree b no_trees) = row_of_two f a b
row_of_arguments f a (tree b (tree c no_trees)) = row_of_three f a b c
row_of_arguments f a ts = Predicate (indicator f (arity (tree a ts))) (compound f (tree a ts))

-- call/1 to call/8, where n arguments are added
abbrev pub is_call : List ℕ → ℕ → Bool
is_call f n = bytes_eq f (codes "call") && nat_lt n 8

unfoldable pub row_of_compound : List ℕ → Trees → Row
row_of_compound f no_trees = Predicate (indicator f 0) (compound f no_trees)
row_of_compound f (tree a ts) = if is_call f (arity ts) then Call a (tree_list ts) else row_of_arguments f a ts

-- A variable in the place of a goal is call/1 of it, and so is an integer, whose call throws.
unfoldable pub row_of : Tree → Row
row_of (variable n) = Call (variable n) []
row_of (integer z) = Call (integer z) []
row_of (atom f) = row_of_atom f
row_of (compound f ts) = row_of_compound f ts

-- the rows that talk with the client
abbrev pub talks : Row → Bool
talks (Output t) = true
talks (Input q t) = true
talks Succeeds = false
talks Fails = false
talks Cuts = false
talks (Both a b) = false
talks (Either a b) = false
talks (IfElse c t e) = false
talks (Test c t e) = false
talks (Differ a b) = false
talks (Call g ts) = false
talks (Catch g c r) = false
talks (Throw t) = false
talks (FindAll t g m) = false
talks (BagOf t g m) = false
talks (SetOf t g m) = false
talks (Predicate i t) = false

-- A goal's row, where these predicates reach outside: a goal of one of them that would talk is a call of it.
unfoldable pub settled : (Pi → Bool) → Tree → Row → Row
settled outside t r = if talks r && outside (indicator_of t) then Predicate (indicator_of t) t else r

-- the errors of control have no context
abbrev pub control_error : Tree → Tree
control_error e = error_term e no_context

abbrev pub not_callable : Tree → Tree
not_callable t = control_error (type_error (codes "callable") t)

abbrev pub not_list : Tree → Tree
not_list t = control_error (type_error (codes "list") t)

abbrev pub unbound_goal : Tree
unbound_goal = control_error instantiation_error

abbrev pub unknown_predicate : Pi → Tree
unknown_predicate i = control_error (existence_error i)

-- what comes of making a term ready to run as a goal: it runs, or this ball is thrown
pub data Ready : Type 0 where
  Runs : Tree → Ready
  Throws : Tree → Ready

-- a term as `call` and its like take it (ISO 13211-1, 7.8.3)
unfoldable pub ready : Tree → Ready
ready (variable n) = Throws unbound_goal
ready t = if is_body t then Runs t else Throws (not_callable t)

-- a goal of this name and these arguments; a compound has at most 1,024
abbrev pub ready_compound : List ℕ → List Tree → Ready
ready_compound f ts =
    if nat_lt 1024 (length ts) then Throws (control_error (representation_error (codes "max_arity"))) else ready (compound f (trees_of ts))

-- a goal with these arguments added behind its own, as call/1 to call/8 take it
unfoldable pub with_arguments : Tree → List Tree → Ready
with_arguments g [] = ready g
with_arguments (variable n) ts = Throws unbound_goal
with_arguments (integer z) ts = Throws (not_callable (integer z))
with_arguments (atom f) ts = ready_compound f ts
with_arguments (compound f us) ts = ready_compound f (tree_list us ++ ts)
