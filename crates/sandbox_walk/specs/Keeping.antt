-- What the sandbox asks of a loaded program. It doesn't read the clauses of the library's predicates that run goals: what the table declares of these has to be true of their clauses.
use Rattle.std.specs.Prelude.{ℕ, Bool, true, false, not, ◌&&◌, ◌||◌, ◌==◌, List, [], ◌∷◌, ◌++◌, map, filter, cond, if◌then◌else◌, ℤ, pos, negsuc, codes, IsTrue, Option, Some, None, is_some}
use Rattle.std.specs.List.{list_any, list_all}
use Prim.Native.String.{String}
use Rattle.term_core.specs.declared.app.App.{App}
use Rattle.term_core.specs.declared.pi.Pi.{Pi}
use Rattle.term_core.specs.Tree.{Tree, variable, integer, atom, compound, Trees, no_trees, tree, arity, tree_list}
use Rattle.term_core.specs.Parts.{arguments_of}
use Rattle.builtin_table.specs.declared.row.Class.TheVariants.{Library}
use Rattle.builtin_table.specs.declared.row.Row.{Row}
use Rattle.builtin_table.specs.Table.{Rows, row_of, rows_of_app, indicators, is_library, reserved_of}
use Rattle.program.specs.Bodies.{is_connective}
use Rattle.program.specs.Clauses.{Clause, indicator_of, same_indicator, clauses_of}
use Rattle.program.specs.Loaded.{Loaded}
use Rattle.program.specs.Source.{begins_with_dollar}
use Rattle.sandbox_walk.specs.declared.found.Kind.{Kind}
use Rattle.sandbox_walk.specs.declared.found.Kind.TheVariants.{Plain, Part, Adds, Behind}
use Rattle.sandbox_walk.specs.Shown.{Kinds, indicator, declared_kind, kinds_in}
use Rattle.sandbox_walk.specs.Verdict.{in_predicate}
use Rattle.sandbox_walk.specs.Passes.{opens}

-- ---- the helpers of the library that run goals, which are in no row of the table

-- one argument, counted from 1, is a goal to which so many arguments are added
abbrev goal_at : (argument added : ℕ) → List ℤ
goal_at n k = map (λ j. cond (n == j) (pos k) (negsuc 0)) (1 ∷ 2 ∷ 3 ∷ 4 ∷ 5 ∷ 6 ∷ 7 ∷ 8 ∷ [])

abbrev helper : String → ℕ → List ℤ → Pi × Row
helper name arity metas = (indicator (codes name) arity, record { class = Library; metas = metas })

abbrev pub helpers : Rows
helpers =
    helper "$maplist" 2 (goal_at 2 1) ∷ helper "$maplist" 3 (goal_at 3 2) ∷ helper "$maplist" 4 (goal_at 4 3) ∷ helper "$maplist" 5 (goal_at 5 4)
    ∷ helper "$foldl" 4 (goal_at 2 3) ∷ helper "$include" 3 (goal_at 2 1) ∷ helper "$exclude" 3 (goal_at 2 1) ∷ []

-- how the arguments of a literal are run: as the table declares them, and those of the helpers
unfoldable pub run_kinds : Rows → Kinds
run_kinds rows i =
    if is_connective i.name && i.arity == 2 then Part ∷ Part ∷ []
    else elim (row_of i helpers) [ None ↦ kinds_in rows i | Some row ↦ map declared_kind row.metas ]

-- what the clauses of these predicates, and control itself, may call
abbrev pub known : List Pi
known =
    indicators helpers
    ++ (indicator (codes "true") 0 ∷ indicator (codes "fail") 0 ∷ indicator (codes ",") 2 ∷ indicator (codes ";") 2 ∷ indicator (codes "->") 2
    ∷ indicator (codes "\\+") 1 ∷ indicator (codes "=") 2 ∷ indicator (codes "call") 2 ∷ indicator (codes "call") 3 ∷ indicator (codes "call") 4 ∷ indicator (codes "call") 5 ∷ [])

abbrev pub is_known : Pi → Bool
is_known i = list_any (same_indicator i) known

-- ---- clauses that hand goals on

-- an argument is the variable n, and a goal to which k arguments are added
abbrev pub is_goal : Tree → Kind → (n k : ℕ) → Bool
is_goal (variable v) (Adds j) n k = v == n && j == k
is_goal t x n k = false

-- one of the arguments is
abbrev pub has_goal : List Tree → List Kind → (n k : ℕ) → Bool
has_goal [] xs n k = false
has_goal (t ∷ ts) [] n k = false
has_goal (t ∷ ts) (x ∷ xs) n k = is_goal t x n k || has_goal ts xs n k

-- An argument is no goal, or a variable that the clause was given as a goal of the same kind.
abbrev pub hands_argument : (ℕ → ℕ → Bool) → Tree → Kind → Bool
hands_argument given t Plain = true
hands_argument given (variable n) (Adds k) = given n k
hands_argument given t x = false

abbrev pub hands_arguments : (ℕ → ℕ → Bool) → List Tree → List Kind → Bool
hands_arguments given [] xs = true
hands_arguments given (t ∷ ts) [] = true
hands_arguments given (t ∷ ts) (x ∷ xs) = hands_argument given t x && hands_arguments given ts xs

-- A body calls known predicates alone, and hands them nothing as a goal but what it was given as one.
unfoldable mutual
  pub hands_on : Rows → (ℕ → ℕ → Bool) → Tree → Bool
  hands_on rows given (variable n) = false
  hands_on rows given (integer z) = false
  hands_on rows given (atom f) = is_known (indicator f 0)
  hands_on rows given (compound f ts) =
      is_known (indicator f (arity ts))
      && (if is_connective f && arity ts == 2 then all_hand_on rows given ts else hands_arguments given (tree_list ts) (run_kinds rows (indicator f (arity ts))))

  pub all_hand_on : Rows → (ℕ → ℕ → Bool) → Trees → Bool
  all_hand_on rows given no_trees = true
  all_hand_on rows given (tree t ts) = hands_on rows given t && all_hand_on rows given ts

-- ---- programs

abbrev pub is_library_row : Option Row → Bool
is_library_row None = false
is_library_row (Some r) = is_library r.class

-- a predicate of the library that runs goals
abbrev pub runs_goals : Rows → Pi → Bool
runs_goals rows i = is_library_row (row_of i rows) || is_some (row_of i helpers)

abbrev pub is_reserved : Rows → Pi → Bool
is_reserved rows i = list_any (λ r. same_indicator r i) (reserved_of rows)

-- A clause of this predicate is of none that is reserved. The client's is of none whose name begins with `$`; the library's hands goals on, where its predicate runs goals.
abbrev pub keeps_of : Rows → Clause → Pi → Bool
keeps_of rows c i =
    not (is_reserved rows i)
    && (if c.own then not (begins_with_dollar i.name)
    else if runs_goals rows i then hands_on rows (has_goal (arguments_of c.head) (run_kinds rows i)) c.body else true)

abbrev pub clause_keeps : Rows → Clause → Bool
clause_keeps rows c = elim (indicator_of c.head) [ None ↦ true | Some i ↦ keeps_of rows c i ]

-- a client's clause
abbrev pub client_keeps : Rows → Clause → Bool
client_keeps rows c = c.own && clause_keeps rows c

-- a goal that reaches the helper doesn't pass
abbrev pub is_closed : Rows → List Clause → Pi → Bool
is_closed rows p i = not (list_all opens (in_predicate rows p i))

abbrev pub is_there : List Clause → Pi → Bool
is_there p i = elim (clauses_of i p) [ [] ↦ false | c ∷ cs ↦ true ]

abbrev pub library_rows : Rows → List Pi
library_rows rows = indicators (filter (λ r. is_library r.1.class) rows)

-- what is asked of clauses by these rows, as a test
unfoldable pub keeps_sandbox : Rows → List Clause → Bool
keeps_sandbox rows p = list_all (clause_keeps rows) p && (list_all (is_closed rows p) (indicators helpers) && list_all (is_there p) (library_rows rows))

-- Each clause keeps to the table of the application, the helpers aren't reached by a goal that passes, and each row of the library has its clauses.
abbrev pub ClausesKeep : App → List Clause → Type 0
ClausesKeep app p = IsTrue (keeps_sandbox (rows_of_app app) p)

-- A program keeps to the sandbox where its clauses do, by the table of its application.
abbrev pub KeepsSandbox : Loaded → Type 0
KeepsSandbox l = ClausesKeep l.app l.clauses
