-- Which predicates a goal may reach, and whether it may be asked.
use Rattle.std.specs.Prelude.{◌≡◌, Bool, true, false, ◌||◌, ◌&&◌, List, [], ◌∷◌, ◌++◌, filter, if◌then◌else◌, IsTrue, Option, Some, None, is_none, ⊤}
use Rattle.std.specs.List.{flat_map, list_any}
use Rattle.std.specs.Option.{option_map}
use Rattle.std.specs.Ordering.{is_lt, nat_cmp, ordering_then}
use Rattle.term_core.specs.declared.pi.Pi.{Pi}
use Rattle.term_core.specs.Tree.{Tree}
use Rattle.term_core.specs.Order.{name_cmp}
use Rattle.builtin_table.specs.Outside.{is_outside_in}
use Rattle.builtin_table.specs.Table.{Rows, row_of, rows_of_app}
use Rattle.program.specs.Clauses.{Clause, indicator_of, same_indicator, clauses_of}
use Rattle.program.specs.Loaded.{Loaded}
use Rattle.sandbox_walk.specs.declared.found.Kind.TheVariants.{Part, Adds}
use Rattle.sandbox_walk.specs.declared.found.Stands.TheVariants.{Opens, Unbound, Shut}
use Rattle.sandbox_walk.specs.declared.found.Found.{Found}
use Rattle.sandbox_walk.specs.declared.found.Found.TheVariants.{Literal, Place}
use Rattle.sandbox_walk.specs.declared.unsafe_goal.Unsafe.{Unsafe}
use Rattle.sandbox_walk.specs.declared.unsafe_goal.Unsafe.TheVariants.{Sandboxed, Uninstantiated, NotCallable, Memory}
use Rattle.sandbox_walk.specs.Shown.{kinds_in, shown}

-- whether the client defines the predicate
abbrev pub is_own : List Clause → Pi → Bool
is_own p i = list_any (λ c. c.own) (clauses_of i p)

-- whether the clauses of the predicate are read: the client defines it, or it is no row of the table
abbrev pub enters : Rows → List Clause → Pi → Bool
enters rows p i = is_own p i || is_none (row_of i rows)

-- what the goal shows, and what a clause's body shows
abbrev pub in_goal : Rows → Tree → List Found
in_goal rows g = shown (kinds_in rows) None g (Adds 0)

abbrev pub in_clause : Rows → Clause → List Found
in_clause rows c = shown (kinds_in rows) None c.body Part

abbrev pub in_predicate : Rows → List Clause → Pi → List Found
in_predicate rows p i = flat_map (in_clause rows) (clauses_of i p)

abbrev pub is_literal : Pi → Found → Bool
is_literal i (Literal j) = same_indicator i j
is_literal i (Place h x) = false

-- whether a literal of the predicate is among these
abbrev pub has_literal : Pi → List Found → Bool
has_literal i fs = list_any (is_literal i) fs

-- The predicates that are reached: the least set that has those of the goal's literals, and those of the literals of each reached predicate whose clauses are read.
pub data Reach (rows : Rows) (p : List Clause) (g : Tree) : Pi → Type 0 where
  by_goal : (i : Pi) → IsTrue (has_literal i (in_goal rows g)) → Reach rows p g i
  by_clause : (h i : Pi) → Reach rows p g h → IsTrue (enters rows p h) → IsTrue (has_literal i (in_predicate rows p h)) → Reach rows p g i

-- the test says which predicates are reached
abbrev pub TellsReach : Rows → List Clause → Tree → (Pi → Bool) → Type 0
TellsReach rows p g reached = (i : Pi) → (IsTrue (reached i) → Reach rows p g i) × (Reach rows p g i → IsTrue (reached i))

-- whether the clause is read
abbrev pub reads : Rows → List Clause → (Pi → Bool) → Clause → Bool
reads rows p reached c = elim (indicator_of c.head) [ None ↦ false | Some i ↦ reached i && enters rows p i ]

-- all that is read: the goal, and then the clauses in the program's order
abbrev pub all_shown : Rows → List Clause → Tree → (Pi → Bool) → List Found
all_shown rows p g reached = in_goal rows g ++ flat_map (in_clause rows) (filter (reads rows p reached) p)

-- ---- the refusals

-- by name in bytes, then by the number of arguments
abbrev pub indicator_less : Pi → Pi → Bool
indicator_less a b = is_lt (ordering_then (name_cmp a.name b.name) (nat_cmp a.arity b.arity))

-- the goal itself goes before every literal
abbrev pub holder_less : Option Pi → Option Pi → Bool
holder_less None None = false
holder_less None (Some b) = true
holder_less (Some a) None = false
holder_less (Some a) (Some b) = indicator_less a b

abbrev pub lesser : Pi → Option Pi → Pi
lesser i None = i
lesser i (Some j) = if indicator_less j i then j else i

-- the least predicate outside, of these literals
abbrev pub least_with : Rows → Found → Option Pi → Option Pi
least_with rows (Literal i) least = if is_outside_in rows i then Some (lesser i least) else least
least_with rows (Place h x) least = least

abbrev pub least_outside : Rows → List Found → Option Pi
least_outside rows [] = None
least_outside rows (f ∷ fs) = least_with rows f (least_outside rows fs)

abbrev pub is_unbound : Found → Bool
is_unbound (Place h Unbound) = true
is_unbound (Place h Opens) = false
is_unbound (Place h (Shut t)) = false
is_unbound (Literal i) = false

-- a goal position that is no body
abbrev pub Closed : Type 0
Closed = Option Pi × Tree

abbrev pub earlier : Closed → Option Closed → Closed
earlier a None = a
earlier a (Some b) = if holder_less b.0 a.0 then b else a

-- the first goal position that is no body: by the literal that holds it, and then by its place among what is read
abbrev pub closed_with : Found → Option Closed → Option Closed
closed_with (Place h (Shut t)) first = Some (earlier (h, t) first)
closed_with (Place h Opens) first = first
closed_with (Place h Unbound) first = first
closed_with (Literal i) first = first

abbrev pub first_closed : List Found → Option Closed
first_closed [] = None
first_closed (f ∷ fs) = closed_with f (first_closed fs)

-- what is said of a goal that shows this in all: the first refusal that fits, or none
abbrev pub refusal : Rows → List Found → Option Unsafe
refusal rows fs = elim (least_outside rows fs) [
  | Some i ↦ Some (Sandboxed i)
  | None ↦ if list_any is_unbound fs then Some Uninstantiated else option_map (λ c. NotCallable c.1) (first_closed fs)
]

-- The verdict on a goal over a program: why it may not be asked, or nothing.
abbrev pub Verdict : Rows → List Clause → Tree → Option Unsafe → Type 0
Verdict rows p g v = (reached : Pi → Bool) × TellsReach rows p g reached × (v ≡ refusal rows (all_shown rows p g reached))

-- what is told is the verdict; want of memory is free
abbrev pub Refuses : Rows → List Clause → Tree → Unsafe → Type 0
Refuses rows p g Memory = ⊤
Refuses rows p g e = Verdict rows p g (Some e)

-- ---- over a program, by the table of its application

abbrev pub VerdictOver : Loaded → Tree → Option Unsafe → Type 0
VerdictOver l g v = Verdict (rows_of_app l.app) l.clauses g v

abbrev pub RefusesOver : Loaded → Tree → Unsafe → Type 0
RefusesOver l g e = Refuses (rows_of_app l.app) l.clauses g e
