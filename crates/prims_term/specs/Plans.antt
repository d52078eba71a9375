-- What a primitive gives, before cells are made for it.
use Rattle.std.specs.Prelude.{ℕ, ◌<◌, ◌≤◌, pos, List, [], ◌∷◌, map, length, slice_index, if◌then◌else◌, Ok, Err, codes, ⊤}
use Rattle.std.specs.List.{All}
use Rattle.term_core.specs.Tree.{Tree, variable, integer, atom, compound, trees_of, tree_list, arity}
use Rattle.term_core.specs.Variables.{variables}
use Rattle.builtin_table.specs.Lists.{list_of}
use Rattle.builtin_table.specs.Primitives.{Outcome, Offers, Ball, offer, copy, new_variables, holds}
use Rattle.std.specs.Ordering.{int_cmp}
use Rattle.builtin_table.specs.declared.functions.Relation.{Relation}
use Rattle.builtin_table.specs.Arithmetic.{Value}
use Rattle.builtin_table.specs.Errors.{error_term, indicator_term}
use Rattle.store.specs.Cells.{Cells, IsCell, tree_of}
use Rattle.prims_term.specs.declared.plan.What.{What}
use Rattle.prims_term.specs.declared.plan.What.TheVariants as what
use Rattle.prims_term.specs.declared.plan.Plan.{Plan}
use Rattle.prims_term.specs.declared.plan.Plan.TheVariants as plan

-- the name of a compound, or the term itself
abbrev pub symbol_tree : Tree → Tree
symbol_tree (variable n) = variable n
symbol_tree (integer z) = integer z
symbol_tree (atom f) = atom f
symbol_tree (compound f ts) = atom f

abbrev pub arity_of : Tree → ℕ
arity_of (variable n) = 0
arity_of (integer z) = 0
arity_of (atom f) = 0
arity_of (compound f ts) = arity ts

-- a compound's name and arguments, or the term alone
abbrev pub parts_of : Tree → List Tree
parts_of (variable n) = variable n ∷ []
parts_of (integer z) = integer z ∷ []
parts_of (atom f) = atom f ∷ []
parts_of (compound f ts) = atom f ∷ tree_list ts

abbrev pub parts_list : Tree → Tree
parts_list t = list_of (parts_of t)

abbrev pub what_tree : Cells → What → Tree
what_tree s (what.Cell c) = tree_of s c
what_tree s (what.Int z) = integer z
what_tree s (what.Atom f) = atom f
what_tree s (what.New f k) = compound f (trees_of (new_variables s.next k))
what_tree s (what.Compound f cs) = compound f (trees_of (map (tree_of s) cs.items))
what_tree s (what.Parts c) = parts_list (tree_of s c)
what_tree s (what.Copy c) = copy s.next (tree_of s c)
what_tree s (what.Variables c) = list_of (map variable (variables (tree_of s c)))

-- how many new variables it has
abbrev pub what_fresh : Cells → What → ℕ
what_fresh s (what.Cell c) = 0
what_fresh s (what.Int z) = 0
what_fresh s (what.Atom f) = 0
what_fresh s (what.New f k) = k
what_fresh s (what.Compound f cs) = 0
what_fresh s (what.Parts c) = 0
what_fresh s (what.Copy c) = length (variables (tree_of s c))
what_fresh s (what.Variables c) = 0

-- it can be made
abbrev pub IsWhat : Cells → What → Type 0
IsWhat s (what.Cell c) = IsCell s c
IsWhat s (what.Int z) = ⊤
IsWhat s (what.Atom f) = ⊤
IsWhat s (what.New f k) = (1 ≤ k) × (k ≤ 1024)
IsWhat s (what.Compound f cs) = (1 ≤ length cs.items) × (length cs.items ≤ 1024) × All (IsCell s) cs.items
IsWhat s (what.Parts c) = IsCell s c
IsWhat s (what.Copy c) = IsCell s c
IsWhat s (what.Variables c) = IsCell s c

-- the outcome of a plan, for these arguments
abbrev pub plan_outcome : Cells → (args : List ℕ) → Plan → Outcome
plan_outcome s args plan.Fails = Offers []
plan_outcome s args plan.Passes = offer [] 0
plan_outcome s args (plan.Equal i w) = offer ((tree_of s (slice_index args i), what_tree s w) ∷ []) (what_fresh s w)
plan_outcome s args (plan.Symbol c) =
    offer ((tree_of s (slice_index args 1), symbol_tree (tree_of s c)) ∷ (tree_of s (slice_index args 2), integer (pos (arity_of (tree_of s c)))) ∷ []) 0
plan_outcome s args (plan.Divided x y) =
    offer ((tree_of s (slice_index args 2), integer x) ∷ (tree_of s (slice_index args 3), integer y) ∷ []) 0
plan_outcome s args (plan.Ball e) = Ball e

abbrev pub IsPlan : Cells → (args : List ℕ) → Plan → Type 0
IsPlan s args plan.Fails = ⊤
IsPlan s args plan.Passes = ⊤
IsPlan s args (plan.Equal i w) = (i < length args) × IsWhat s w
IsPlan s args (plan.Symbol c) = (2 < length args) × IsCell s c
IsPlan s args (plan.Divided x y) = 3 < length args
IsPlan s args (plan.Ball e) = ⊤

-- the same of a comparison of values
abbrev pub compared_plan : List ℕ → Relation → Value → Value → Plan
compared_plan f r (Ok x) (Ok y) = if holds r (int_cmp x y) then plan.Passes else plan.Fails
compared_plan f r (Ok x) (Err e) = plan.Ball (error_term e (indicator_term (record { name = f; arity = 2 })))
compared_plan f r (Err d) w = plan.Ball (error_term d (indicator_term (record { name = f; arity = 2 })))

-- plus/3, where the argument of this place is a value
abbrev pub plus_plan : (place : ℕ) → Value → Plan
plus_plan i (Ok z) = plan.Equal i (what.Int z)
plus_plan i (Err e) = plan.Ball (error_term e (indicator_term (record { name = codes "plus"; arity = 3 })))

abbrev pub divmod_fault : Tree → Plan
divmod_fault e = plan.Ball (error_term e (indicator_term (record { name = codes "divmod"; arity = 4 })))

-- divmod/4 of this quotient and what is left
abbrev pub divmod_plan : (quotient left : Value) → Plan
divmod_plan (Ok x) (Ok y) = plan.Divided x y
divmod_plan (Ok x) (Err e) = divmod_fault e
divmod_plan (Err d) w = divmod_fault d
