-- The term of which each answer of a query gives an instance, and the names that stand with it.
use Rattle.std.specs.Prelude.{ℕ, Bool, true, false, List, map, Option, Some, None, codes}
use Rattle.term_core.specs.Tree.{Tree, variable}
use Rattle.builtin_table.specs.Errors.{two_arguments}
use Rattle.builtin_table.specs.Lists.{list_of}
use Rattle.event_core.specs.declared.request.Ask.{Ask}

-- the variables that have names, in the names' order
abbrev pub named_variables : Ask → List Tree
named_variables a = map (λ p. variable p.1) a.names

-- the template; with names, '$answer'(T, [V1,..,Vk]), T being the template and V1 to Vk the variables that have names
abbrev pub answer_term : (names : Bool) → Ask → Tree
answer_term false a = a.template
answer_term true a = two_arguments (codes "$answer") a.template (list_of (named_variables a))

abbrev pub names_told : (names : Bool) → Ask → Option (List (List ℕ))
names_told false a = None
names_told true a = Some (map (λ p. p.0) a.names)
