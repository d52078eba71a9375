-- What the terms of a source text say: directives and clauses (ISO 13211-1, 7.4), which of them are refused, and the program that they make.
use Rattle.std.specs.Prelude.{◌≡◌, ℕ, ◌+◌, Bool, true, false, not, ◌&&◌, ◌||◌, ◌==◌, List, [], ◌∷◌, ◌++◌, length, map, filter, if◌then◌else◌, codes, bytes_eq, Option, Some, None, is_some, is_ok, ⊤, All}
use Rattle.std.specs.List.{list_any, filter_map}
use Rattle.term_core.specs.declared.pi.Pi.{Pi}
use Rattle.term_core.specs.declared.read_term.ReadTerm.{ReadTerm}
use Rattle.term_core.specs.Tree.{Tree, integer, atom, compound, Trees, no_trees, tree, tree_list}
use Rattle.term_core.specs.Variables.{variables, first_free}
use Rattle.op_table.specs.Table.{asked}
use Rattle.program.specs.declared.source.Item.{Item}
use Rattle.program.specs.declared.source.Item.TheVariants.{Directive, Rule}
use Rattle.program.specs.declared.fault.ProgFault.{ProgFault}
use Rattle.program.specs.declared.fault.ProgFault.TheVariants.{BadDirective, NotCallable, Redefines, Memory}
use Rattle.program.specs.Bodies.{is_body}
use Rattle.program.specs.Clauses.{Clause, indicator_of, is_for, same_indicator}

-- What a term of a source text is: `:- D` a directive, `Head :- Body` a rule, and any other term a fact, which is a rule whose body is `true`.
abbrev pub fact : Tree → Item
fact t = Rule t (atom (codes "true"))

abbrev item_of_compound : List ℕ → Trees → Item
item_of_compound f (tree d no_trees) = if bytes_eq f (codes ":-") then Directive d else fact (compound f (tree d no_trees))
item_of_compound f (tree h (tree b no_trees)) = if bytes_eq f (codes ":-") then Rule h b else fact (compound f (tree h (tree b no_trees)))
item_of_compound f ts = fact (compound f ts)

unfoldable pub item_of : Tree → Item
item_of (compound f ts) = item_of_compound f ts
item_of t = fact t

-- ---- directives

abbrev pub is_one_atom : List Tree → Bool
is_one_atom (atom name ∷ []) = true
is_one_atom ts = false

-- library(Name)
abbrev pub is_library : Tree → Bool
is_library (compound f ts) = bytes_eq f (codes "library") && is_one_atom (tree_list ts)
is_library t = false

-- a library, and what is imported from it
abbrev pub are_imports : List Tree → Bool
are_imports (l ∷ []) = is_library l
are_imports (l ∷ imports ∷ []) = is_library l
are_imports ts = false

-- an operator that op/3 takes, whatever the operators so far (ISO 13211-1, 8.14.3)
abbrev pub is_operator : List Tree → Bool
is_operator (integer p ∷ atom kind ∷ atom name ∷ []) = is_ok (asked p kind name)
is_operator ts = false

-- the directives that are accepted: the use of a library, which has no effect, and op/3
unfoldable pub is_directive : Tree → Bool
is_directive (compound f ts) =
    (bytes_eq f (codes "use_module") && are_imports (tree_list ts)) || (bytes_eq f (codes "op") && is_operator (tree_list ts))
is_directive t = false

-- ---- faults

abbrev pub begins_with_dollar : List ℕ → Bool
begins_with_dollar [] = false
begins_with_dollar (c ∷ cs) = c == 36

-- a predicate that no source text may define
abbrev pub is_taken : List Pi → Pi → Bool
is_taken reserved pi = list_any (λ r. same_indicator r pi) reserved || begins_with_dollar pi.name

abbrev pub redefines : List Pi → ℕ → Pi → Option ProgFault
redefines reserved n pi = if is_taken reserved pi then Some (Redefines n pi) else None

-- a rule's fault, by the predicate that its head is of and whether its body is one
abbrev pub fault_at : List Pi → ℕ → Option Pi → Bool → Option ProgFault
fault_at reserved n None is_body = Some (NotCallable n)
fault_at reserved n (Some pi) false = Some (NotCallable n)
fault_at reserved n (Some pi) true = redefines reserved n pi

unfoldable pub fault_of : List Pi → ℕ → Item → Option ProgFault
fault_of reserved n (Directive d) = if is_directive d then None else Some (BadDirective n)
fault_of reserved n (Rule h b) = fault_at reserved n (indicator_of h) (is_body b)

-- the fault of the first term that has one, where the first of these terms has the number n; directives are counted
unfoldable pub first_fault : List Pi → ℕ → List Tree → Option ProgFault
first_fault reserved n [] = None
first_fault reserved n (t ∷ ts) =
    elim (fault_of reserved n (item_of t)) [ None ↦ first_fault reserved (n + 1) ts | Some fault ↦ Some fault ]

-- what is told is the fault found; want of memory is free
abbrev pub Tells : Option ProgFault → ProgFault → Type 0
Tells found Memory = ⊤
Tells found fault = found ≡ Some fault

-- ---- the program

-- the clause of a rule in a term with so many variables, where the head is callable and the body a body
abbrev clause_of_item : Bool → ℕ → Item → Option Clause
clause_of_item own vars (Directive d) = None
clause_of_item own vars (Rule h b) =
    if is_some (indicator_of h) && is_body b then Some (record { head = h; body = b; vars = vars; own = own }) else None

unfoldable pub clause_in : Bool → Tree → Option Clause
clause_in own t = clause_of_item own (length (variables t)) (item_of t)

-- the clauses of a source text, which is the client's own or the library's
abbrev pub clauses_in : Bool → List Tree → List Clause
clauses_in own ts = filter_map (clause_in own) ts

-- whether the clauses define the predicate that this is the head of
abbrev pub defines : List Clause → Tree → Bool
defines cs h = elim (indicator_of h) [ None ↦ false | Some pi ↦ list_any (λ c. is_for pi c.head) cs ]

-- A program: the library's clauses, less each predicate that the client defines, then the client's.
unfoldable pub program_of : (library own : List Clause) → List Clause
program_of library own = filter (λ c. not (defines own c.head)) library ++ own

-- ---- what is handed in

abbrev pub trees_read : List ReadTerm → List Tree
trees_read rs = map (λ r. r.term) rs

-- the variables are numbered from 0 without a gap: there are as many as numbers below the first free one
abbrev pub IsNumbered : Tree → Type 0
IsNumbered t = length (variables t) ≡ first_free t

abbrev pub AreNumbered : List ReadTerm → Type 0
AreNumbered rs = All (λ r. IsNumbered r.term) rs
