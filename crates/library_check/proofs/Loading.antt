-- The clauses of an accepted text keep to the sandbox, and so does what is loaded over a library that does.
use Rattle.std.proofs.Common.{◌≡◌, ℕ, ◌+◌, Bool, true, false, not, ◌&&◌, ◌||◌, List, [], ◌∷◌, length, if◌then◌else◌, codes, bytes_eq, Option, Some, None, is_some, refl, ap, subst, ◌∙◌}
use Rattle.std.specs.List.{list_all, cons_option}
use Rattle.term_core.specs.declared.pi.Pi.{Pi}
use Rattle.term_core.specs.Tree.{Tree, variable, integer, atom, compound, no_trees, tree}
use Rattle.term_core.specs.Variables.{variables}
use Rattle.builtin_table.specs.Table.{Rows, rows_of_app, reserved_of}
use Rattle.program.specs.declared.fault.ProgFault.{ProgFault}
use Rattle.program.specs.declared.fault.ProgFault.TheVariants.{Redefines}
use Rattle.program.specs.Bodies.{is_body}
use Rattle.program.specs.Clauses.{Clause, indicator_of}
use Rattle.program.specs.Source.{item_of, begins_with_dollar, fault_of, fault_at, first_fault, clause_in, clauses_in}
use Rattle.sandbox_walk.specs.Keeping.{is_reserved, keeps_of, clause_keeps, client_keeps}
use Rattle.sandbox_walk.proofs.Loading.{loaded_keep}
use Rattle.library_check.specs.Loaded.{AcceptedTextsKeepTheSandbox, LoadedTextsKeepTheSandbox}
use Rattle.library_check.proofs.Lists.{both}

no_fault : (o x : Option ProgFault) → elim o as (λ y. Option ProgFault) [ None ↦ x | Some fault ↦ Some fault ] ≡ None → (o ≡ None) × (x ≡ None)
no_fault None x e = (refl, e)
no_fault (Some fault) x e = cc

accepted_keeps : (rows : Rows) (n : ℕ) (h b : Tree) (vars : ℕ) (i : Pi) → indicator_of h ≡ Some i → fault_at (reserved_of rows) n (Some i) true ≡ None → clause_keeps rows (record { head = h; body = b; vars = vars; own = true }) ≡ true
accepted_keeps rows n h b vars i e f =
    ap (λ (o : Option Pi). elim o as (λ x. Bool) [ None ↦ true | Some j ↦ keeps_of rows (record { head = h; body = b; vars = vars; own = true }) j ]) e
    ∙ by (is_reserved rows i) (begins_with_dollar i.name) f
  where
    by : (r d : Bool) → (if r || d then Some (Redefines n i) else None) ≡ None → (not r && not d) ≡ true
    by true d k = cc
    by false true k = cc
    by false false k = refl

-- the clause of a rule of this term, where it has one
abbrev rule_clause : (t h b : Tree) → Clause
rule_clause t h b = record { head = h; body = b; vars = length (variables t); own = true }

abbrev clause_if : (t h b : Tree) → Option Clause
clause_if t h b = if is_some (indicator_of h) && is_body b then Some (rule_clause t h b) else None

the_clause : (t h b : Tree) (i : Pi) → indicator_of h ≡ Some i → is_body b ≡ true → Some (rule_clause t h b) ≡ clause_if t h b
the_clause t h b i e g = rw (e, g) refl

-- it keeps to the sandbox, if there is one
abbrev Keeps : Rows → Option Clause → Type 0
Keeps rows None = Unit {0}
Keeps rows (Some c) = client_keeps rows c ≡ true

rule_keeps : (rows : Rows) (n : ℕ) (t h b : Tree) → fault_at (reserved_of rows) n (indicator_of h) (is_body b) ≡ None → Keeps rows (clause_if t h b)
rule_keeps rows n t h b f = by (indicator_of h) (is_body b) refl refl f
  where
    by : (o : Option Pi) (y : Bool) → indicator_of h ≡ o → is_body b ≡ y → fault_at (reserved_of rows) n o y ≡ None → Keeps rows (clause_if t h b)
    by None y e g k = cc
    by (Some i) false e g k = cc
    by (Some i) true e g k = subst (Keeps rows) (the_clause t h b i e g) (accepted_keeps rows n h b (length (variables t)) i e k)

abbrev fact_body : Tree
fact_body = atom (codes "true")

term_keeps : (rows : Rows) (n : ℕ) (t : Tree) → fault_of (reserved_of rows) n (item_of t) ≡ None → Keeps rows (clause_in true t)
unfolding item_of fault_of clause_in
term_keeps rows n (variable x) k = rule_keeps rows n (variable x) (variable x) fact_body k
term_keeps rows n (integer z) k = rule_keeps rows n (integer z) (integer z) fact_body k
term_keeps rows n (atom f) k = rule_keeps rows n (atom f) (atom f) fact_body k
term_keeps rows n (compound f no_trees) k = rule_keeps rows n (compound f no_trees) (compound f no_trees) fact_body k
term_keeps rows n (compound f (tree d no_trees)) k = by (bytes_eq f (codes ":-")) refl k
  where
    by : (b : Bool) → bytes_eq f (codes ":-") ≡ b → fault_of (reserved_of rows) n (item_of (compound f (tree d no_trees))) ≡ None → Keeps rows (clause_in true (compound f (tree d no_trees)))
    by true e g = rw e tt
    by false e g = rw e (rule_keeps rows n (compound f (tree d no_trees)) (compound f (tree d no_trees)) fact_body (rw e at g))
term_keeps rows n (compound f (tree h (tree b no_trees))) k = by (bytes_eq f (codes ":-")) refl k
  where
    by : (x : Bool) → bytes_eq f (codes ":-") ≡ x → fault_of (reserved_of rows) n (item_of (compound f (tree h (tree b no_trees)))) ≡ None → Keeps rows (clause_in true (compound f (tree h (tree b no_trees))))
    by true e g = rw e (rule_keeps rows n (compound f (tree h (tree b no_trees))) h b (rw e at g))
    by false e g = rw e (rule_keeps rows n (compound f (tree h (tree b no_trees))) (compound f (tree h (tree b no_trees))) fact_body (rw e at g))
term_keeps rows n (compound f (tree x (tree y (tree z ts)))) k = rule_keeps rows n (compound f (tree x (tree y (tree z ts)))) (compound f (tree x (tree y (tree z ts)))) fact_body k

more : (rows : Rows) (o : Option Clause) (cs : List Clause) → Keeps rows o → list_all (client_keeps rows) cs ≡ true → list_all (client_keeps rows) (cons_option o cs) ≡ true
more rows None cs k r = r
more rows (Some c) cs k r = both (client_keeps rows c) (list_all (client_keeps rows) cs) k r

pub own_keep : AcceptedTextsKeepTheSandbox
unfolding first_fault
own_keep rows n [] f = refl
own_keep rows n (t ∷ ts) f =
    let q = no_fault (fault_of (reserved_of rows) n (item_of t)) (first_fault (reserved_of rows) (n + 1) ts) f in
    more rows (clause_in true t) (clauses_in true ts) (term_keeps rows n t q.0) (own_keep rows (n + 1) ts q.1)

pub loaded_texts_keep : LoadedTextsKeepTheSandbox
loaded_texts_keep app library ts k f = loaded_keep app library (clauses_in true ts) k (own_keep (rows_of_app app) 1 ts f)
