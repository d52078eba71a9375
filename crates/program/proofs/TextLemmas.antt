-- The clauses and the first fault of a text, one term more.
use Rattle.std.proofs.Common.{◌≡◌, ℕ, ◌+◌, ◌<◌, ◌≤◌, Bool, List, [], ◌∷◌, ◌++◌, length, take, drop, get_or, Option, Some, None, refl, ap, sym, ◌∙◌}
use Rattle.std.specs.List.{cons_option}
use Rattle.std.specs.Option.{option_to_list}
use Rattle.std.proofs.lemmas.List.{take_more, drop_more, drop_all, map-append}
use Rattle.std.proofs.lemmas.List.Elements.{filter_map-append}
use Rattle.term_core.specs.declared.pi.Pi.{Pi}
use Rattle.term_core.specs.declared.read_term.ReadTerm.{ReadTerm}
use Rattle.term_core.specs.Tree.{Tree}
use Rattle.program.specs.declared.fault.ProgFault.{ProgFault}
use Rattle.program.specs.declared.fault.ProgFault.TheVariants.{BadDirective, NotCallable, Redefines, Memory}
use Rattle.program.specs.Clauses.{Clause}
use Rattle.program.specs.Source.{item_of, clause_in, clauses_in, trees_read, fault_of, first_fault, Tells}

one_clause : (own : Bool) (t : Tree) → clauses_in own (t ∷ []) ≡ option_to_list (clause_in own t)
one_clause own t = by (clause_in own t)
  where
    by : (c : Option Clause) → cons_option c [] ≡ option_to_list c
    by None = refl
    by (Some d) = refl

-- a fault that is told of one term is told of another place where it is found
told_on : (one found : Option ProgFault) → ((fault : ProgFault) → one ≡ Some fault → found ≡ Some fault) → (e : ProgFault) → Tells one e → Tells found e
told_on one found on (BadDirective n) h = on (BadDirective n) h
told_on one found on (NotCallable n) h = on (NotCallable n) h
told_on one found on (Redefines n pi) h = on (Redefines n pi) h
told_on one found on Memory h = tt

module _ (rs : List ReadTerm) (i : ℕ) (d : ReadTerm) (inside : i < length rs) where
  abbrev r : ReadTerm
  r = get_or rs i d

  clauses_taken : (own : Bool) → clauses_in own (trees_read (take (i + 1) rs)) ≡ clauses_in own (trees_read (take i rs)) ++ option_to_list (clause_in own r.term)
  clauses_taken own =
      ap (λ (xs : List ReadTerm). clauses_in own (trees_read xs)) (take_more rs i d inside)
      ∙ ap (clauses_in own) (map-append (λ (x : ReadTerm). x.term) (take i rs) (r ∷ []))
      ∙ filter_map-append (clause_in own) (trees_read (take i rs)) (r.term ∷ [])
      ∙ ap (λ (cs : List Clause). clauses_in own (trees_read (take i rs)) ++ cs) (one_clause own r.term)

  pub clauses_more : (own : Bool) (cs ds : List Clause) (c : Option Clause) → cs ≡ clauses_in own (trees_read (take i rs)) → c ≡ clause_in own r.term → ds ≡ cs ++ option_to_list c → ds ≡ clauses_in own (trees_read (take (i + 1) rs))
  clauses_more own cs ds c so_far one more = rw (more, so_far, one) (sym (clauses_taken own))

  pub faults_more : (reserved : List Pi) (found : Option ProgFault) → fault_of reserved (i + 1) (item_of r.term) ≡ None → first_fault reserved (i + 1) (trees_read (drop i rs)) ≡ found → first_fault reserved (i + 1 + 1) (trees_read (drop (i + 1) rs)) ≡ found
  unfolding first_fault
  faults_more reserved found none so_far =
      let step : first_fault reserved (i + 1) (trees_read (r ∷ drop (i + 1) rs)) ≡ first_fault reserved (i + 1 + 1) (trees_read (drop (i + 1) rs)) = rw (first_fault, none) refl in
      sym step ∙ ap (λ (xs : List ReadTerm). first_fault reserved (i + 1) (trees_read xs)) (sym (drop_more rs i d inside)) ∙ so_far

  pub fault_here : (reserved : List Pi) (found : Option ProgFault) (e : ProgFault) → first_fault reserved (i + 1) (trees_read (drop i rs)) ≡ found → Tells (fault_of reserved (i + 1) (item_of r.term)) e → Tells found e
  unfolding first_fault
  fault_here reserved found e so_far =
      told_on (fault_of reserved (i + 1) (item_of r.term)) found
      (λ fault h. sym so_far ∙ ap (λ (xs : List ReadTerm). first_fault reserved (i + 1) (trees_read xs)) (drop_more rs i d inside) ∙ rw (first_fault, h) refl)
      e

-- no term is left
pub none_left : (rs : List ReadTerm) (i : ℕ) (reserved : List Pi) (found : Option ProgFault) → length rs ≤ i → first_fault reserved (i + 1) (trees_read (drop i rs)) ≡ found → found ≡ None
unfolding first_fault
none_left rs i reserved found h so_far =
    sym so_far ∙ ap (λ (xs : List ReadTerm). first_fault reserved (i + 1) (trees_read xs)) (drop_all i rs h)
