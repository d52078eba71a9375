-- Clauses, as the code keeps them.
use Rattle.std.specs.Prelude.{ℕ, Bool, List, refl}
use Rattle.std.specs.Coded.{Coded, code_by, coded×, coded_ℕ, coded_bool, coded_list}
use Rattle.term_core.specs.Tree.{Tree}
use Rattle.term_core.specs.Flat.{tree_code}
use Rattle.program.specs.declared.clause.Clause as kept
use Rattle.program.specs.Clauses.{Clause}

-- the clause without what is known of its numbers
abbrev pub clause_of : kept.Clause → Clause
clause_of c = record { head = c.head; body = c.body; vars = c.vars; own = c.own }

abbrev pub coded_clause : Coded Clause
coded_clause =
    code_by (Tree × (Tree × (ℕ × Bool))) (coded× tree_code (coded× tree_code (coded× coded_ℕ coded_bool))) (λ c. (c.head, (c.body, (c.vars, c.own)))) (λ p. record { head = p.0; body = p.1.0; vars = p.1.1.0; own = p.1.1.1 }) (λ _. refl)

abbrev pub coded_clauses : Coded (List Clause)
coded_clauses = coded_list coded_clause
