use Rattle.std.proofs.Common.{◌≡◌, Bool, true, false, List, ◌&&◌, Option, Some, None, ap, sym, ◌∙◌}
use Rattle.term_core.specs.declared.pi.Pi.{Pi}
use Rattle.builtin_table.specs.Table.{Rows}
use Rattle.program.specs.Clauses.{Clause, indicator_of}
use Rattle.program.specs.Kept.{clause_of}
use Rattle.sandbox_walk.specs.Verdict.{reads, enters}
use Rattle.sandbox_walk.specs.Seen.{has}
use Rattle.sandbox_walk.proofs.texts.reads.Goals as goal
use Rattle.sandbox_walk.proofs.texts.reads.Goals.{then-has, else-has}

of_some : (rows : Rows) (p : List Clause) (reached : Pi → Bool) (c : Clause) (i : Pi) (r : Bool) → indicator_of c.head ≡ Some i → r ≡ (reached i && enters rows p i) → r ≡ reads rows p reached c
of_some rows p reached c i r e h =
    h ∙ ap (λ (x : Option Pi). elim x as (λ y. Bool) [ None ↦ false | Some j ↦ reached j && enters rows p j ]) (sym e)

and_true : (a b r : Bool) → a ≡ true → r ≡ b → r ≡ (a && b)
and_true a b r h e = rw h e

and_false : (a b r : Bool) → a ≡ false → r ≡ false → r ≡ (a && b)
and_false a b r h e = rw h e

pub returns : goal.returns
returns c =
    of_some c.args.table.now c.args.program.now.clauses (has c.args.reached.now) (clause_of c.args.clause.now) c.in-Some.pi c.if-has.result (sym c.in_ok-pi.ensures ∙ c.in-Some.is)
    (elim c.if-has.branch [
      | then-has w ↦ and_true _ _ _ (sym c.has.ensures ∙ w.if-has.true) (w.result-is ∙ w.enters.ensures)
      | else-has w ↦ and_false _ _ _ (sym c.has.ensures ∙ w.if-has.false) (w.result-is ∙ w.if-has.false)
    ])
