use Rattle.std.proofs.Common.{true, sym, ◌∙◌, refl}
use Rattle.program.proofs.SourceLemmas.{no_clause, good_directive, bad_directive, not_callable, callable}
use Rattle.program.specs.Kept.{clause_of}
use Rattle.program.proofs.source.own_entry.Goals as goal

pub returns-then-branch-clause-entry : goal.returns-then-branch-clause-entry
returns-then-branch-clause-entry c =
    no_clause true c.args.term.now c.in-Directive.directive (sym c.in_ok-directive.ensures ∙ c.in-Directive.is)

pub returns-then-branch-clause-accepted : goal.returns-then-branch-clause-accepted
returns-then-branch-clause-accepted c =
    good_directive c.args.reserved.now c.args.number c.args.term.now c.in-Directive.directive (sym c.in_ok-directive.ensures ∙ c.in-Directive.is) (sym c.in_ok-is_directive-in-Directive.ensures ∙ c.if-branch.true)

pub returns-else-branch-clause-refused : goal.returns-else-branch-clause-refused
returns-else-branch-clause-refused c =
    bad_directive c.args.reserved.now c.args.number c.args.term.now c.in-Directive.directive (sym c.in_ok-directive.ensures ∙ c.in-Directive.is) (sym c.in_ok-is_directive-in-Directive.ensures ∙ c.if-branch.false)

pub returns-in_default-clause-refused : goal.returns-in_default-clause-refused
returns-in_default-clause-refused c =
    not_callable c.args.reserved.now c.args.number c.args.term.now true c.in-Rule.head c.in-Rule.body (sym c.in_ok-directive.ensures ∙ c.in-Rule.is) (rw c.in_default.is at c.in_ok-entry-in-Rule.ensures)

pub returns-then-is_taken-clause-refused : goal.returns-then-is_taken-clause-refused
returns-then-is_taken-clause-refused c =
    callable c.args.reserved.now c.args.number c.args.term.now true c.in-Rule.head c.in-Rule.body (sym c.in_ok-directive.ensures ∙ c.in-Rule.is) (clause_of c.in-Some.entry.clause) c.in-Some.entry.pi (rw c.in-Some.is at c.in_ok-entry-in-Rule.ensures) c.in-Some.entry.is_of ∙ rw (← c.is_taken.ensures, c.if-is_taken.true) refl

pub returns-else-is_taken-clause-accepted : goal.returns-else-is_taken-clause-accepted
returns-else-is_taken-clause-accepted c =
    callable c.args.reserved.now c.args.number c.args.term.now true c.in-Rule.head c.in-Rule.body (sym c.in_ok-directive.ensures ∙ c.in-Rule.is) (clause_of c.in-Some.entry.clause) c.in-Some.entry.pi (rw c.in-Some.is at c.in_ok-entry-in-Rule.ensures) c.in-Some.entry.is_of ∙ rw (← c.is_taken.ensures, c.if-is_taken.false) refl
