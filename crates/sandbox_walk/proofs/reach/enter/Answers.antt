use Rattle.std.proofs.Common.{List, ap, sym, subst, ◌∙◌}
use Rattle.std.specs.List.{flat_map}
use Rattle.program.specs.Clauses.{Clause}
use Rattle.sandbox_walk.specs.declared.found.Found.{Found}
use Rattle.sandbox_walk.specs.Seen.{HasMet}
use Rattle.sandbox_walk.specs.Verdict.{in_clause}
use Rattle.sandbox_walk.proofs.Walking.{walking_passes, walking_enters}
use Rattle.sandbox_walk.proofs.reach.enter.Goals as goal

pub returns-then-not-enters : goal.returns-then-not-enters
returns-then-not-enters c = λ g before taken seen k.
    walking_passes c.args.table.now c.args.program.now.clauses g c.args.pi.now before c.args.walk.now before taken (sym seen) k (sym c.enters.ensures ∙ c.if-not-enters.true)

pub returns : goal.returns
returns c = λ g before taken seen k.
    walking_enters c.args.table.now c.args.program.now.clauses g c.args.pi.now before c.args.walk.now c.meet.new.walk taken (sym seen) k (sym c.enters.ensures ∙ c.if-not-enters.false)
    (subst (λ (fs : List Found). HasMet fs c.args.walk.now c.meet.new.walk)
    (c.deref.ensures.value ∙ c.in_ok-found.ensures ∙ ap (λ (cs : List Clause). flat_map (in_clause c.args.table.now) cs) c.clauses.ensures) c.in_ok-meet.ensures)
