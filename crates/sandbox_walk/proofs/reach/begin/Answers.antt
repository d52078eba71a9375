use Rattle.std.proofs.Common.{List, subst, ◌∙◌}
use Rattle.sandbox_walk.specs.declared.found.Found.{Found}
use Rattle.sandbox_walk.specs.declared.reach.Walk.{Walk}
use Rattle.sandbox_walk.specs.Seen.{HasMet}
use Rattle.sandbox_walk.proofs.Walking.{walking_begins, none_seen}
use Rattle.sandbox_walk.proofs.reach.begin.Goals as goal

pub returns : goal.returns
returns c =
    let empty : Walk = record { seen = c.new.result; waiting = c.new-2.result } in
    walking_begins c.args.table.now c.args.program.now.clauses c.args.goal.now empty c.meet.new.walk (none_seen c.new.result c.new.ensures.empty) c.new-2.ensures.items
    (subst (λ (fs : List Found). HasMet fs empty c.meet.new.walk) (c.deref.ensures.value ∙ c.in_ok-found.ensures) c.in_ok-meet.ensures)
