use Rattle.std.proofs.Common.{true, length, sym, subst}
use Rattle.session.specs.declared.turn.Gone as kept
use Rattle.session.specs.Turns.{Turns}
use Rattle.session.specs.Views.{TurnView}
use Rattle.session.specs.TurnsKept.{gone_view, turn_view, part_seen, IsGone}
use Rattle.session.proofs.Running.{starved, starved_gone, starved_turns}
use Rattle.session.proofs.turn.Turn.gone_by.Goals as goal

pub returns-in-Err-clause-gone : goal.returns-in-Err-clause-gone
returns-in-Err-clause-gone c =
    subst (λ (g : kept.Gone). IsGone c.args.self.now (gone_view g)) (sym c.starved.ensures)
    (subst (λ (t : TurnView). IsGone t starved) c.self.view_is (starved_gone (turn_view c.self.inside) c.self.invariant.some_room c.self.invariant.starts c.are_numbers.ensures.steps c.are_numbers.ensures.events))

pub returns-in-Err-clause-turned : goal.returns-in-Err-clause-turned
returns-in-Err-clause-turned c =
    subst (λ (g : kept.Gone). Turns (part_seen c.args.self.now) c.args.self.now.steps c.args.self.now.events c.args.budget c.args.self.now.room g.steps (length g.events) g.starved) (sym c.starved.ensures)
    (subst (λ (t : TurnView). Turns (part_seen t) t.steps t.events c.args.budget t.room 0 0 true) c.self.view_is
    (starved_turns (turn_view c.self.inside) c.args.budget c.self.invariant.some_room c.self.invariant.starts))
