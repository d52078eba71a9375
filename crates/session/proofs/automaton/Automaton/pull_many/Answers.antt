use Rattle.std.proofs.Common.{◌≡◌, ◌∙◌, ℕ, min, length, ap, subst, arith}
use Rattle.session.specs.After.{Pulled}
use Rattle.session.specs.Views.{Enters}
use Rattle.session.specs.Kept.{view_of}
use Rattle.session.proofs.Seen.{pulled_many_does}
use Rattle.session.proofs.automaton.Automaton.pull_many.Goals as goal

pub returns-clause-does : goal.returns-clause-does
returns-clause-does c =
    let k : c.min-many.result ≡ min c.args.max (length c.args.self.now.queue.items) = c.min-many.ensures ∙ ap (λ n. min c.args.max n) c.len.ensures.len in
    subst (λ (n : ℕ). Enters (Pulled n) (view_of c.args.self.now) (view_of c.settle.new.self)) k
    (pulled_many_does c.args.self.now c.min-many.result (view_of c.settle.new.self) (omega (arith, k)) (rw (c.move_first.ensures.left, c.saturating_add-self.ensures) at c.settle.ensures.does))
