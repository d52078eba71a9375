use Rattle.std.proofs.Common.{◌≡◌, ◌∙◌, ℕ, length, Option, Some, None, refl, ap, sym, subst}
use Rattle.std.proofs.lemmas.Bool.{both_ways}
use Rattle.session.specs.declared.answers.Given.TheVariants.{Kept}
use Rattle.session.specs.declared.state.State.TheVariants.{Out}
use Rattle.session.specs.declared.automaton.Automaton.{Automaton}
use Rattle.session.specs.declared.turn.Gone as kept_turn
use Rattle.session.specs.declared.turn.Turn.TheInside.{Inside}
use Rattle.session.specs.Views.{Gone, TurnView, View, IsPresent}
use Rattle.session.specs.TurnsKept.{gone_view, gone_of, turn_view, IsGoneAt, Keeps}
use Rattle.session.specs.Kept.{look_of, view_of, TakesBack}
use Rattle.session.proofs.Keeping.{keeps}
use Rattle.session.proofs.Seen.{Settles, dropped_does}
use Rattle.session.proofs.automaton.Automaton.give.Goals as goal
use Rattle.session.proofs.automaton.Automaton.give.Goals.{in-Out, in_default, in-Some, in_default-gone}

pub returns-then-not-is_out-clause-dropped : goal.returns-then-not-is_out-clause-dropped
returns-then-not-is_out-clause-dropped c = λ g r e. dropped_does (view_of c.args.self.now) (view_of c.settle.new.self) c.args.turn.number g.steps (length g.events) g.starved c.settle.ensures.does

inside_some : (x y : Gone) → Some x ≡ Some y → x ≡ y
inside_some x y e = subst (λ (o : Option Gone). at o) e refl
  where
    at : Option Gone → Type 0
    at None = Unit {0}
    at (Some z) = x ≡ z

none_gone : (o : Option kept_turn.Gone) (g : Gone) → o ≡ None → gone_of o ≡ Some g → ⊥
none_gone o g n e = no (ap gone_of (sym n) ∙ e)
  where
    no : None ≡ Some g → ⊥
    no h = cc

-- the turn that is back, of the query that is out
module _ (a : Automaton) (t : Inside) (room further : ℕ) (present : IsPresent (view_of a) (turn_view t) room further) (known : IsGoneAt (turn_view t) (gone_of t.gone)) (b : View) (k : kept_turn.Gone) (some : t.gone ≡ Some k) (v : View) (turns : TakesBack t.query k (view_of a) v) (settles : Settles v b) where
  kept_by : (g : Gone) → gone_of t.gone ≡ Some g → Keeps (view_of a) (turn_view t) g b
  kept_by g e =
      subst (λ z. Keeps (view_of a) (turn_view t) z b) (inside_some (gone_view k) g (ap gone_of (sym some) ∙ e))
      (keeps (view_of a) (turn_view t) t.query k (subst (λ o. IsGoneAt (turn_view t) (gone_of o)) some known) present.program present.settings present.events refl v b turns settles)

present_at : (c : goal.Joined-drop) (room further : ℕ) → c.args.self.now.state ≡ Out room further → IsPresent (view_of c.args.self.now) (turn_view c.turn.inside) room further
present_at c room further is =
    subst (λ (t : TurnView). IsPresent (view_of c.args.self.now) t room further) (sym c.turn.view_is)
    (c.requires.turn.present room further (ap look_of is) (ap (λ (t : TurnView). t.number) (sym c.turn.view_is) ∙ c.if-turn-self.false))

kept_at : (c : goal.Joined-drop) (room further : ℕ) → c.args.self.now.state ≡ Out room further → (g : Gone) → gone_of c.turn.inside.gone ≡ Some g → Keeps (view_of c.args.self.now) (turn_view c.turn.inside) g (view_of c.settle-2.new.self)
kept_at c room further is g e =
    elim c.match-gone.branch [
      | in-Some w ↦
          kept_by c.args.self.now c.turn.inside room further (present_at c room further is) c.turn.invariant.gone (view_of c.settle-2.new.self) w.in-Some.gone w.in-Some.is (view_of w.keep.new.self) w.keep.ensures.turns
          (subst (λ (z : Automaton). Settles (view_of z) (view_of c.settle-2.new.self)) w.self-is c.settle-2.ensures.does) g e
      | in_default-gone w ↦ absurd (none_gone c.turn.inside.gone g w.in_default-gone.is e)
    ]

pub returns-clause-kept : goal.returns-clause-kept
returns-clause-kept c =
    subst (λ (t : TurnView). (g : Gone) → Kept ≡ Kept → t.gone ≡ Some g → Keeps (view_of c.args.self.now) t g (view_of c.settle-2.new.self)) c.turn.view_is
    (λ g r e.
    elim c.match-matches.branch [
      | in-Out w ↦ kept_at c w.in-Out.room w.in-Out.further w.in-Out.is g e
      | in_default w ↦ absurd (both_ways c.match-matches.matches w.matches-is c.if-not-is_out.false)
    ])
