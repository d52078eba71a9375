use Rattle.std.proofs.Common.{sym, subst}
use Rattle.session.specs.declared.automaton.Automaton.{Automaton}
use Rattle.session.specs.Kept.{view_of}
use Rattle.session.specs.Recorded.{IsRecorded}
use Rattle.session.proofs.Recording.{sent_back, goes_on}
use Rattle.session.proofs.session.Session.send.Goals as goal
use Rattle.session.proofs.session.Session.send.Goals.{in-Ok, in-Err}

pub invariant_of-self : goal.invariant_of-self
invariant_of-self c = (
  c.accept.ensures.sound,
  elim c.match-accept.branch [
    | in-Ok w ↦ goes_on (sent_back c.self.inside.automaton c.accept.new.self c.args.request c.has_ended.result c.has_ended.ensures c.if-has_ended.false c.len.result c.len.ensures.len c.if-len-ge-MOST_REQUESTS.false w.in-Ok.ensures.sent) c.self.invariant.1
    | in-Err w ↦ subst (λ (x : Automaton). IsRecorded (view_of x)) (sym w.in-Err.ensures.refused) c.self.invariant.1
  ],
)

pub returns-clause-sent : goal.returns-clause-sent
returns-clause-sent c =
    elim c.match-accept.branch [
      | in-Ok w ↦ rw (w.result-is, ← c.self.view_is) (sent_back c.self.inside.automaton c.accept.new.self c.args.request c.has_ended.result c.has_ended.ensures c.if-has_ended.false c.len.result c.len.ensures.len c.if-len-ge-MOST_REQUESTS.false w.in-Ok.ensures.sent)
      | in-Err w ↦ rw w.result-is tt
    ]
