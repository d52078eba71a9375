use Rattle.session.specs.Kept.{view_of}
use Rattle.session.proofs.Seen.{begun_none, begun_asked}
use Rattle.session.proofs.Recording.{begun_record, begun_recorded}
use Rattle.session.proofs.session.Session.create.Goals as goal

pub returns-in-None-clause-begun : goal.returns-in-None-clause-begun
returns-in-None-clause-begun c = begun_none c.args.spec c.in_ok-automaton.automaton c.in_ok-automaton.ensures.program c.in_ok-automaton.ensures.settings c.in_ok-automaton.ensures.seen c.in-None.is

pub returns-in-None-clause-recorded : goal.returns-in-None-clause-recorded
returns-in-None-clause-recorded c = begun_record c.args.spec (view_of c.in_ok-automaton.automaton) (begun_none c.args.spec c.in_ok-automaton.automaton c.in_ok-automaton.ensures.program c.in_ok-automaton.ensures.settings c.in_ok-automaton.ensures.seen c.in-None.is)

pub invariant_of-result : goal.invariant_of-result
invariant_of-result c = (c.in_ok-automaton.ensures.sound, begun_recorded c.args.spec (view_of c.in_ok-automaton.automaton) c.requires.keeps (begun_none c.args.spec c.in_ok-automaton.automaton c.in_ok-automaton.ensures.program c.in_ok-automaton.ensures.settings c.in_ok-automaton.ensures.seen c.in-None.is))

pub returns-in_ok-accept-in-Some-clause-begun : goal.returns-in_ok-accept-in-Some-clause-begun
returns-in_ok-accept-in-Some-clause-begun c = begun_asked c.args.spec c.in-Some.ask c.in_ok-automaton.automaton c.accept.new.self c.in_ok-automaton.ensures.program c.in_ok-automaton.ensures.settings c.in_ok-automaton.ensures.seen c.in-Some.is c.in_ok-accept-in-Some.ensures.sent

pub returns-in_ok-accept-in-Some-clause-recorded : goal.returns-in_ok-accept-in-Some-clause-recorded
returns-in_ok-accept-in-Some-clause-recorded c = begun_record c.args.spec (view_of c.accept.new.self) (begun_asked c.args.spec c.in-Some.ask c.in_ok-automaton.automaton c.accept.new.self c.in_ok-automaton.ensures.program c.in_ok-automaton.ensures.settings c.in_ok-automaton.ensures.seen c.in-Some.is c.in_ok-accept-in-Some.ensures.sent)

pub invariant_of-result-in-Some : goal.invariant_of-result-in-Some
invariant_of-result-in-Some c = (c.in_ok-accept-in-Some.ensures.sound, begun_recorded c.args.spec (view_of c.accept.new.self) c.requires.keeps (begun_asked c.args.spec c.in-Some.ask c.in_ok-automaton.automaton c.accept.new.self c.in_ok-automaton.ensures.program c.in_ok-automaton.ensures.settings c.in_ok-automaton.ensures.seen c.in-Some.is c.in_ok-accept-in-Some.ensures.sent))
