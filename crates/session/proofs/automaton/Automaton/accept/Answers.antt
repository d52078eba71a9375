use Rattle.session.proofs.automaton.Automaton.accept.Goals as goal

pub send-requires-clause-letter : goal.send-requires-clause-letter
send-requires-clause-letter c = c.in_ok-letter.ensures.letter c.args.self.now.settings
