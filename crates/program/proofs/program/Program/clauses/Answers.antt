use Rattle.std.proofs.Common.{sym, ◌∙◌}
use Rattle.program.proofs.ProgramLemmas.{library_answers, own_answers}
use Rattle.program.proofs.program.Program.clauses.Goals as goal

pub returns-then-is_empty : goal.returns-then-is_empty
returns-then-is_empty c =
    rw (← c.self.view_is)
    (library_answers c.args.pi.now c.self.inside.library c.self.inside.own c.of-own.result.now c.of.result.now c.of-own.ensures (sym c.is_empty.ensures ∙ c.if-is_empty.true) c.of.ensures)

pub returns-else-is_empty : goal.returns-else-is_empty
returns-else-is_empty c =
    rw (← c.self.view_is)
    (own_answers c.args.pi.now c.self.inside.library c.self.inside.own c.of-own.result.now c.of-own.ensures (sym c.is_empty.ensures ∙ c.if-is_empty.false))
