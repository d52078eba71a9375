use Rattle.std.proofs.Common.{◌∙◌, refl, sym}
use Rattle.event_core.proofs.Readers.{read_brings, stop_given}
use Rattle.event_core.proofs.reader.Reader.read.Goals as goal

pub returns-clause-brings : goal.returns-clause-brings
returns-clause-brings c = λ qs more.
    read_brings c.args.self.now _ c.in-Reading.held (sym c.replace-stand.ensures.value ∙ c.in-Reading.is) c.args.step c.args.stop c.in_ok-moved.moved c.in_ok-moved.ensures refl qs more

pub returns-clause-given : goal.returns-clause-given
returns-clause-given c = λ ns k ps rs es h.
    stop_given ns k ps rs es _ c.args.self.now _ h refl (c.args.step, c.args.stop) (returns-clause-brings c)
