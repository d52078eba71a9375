use Rattle.std.proofs.Common.{refl}
use Rattle.event_core.proofs.Readers.{resume_brings, request_given}
use Rattle.event_core.proofs.reader.Reader.resume.Goals as goal

pub returns-clause-brings : goal.returns-clause-brings
returns-clause-brings c = λ qs more.
    resume_brings c.args.self.now _ c.args.request.now c.requires.fits c.chunk_after-self.result c.chunk_after-self.ensures
    c.replace-stand.result c.replace-stand.ensures.value c.in_ok-moved.moved c.in_ok-moved.ensures refl qs more

pub returns-clause-given : goal.returns-clause-given
returns-clause-given c = λ ns k ps rs es h.
    request_given ns k ps rs es _ c.args.self.now _ h refl c.args.request.now (returns-clause-brings c)
