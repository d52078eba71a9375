use Rattle.std.proofs.Common.{◌∙◌, ◌++◌, ℕ, List, ap}
use Rattle.http_wire.proofs.AnswerWholes.{gets_answer}
use Rattle.http_wire.proofs.responses.Responses.next.Goals as goal

pub returns-in-Err-clause-next : goal.returns-in-Err-clause-next
returns-in-Err-clause-next g c =
    let reads = c.read_response.ensures.reads in
    let grown = reads.grown ∙ ap (λ (l : List ℕ). l ++ reads.read) c.self.view_is in
    record { read = reads.read; consumed = reads.consumed; gets = gets_answer c.args.self.now reads.read _ _ c.in-Err.stop c.read_response.new.buffer _ grown c.from.ensures c.in-Err.ensures.err }
