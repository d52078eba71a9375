use Rattle.std.proofs.Common.{◌∙◌, ◌++◌, ℕ, List, ap}
use Rattle.http_wire.specs.Requests.{Reading}
use Rattle.http_wire.specs.Reads.{there}
use Rattle.http_wire.proofs.Wholes.{gets_stop}
use Rattle.http_wire.proofs.requests.Requests.next.Goals as goal

pub returns-then-self-clause-reads : goal.returns-then-self-clause-reads
returns-then-self-clause-reads g c = there c.args.src.now

pub returns-in-Err-clause-next : goal.returns-in-Err-clause-next
returns-in-Err-clause-next g c =
    let reads = c.read_request.ensures.reads in
    let held = ap (λ (r : Reading). r.held) c.self.view_is in
    let grown = reads.grown ∙ ap (λ (l : List ℕ). l ++ reads.read) held in
    λ _. record { read = reads.read; consumed = reads.consumed; gets = gets_stop c.args.self.now.held reads.read _ _ c.in-Err.stop c.read_request.new.buffer _ grown c.from.ensures c.in-Err.ensures.err }
