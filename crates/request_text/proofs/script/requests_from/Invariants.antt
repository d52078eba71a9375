use Rattle.std.proofs.Common.{◌≡◌, ◌+◌, drop, map}
use Rattle.request_text.specs.Spelled.{requests_in}
use Rattle.request_text.proofs.RequestLines.{put_before}
use Rattle.request_text.proofs.script.requests_from.Given as goal

abbrev pub invariant-loop-index : goal.invariant-loop-index
invariant-loop-index l =
    requests_in (l.first + 1) (drop l.first (map (λ x. x.now) l.lines)) ≡ put_before l.requests (requests_in (l.index + 1) (drop l.index (map (λ x. x.now) l.lines)))
