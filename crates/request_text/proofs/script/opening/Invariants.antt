use Rattle.std.proofs.Common.{◌≡◌, ◌+◌, drop, map}
use Rattle.request_text.specs.Spelled.{session_in}
use Rattle.request_text.proofs.script.opening.Given as goal

abbrev pub invariant-loop-index : goal.invariant-loop-index
invariant-loop-index l =
    session_in l.app 1 (map (λ x. x.now) l.lines) ≡ session_in l.app (l.index + 1) (drop l.index (map (λ x. x.now) l.lines))
