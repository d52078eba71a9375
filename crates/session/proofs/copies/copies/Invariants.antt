use Rattle.std.proofs.Common.{◌≡◌, ◌++◌}
use Rattle.session.proofs.copies.copies.Given as goal

-- the copies and what is left are the requests
abbrev pub invariant-loop-request : goal.invariant-loop-request
invariant-loop-request l = l.all.items ++ l.request-iterator ≡ l.requests
