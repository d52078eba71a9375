-- Characters joined one after the other.
use Rattle.std.proofs.Common.{ℕ, List, ◌++◌, Result, Ok, Err}
use Rattle.term_core.specs.Tree.{Tree}

-- these characters, and then those
abbrev pub after : List ℕ → Result (List ℕ) Tree → Result (List ℕ) Tree
after cs (Ok ds) = Ok (cs ++ ds)
after cs (Err t) = Err t
