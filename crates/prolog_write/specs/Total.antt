-- The whole text, from what has been written and what is still owed.
use Rattle.std.specs.Prelude.{ℕ, Option, Some, None, List, [], ◌∷◌}
use Rattle.term_core.specs.Tree.{Tree}
use Rattle.prolog_write.specs.declared.task.Want.{Want}
use Rattle.prolog_write.specs.State.{State, whole}
use Rattle.prolog_write.specs.Duties.{take_term, Owing, pushed, owed}

-- where these trees come
abbrev pub total : State → Owing → List Tree → List ℕ
total s o us = whole s (owed o.mode o.duties us)

-- with the term that is wanted first
abbrev pub awaiting : Option Want → Owing → Owing
awaiting None o = o
awaiting (Some w) o = pushed o (take_term w ∷ [])
