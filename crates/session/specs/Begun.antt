-- A pengine that was just made.
use Rattle.std.specs.Prelude.{◌≡◌, List, [], ◌∷◌, Option, Some, None}
use Rattle.event_core.specs.declared.request.Ask.{Ask}
use Rattle.event_core.specs.declared.request.Request.TheVariants as request
use Rattle.event_core.specs.declared.spec.Spec as wanted
use Rattle.event_core.specs.Standing.{spec_of}
use Rattle.session.specs.After.{Entry, Sent, after, made}
use Rattle.session.specs.Views.{View, IsSeen}

-- the first query, where there is one, is the first entry
abbrev pub first_of : Option Ask → List Entry
first_of None = []
first_of (Some a) = Sent (request.Ask a) ∷ []

pub record IsBegun (s : wanted.Spec) (v : View) : Type 0 where
  pub program : v.program ≡ s.program.value
  pub settings : v.settings ≡ s.settings
  pub seen : IsSeen v (after (spec_of s.program.value (s.settings)) (first_of s.ask) made)
