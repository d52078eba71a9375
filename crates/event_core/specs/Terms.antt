-- The terms that events tell.
use Rattle.std.specs.Prelude.{◌≡◌, List, [], ◌∷◌}
use Rattle.term_core.specs.Tree.{Tree}
use Rattle.term_core.specs.Variables.{numbered}
use Rattle.program.specs.Loaded.{Loaded}
use Rattle.event_core.specs.declared.event.Event.{Event}
use Rattle.event_core.specs.declared.event.Event.TheVariants as event
use Rattle.event_core.specs.declared.settings.Settings.{Settings}
use Rattle.event_core.specs.Full.{Act, full}
use Rattle.event_core.specs.Standing.{spec_of}

module _ (P : Tree → Type 0) where
  unfoldable pub AllTerms : List Tree → Type 0
  AllTerms [] = Unit {0}
  AllTerms (t ∷ ts) = P t × AllTerms ts

  -- of its terms
  abbrev pub HoldsOf : Event → Type 0
  HoldsOf (event.Success ts names more) = AllTerms ts
  HoldsOf (event.Error b) = P b
  HoldsOf (event.Output t) = P t
  HoldsOf (event.Prompt t) = P t
  HoldsOf e = Unit {0}

  unfoldable pub AllEvents : List Event → Type 0
  AllEvents [] = Unit {0}
  AllEvents (e ∷ es) = HoldsOf e × AllEvents es

-- its variables are numbered from 0 by first occurrence
abbrev pub IsNumbered : Tree → Type 0
IsNumbered t = numbered t ≡ t

-- The terms of all events of a pengine are numbered, whatever is sent and strikes.
abbrev pub TermsAreNumbered : Type 0
TermsAreNumbered = (l : Loaded) (s : Settings) (acts : List Act) → AllEvents IsNumbered (full (spec_of l s) acts)
