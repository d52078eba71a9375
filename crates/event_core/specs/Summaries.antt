-- What the events of a query come to, whatever the size of its chunks.
use Rattle.std.specs.Prelude.{◌≡◌, ℕ, true, false, ◌⊎◌, List, [], ◌∷◌, ◌++◌}
use Rattle.term_core.specs.Tree.{Tree}
use Rattle.event_core.specs.declared.event.Event.{Event}
use Rattle.event_core.specs.declared.event.Event.TheVariants as event
use Rattle.event_core.specs.declared.rest.Rest.TheVariants.{Prompting, Over}
use Rattle.event_core.specs.Parts.{Part, replies}

-- how a query ended
pub data Outcome : Type 0 where
  -- it failed, or its last answers came with `more` false
  NoneLeft : Outcome
  Threw : Tree → Outcome
  OutOfSteps : Outcome
  -- it hasn't ended
  Rests : Outcome

-- all answers, outputs and prompts, each in order
pub record Summary : Type 0 where
  pub answers : List Tree
  pub outputs : List Tree
  pub prompts : List Tree
  pub outcome : Outcome

abbrev pub only : Outcome → Summary
only o = record { answers = []; outputs = []; prompts = []; outcome = o }

-- these answers first
abbrev pub answering : List Tree → Summary → Summary
answering ts s = record s { answers = ts ++ s.answers }

abbrev pub printing : Tree → Summary → Summary
printing t s = record s { outputs = t ∷ s.outputs }

abbrev pub asking : Tree → Summary → Summary
asking t s = record s { prompts = t ∷ s.prompts }

-- one event, then the others
abbrev pub told : Event → Summary → Summary
told (event.Success ts names true) s = answering ts s
told (event.Success ts names false) s = answering ts (only NoneLeft)
told event.Failure s = only NoneLeft
told (event.Error b) s = only (Threw b)
told event.Limit s = only OutOfSteps
told (event.Output t) s = printing t s
told (event.Prompt t) s = asking t s
told e s = s

unfoldable pub summary : List (ℕ × Event) → Summary
summary [] = only Rests
summary (e ∷ es) = told e.1 (summary es)

-- enough was asked: the query is over, or it rests at a prompt for which no reply is left
abbrev pub IsComplete : Part → Type 0
IsComplete p = (p.rest ≡ Over) ⊎ ((p.rest ≡ Prompting) × (replies p.unread ≡ []))
