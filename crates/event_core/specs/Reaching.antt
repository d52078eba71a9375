-- What is known of a query after so many steps.
use Rattle.std.specs.Prelude.{◌≡◌, ℕ, ◌≤◌, Bool, true, false, List, ◌++◌, All, Option, Some, None}
use Rattle.term_core.specs.Tree.{Tree}
use Rattle.event_core.specs.declared.request.Request.{Request}
use Rattle.event_core.specs.declared.stop.Stop.{Stop}
use Rattle.event_core.specs.declared.rest.Rest.TheVariants.{Prompting}
use Rattle.event_core.specs.declared.event.Event.{Event}
use Rattle.event_core.specs.declared.rest.Rest.{Rest}
use Rattle.event_core.specs.Parts.{Part, part_of}
use Rattle.event_core.specs.Readers.{style_with, tells}

-- these begin the list, and each further one comes after at least n steps
pub record IsBegun {A : Type 0} (n : ℕ) (begun all : List (ℕ × A)) : Type 0 where
  pub further : List (ℕ × A)
  pub are : all ≡ begun ++ further
  pub later : All (λ x. n ≤ x.0) further

-- these are all the events of a part, and it rests so
pub record IsWhole (p : Part) (es : List (ℕ × Event)) (r : Rest) : Type 0 where
  pub events : es ≡ p.events
  pub rest : r ≡ p.rest

-- What stops decide, where T tells the part for each list of further stops: at a rest they are all events whatever follows, and otherwise what follows is read on.
abbrev pub ReadsOn : List (ℕ × Event) → Option Rest → (names : Option (List (List ℕ))) → (T : List (ℕ × Stop) → Part) → Type 0
ReadsOn es None ns T = (c : ℕ) × (held : List Tree) × (rs : List Request) × ((qs : List (ℕ × Stop)) → T qs ≡ tells es (part_of (style_with ns) qs c held rs))
ReadsOn es (Some x) ns T = (rs : List Request) × ((qs : List (ℕ × Stop)) → T qs ≡ record { events = es; rest = x; unread = rs })

-- where a query rests whose stops end without a rest, unless it goes on behind them
abbrev pub rest_behind : Option Rest → (goes_on : Bool) → Option Rest
rest_behind (Some r) b = Some r
rest_behind None true = None
rest_behind None false = Some Prompting
