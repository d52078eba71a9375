-- Laws of the events of a query.
use Rattle.std.specs.Prelude.{◌≡◌, ◌≢◌, ℕ, ◌≤◌, Bool, true, false, List, [], ◌∷◌, ◌++◌, None, AllPairs}
use Rattle.term_core.specs.declared.pi.Pi.{Pi}
use Rattle.term_core.specs.Tree.{Tree}
use Rattle.program.specs.Loaded.{Loaded}
use Rattle.solve_model.specs.Run.{World, Outside, query}
use Rattle.solve_model.specs.Trace.{world_of}
use Rattle.solve_model.specs.Laws.{widened}
use Rattle.sandbox_walk.specs.Keeping.{KeepsSandbox}
use Rattle.event_core.specs.declared.stop.Stop.{Stop}
use Rattle.event_core.specs.declared.stop.Stop.TheVariants as stop
use Rattle.event_core.specs.declared.request.Ask.{Ask}
use Rattle.event_core.specs.declared.request.Request.{Request}
use Rattle.event_core.specs.declared.settings.Settings.{Settings}
use Rattle.event_core.specs.Stops.{stops}
use Rattle.event_core.specs.Names.{answer_term}
use Rattle.event_core.specs.Full.{Spec, Act, Reading, full_from}
use Rattle.event_core.specs.Parts.{Style, part_of, part, replies}
use Rattle.event_core.specs.Refusals.{refusal_of}
use Rattle.event_core.specs.Summaries.{summary, IsComplete}

-- xs begins ys
abbrev pub Begins : {A : Type 0} → List A → List A → Type 0
Begins {A} xs ys = (more : List A) × (ys ≡ xs ++ more)

-- Further requests and further stops only add: the events that were given stay.
abbrev pub FurtherOnlyAdds : Type 0
FurtherOnlyAdds =
    (style : Style) (ps qs : List (ℕ × Stop)) (c : ℕ) (held : List Tree) (rs more : List Request) →
    Begins (part_of style ps c held rs).events (part_of style (ps ++ qs) c held (rs ++ more)).events

-- Further requests, and the replies that they bring, only add to the events of a query.
abbrev pub RequestsOnlyAdd : Type 0
RequestsOnlyAdd =
    (w : World) (fits : Tree → Bool) (style : Style) (g t : Tree) (c : ℕ) (rs more : List Request) →
    Begins (part w fits style g t c rs).events (part w fits style g t c (rs ++ more)).events

abbrev pub is_limit : Stop → Bool
is_limit stop.Limit = true
is_limit s = false

-- the stops before the limit of steps
abbrev pub before_limit : List (ℕ × Stop) → List (ℕ × Stop)
before_limit [] = []
before_limit (p ∷ ps) = elim (is_limit p.1) [ true ↦ [] | false ↦ p ∷ before_limit ps ]

-- With more steps and more replies a query has these stops too, but for the limit itself.
abbrev pub StepsOnlyAdd : Type 0
StepsOnlyAdd =
    (w : World) (fits : Tree → Bool) (n : ℕ) (ts : List Tree) (g t : Tree) →
    Begins (before_limit (stops fits w g t)) (stops fits (widened n ts w) g t)

-- no call of the query reaches outside
abbrev pub StaysInside : World → (goal template : Tree) → Type 0
StaysInside w g t = (i : Pi) → (query w g t).end ≢ Outside i

-- The steps of a query's events never fall from the first to the last.
abbrev pub StepsNeverFall : Type 0
StepsNeverFall =
    (w : World) (fits : Tree → Bool) (style : Style) (g t : Tree) (c : ℕ) (rs : List Request) → AllPairs (λ x y. x.0 ≤ y.0) (part w fits style g t c rs).events

-- Whatever is sent and strikes later, the events that were emitted stay.
abbrev pub EventsOnlyGrow : Type 0
EventsOnlyGrow = (spec : Spec) (acts : List Act) (rs : List Request) (c : ℕ) (x : Reading) → Begins x.emitted (full_from spec acts rs c x)

-- the world with the replies that these requests bring
abbrev pub replying : World → List Request → World
replying w rs = record w { replies = replies rs }

-- The size of the chunks doesn't matter: where enough was asked, with the same replies, a query gives the same answers, outputs and prompts, and ends or rests in the same way.
abbrev pub ChunksDontMatter : Type 0
ChunksDontMatter =
    (w : World) (fits : Tree → Bool) (style : Style) (g t : Tree) (c d : ℕ) (rs qs : List Request) →
    replies rs ≡ replies qs → StaysInside (replying w rs) g t →
    IsComplete (part w fits style g t c rs) → IsComplete (part w fits style g t d qs) →
    summary (part w fits style g t c rs).events ≡ summary (part w fits style g t d qs).events

-- For each size of the chunks and all replies there are requests that ask enough.
abbrev pub EnoughCanBeAsked : Type 0
EnoughCanBeAsked =
    (w : World) (fits : Tree → Bool) (style : Style) (g t : Tree) (c : ℕ) → StaysInside w g t →
    (rs : List Request) × (replies rs ≡ w.replies) × IsComplete (part w fits style g t c rs)

-- Over a program that keeps to the sandbox no goal that may be asked reaches outside, for each limit of steps and whatever is replied.
abbrev pub AskedGoalsStayInside : Type 0
AskedGoalsStayInside =
    (l : Loaded) (s : Settings) (a : Ask) → KeepsSandbox l → refusal_of l a ≡ None → (rs : List Request) → StaysInside (replying (world_of l [] s.limit) rs) a.goal (answer_term s.names a)
