-- Worked rows, computed from the stops of a query.
use Rattle.std.specs.Prelude.{◌≡◌, refl, ℕ, Bool, true, false, List, [], ◌∷◌, map, Some, None, codes}
use Rattle.term_core.specs.Tree.{Tree, atom}
use Rattle.builtin_table.specs.Errors.{one_argument}
use Rattle.event_core.specs.declared.stop.Stop.{Stop}
use Rattle.event_core.specs.declared.stop.Stop.TheVariants.{Found, NoMore, Ball, Limit as Spent, Prompt as Asked, Output as Told}
use Rattle.event_core.specs.declared.event.Event.{Event}
use Rattle.event_core.specs.declared.event.Event.TheVariants.{Create, Success, Failure, Error, Protocol, Output, Prompt, Stop as Stopped, Abort, Destroy, Limit, Memory}
use Rattle.event_core.specs.declared.event.Kind.TheVariants as kind
use Rattle.event_core.specs.declared.request.Request.{Request}
use Rattle.event_core.specs.declared.request.Request.TheVariants.{Ask, Next, Stop as Stops, Respond}
use Rattle.event_core.specs.declared.rest.Rest.TheVariants.{More, Over}
use Rattle.event_core.specs.Stops.{cut_at, resource_error}
use Rattle.event_core.specs.Parts.{Part, Style, part_of, part_step}
use Rattle.event_core.specs.Full.{Spec, Act, Sends, Struck, ByAbort, ByDestroy, ByWant, full, full_from, reads}

abbrev a_of : List ℕ → Tree
a_of f = atom f

abbrev of_p : Tree → Tree
of_p x = one_argument (codes "p") x

abbrev pa : Tree
pa = of_p (atom (codes "a"))

abbrev pb : Tree
pb = of_p (atom (codes "b"))

abbrev pc : Tree
pc = of_p (atom (codes "c"))

-- p(a). p(b). p(c). asked p(X)
abbrev three : List (ℕ × Stop)
three = (2, Found pa true) ∷ (3, Found pb true) ∷ (4, Found pc false) ∷ []

unfoldable opened : Unit {0}
unfolding part_of part_step cut_at full_from reads
opened = tt

-- each text has n bytes
abbrev plain : ℕ → Style
plain n = record { size = λ t. n; names = None }

abbrev read : List (ℕ × Stop) → ℕ → List Request → Part
read ps c rs = part_of (plain 1) ps c [] rs

abbrev over : List (ℕ × Event) → Part
over es = record { events = es; rest = Over; unread = [] }

by_one : read three 1 (Next None ∷ Next None ∷ []) ≡ over ((2, Success (pa ∷ []) None true) ∷ (3, Success (pb ∷ []) None true) ∷ (4, Success (pc ∷ []) None false) ∷ [])
unfolding opened
by_one = refl

-- before the second `next`
rests_between : read three 1 (Next None ∷ []) ≡ record { events = (2, Success (pa ∷ []) None true) ∷ (3, Success (pb ∷ []) None true) ∷ []; rest = More; unread = [] }
unfolding opened
rests_between = refl

by_two : read three 2 (Next None ∷ []) ≡ over ((3, Success (pa ∷ pb ∷ []) None true) ∷ (4, Success (pc ∷ []) None false) ∷ [])
unfolding opened
by_two = refl

-- a chunk that is full of text
by_bytes : part_of (plain 600000) three 5 [] (Next None ∷ []) ≡ over ((3, Success (pa ∷ pb ∷ []) None true) ∷ (4, Success (pc ∷ []) None false) ∷ [])
unfolding opened
by_bytes = refl

-- the names stand with each chunk
named : part_of (record { size = λ t. 1; names = Some (codes "X" ∷ []) }) three 2 [] (Next None ∷ [])
    ≡ over ((3, Success (pa ∷ pb ∷ []) (Some (codes "X" ∷ [])) true) ∷ (4, Success (pc ∷ []) (Some (codes "X" ∷ [])) false) ∷ [])
unfolding opened
named = refl

fails : read ((1, NoMore) ∷ []) 1 [] ≡ over ((1, Failure) ∷ [])
unfolding opened
fails = refl

-- q(1). q(2). q(_) :- throw(oops). asked q(X) by five: the ball comes late
abbrev oops : Tree
oops = atom (codes "oops")

late_ball : read ((2, Found pa true) ∷ (3, Found pb true) ∷ (4, Ball oops) ∷ []) 5 (Next None ∷ []) ≡ over ((4, Success (pa ∷ pb ∷ []) None true) ∷ (4, Error oops) ∷ [])
unfolding opened
late_ball = refl

out_of_steps : read ((1000, Spent) ∷ []) 1 [] ≡ over ((1000, Limit) ∷ [])
unfolding opened
out_of_steps = refl

-- an output leaves the chunk open, a prompt closes it
outputs : read ((1, Found pa true) ∷ (2, Told oops) ∷ (3, Asked oops) ∷ (4, Found pb false) ∷ []) 5 (Next None ∷ Respond pc ∷ []) ≡ over ((2, Output oops) ∷ (3, Success (pa ∷ []) None true) ∷ (3, Prompt oops) ∷ (4, Success (pb ∷ []) None false) ∷ [])
unfolding opened
outputs = refl

-- nothing fits
cuts : cut_at (λ t. false) three ≡ (2, Ball resource_error) ∷ []
unfolding opened
cuts = refl

-- a pengine each of whose queries has these stops
abbrev over_stops : Bool → List (ℕ × Stop) → Spec
over_stops d ps = record { destroys = d; refusal = λ a. None; part = λ a rs. read ps 1 rs }

abbrev ask : Request
ask = Ask (record { goal = pa; template = pa; names = []; chunk = 0; bytes = 0 })

abbrev sends : List Request → List Act
sends rs = map Sends rs

-- a request that doesn't fit leaves the state
misfits : full (over_stops false ((1, Found pa false) ∷ [])) (sends (Next None ∷ ask ∷ [])) ≡ Create ∷ Protocol kind.Next ∷ Success (pa ∷ []) None false ∷ []
unfolding opened
misfits = refl

misfits_in_query : full (over_stops true three) (sends (ask ∷ ask ∷ Respond pa ∷ Next None ∷ [])) ≡ Create ∷ Success (pa ∷ []) None true ∷ Protocol kind.Ask ∷ Protocol kind.Respond ∷ Success (pb ∷ []) None true ∷ []
unfolding opened
misfits_in_query = refl

stops : full (over_stops true three) (sends (ask ∷ Stops ∷ Next None ∷ [])) ≡ Create ∷ Success (pa ∷ []) None true ∷ Stopped ∷ Destroy ∷ []
unfolding opened
stops = refl

-- an abort drops the requests before it, and not those after it
aborts : full (over_stops false three) (Sends ask ∷ Sends (Next None) ∷ Struck ByAbort 1 2 1 ∷ Sends (Next None) ∷ []) ≡ Create ∷ Success (pa ∷ []) None true ∷ Abort ∷ Protocol kind.Next ∷ []
unfolding opened
aborts = refl

-- want of memory between two answers, and a destroy
wants : full (over_stops false three) (Sends ask ∷ Sends (Next None) ∷ Struck ByWant 2 2 1 ∷ Struck ByDestroy 2 2 1 ∷ []) ≡ Create ∷ Success (pa ∷ []) None true ∷ Memory ∷ Destroy ∷ []
unfolding opened
wants = refl
