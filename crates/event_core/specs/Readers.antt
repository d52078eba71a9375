-- A reader of stops: where it stands, what a stop or a request does to it, and what it is to give from there on.
use Rattle.std.specs.Prelude.{◌≡◌, ℕ, Bool, true, false, List, [], ◌∷◌, ◌++◌, Option, Some, None}
use Rattle.term_core.specs.Tree.{Tree}
use Rattle.event_core.specs.declared.stop.Stop.{Stop}
use Rattle.event_core.specs.declared.stop.Stop.TheVariants as stop
use Rattle.event_core.specs.declared.event.Event.{Event}
use Rattle.event_core.specs.declared.event.Event.TheVariants.{Success, Failure, Error, Output, Prompt, Limit}
use Rattle.event_core.specs.declared.reader.Stand.{Stand}
use Rattle.event_core.specs.declared.reader.Stand.TheVariants.{Reading, Paused, Waiting, Done}
use Rattle.event_core.specs.declared.reader.Moved.{Moved}
use Rattle.event_core.specs.declared.reader.Reader.{Reader}
use Rattle.event_core.specs.declared.fit.Fit.{Fit}
use Rattle.event_core.specs.declared.fit.Fit.TheVariants.{GoesOn}
use Rattle.event_core.specs.declared.request.Request.{Request}
use Rattle.event_core.specs.declared.rest.Rest.{Rest}
use Rattle.event_core.specs.declared.rest.Rest.TheVariants.{More, Prompting, Over}
use Rattle.event_core.specs.Requests.{fit}
use Rattle.event_core.specs.Texts.{quoted}
use Rattle.event_core.specs.Fits.{text_size}
use Rattle.event_core.specs.Parts.{Part, Style, rests, at_next, at_respond, is_full, part_of}

-- ---- one stop, one request

abbrev pub moves : Stand → Option (ℕ × Event) → Moved
moves s e = record { stand = s; event = e }

-- an answer that closes no chunk joins the open one
abbrev pub answered : Style → (c k : ℕ) → (held : List Tree) → (more : Bool) → Moved
answered style c k ts false = moves Done (Some (k, Success ts style.names false))
answered style c k ts true = elim (is_full style.size c ts) [ true ↦ moves (Paused None) (Some (k, Success ts style.names true)) | false ↦ moves (Reading ts) None ]

-- A late stop closes an open chunk, and waits for the next `next`.
abbrev pub late : Style → ℕ → Stop → (held : List Tree) → Moved → Moved
late style k s [] m = m
late style k s (t ∷ ts) m = moves (Paused (Some (k, s))) (Some (k, Success (t ∷ ts) style.names true))

-- there is no further answer
abbrev pub failed : Style → ℕ → (held : List Tree) → Moved
failed style k [] = moves Done (Some (k, Failure))
failed style k (t ∷ ts) = moves Done (Some (k, Success (t ∷ ts) style.names false))

-- what a stop after k steps does to an open chunk, where c answers close it
abbrev pub after_stop : Style → (c k : ℕ) → Stop → (held : List Tree) → Moved
after_stop style c k (stop.Found t more) held = answered style c k (held ++ t ∷ []) more
after_stop style c k (stop.Output t) held = moves (Reading held) (Some (k, Output t))
after_stop style c k (stop.Prompt t) held = late style k (stop.Prompt t) held (moves Waiting (Some (k, Prompt t)))
after_stop style c k stop.NoMore held = failed style k held
after_stop style c k (stop.Ball b) held = late style k (stop.Ball b) held (moves Done (Some (k, Error b)))
after_stop style c k stop.Limit held = late style k stop.Limit held (moves Done (Some (k, Limit)))
after_stop style c k (stop.Outside i) held = moves Done None

-- what a request that fits does to a reader that rests: it reads on, first the stop that waits
abbrev pub after_fitting : Style → (c : ℕ) → Stand → Moved
after_fitting style c (Paused (Some p)) = after_stop style c p.0 p.1 []
after_fitting style c s = moves (Reading []) None

-- ---- where it rests

abbrev pub rest_of : Stand → Option Rest
rest_of (Reading ts) = None
rest_of (Paused p) = Some More
rest_of Waiting = Some Prompting
rest_of Done = Some Over

abbrev pub is_going_on : Fit → Bool
is_going_on GoesOn = true
is_going_on f = false

-- whether the reader rests and the request fits so that it reads on
abbrev pub is_fitting : Stand → Request → Bool
is_fitting s r = elim (rest_of s) [ None ↦ false | Some x ↦ is_going_on (fit x r) ]

-- of the first of these requests
abbrev pub resumes : Stand → List Request → Bool
resumes s [] = false
resumes s (r ∷ rs) = is_fitting s r

-- ---- what it is to give

-- The part from here on: its events for these stops to come and these requests, and where it rests; c is the chunk.
abbrev pub ahead_at : Style → Stand → (c : ℕ) → List (ℕ × Stop) → List Request → Part
ahead_at style (Reading held) c ps rs = part_of style ps c held rs
ahead_at style (Paused None) c ps rs = at_next rs c (λ d qs. part_of style ps d [] qs)
ahead_at style (Paused (Some p)) c ps rs = at_next rs c (λ d qs. part_of style (p ∷ ps) d [] qs)
ahead_at style Waiting c ps rs = at_respond rs (λ qs. part_of style ps c [] qs)
ahead_at style Done c ps rs = rests Over rs

-- texts are quoted
abbrev pub style_with : Option (List (List ℕ)) → Style
style_with ns = record { size = text_size quoted; names = ns }

abbrev pub ahead : Reader → List (ℕ × Stop) → List Request → Part
ahead r ps rs = ahead_at (style_with r.names) r.stand r.chunk ps rs

-- these events first
abbrev pub tells : List (ℕ × Event) → Part → Part
tells es p = record p { events = es ++ p.events }

abbrev pub listed : Option (ℕ × Event) → List (ℕ × Event)
listed None = []
listed (Some e) = e ∷ []

-- After these stops and these requests the reader has given these events, in a query with chunk c: they are those that the stops decide. For whatever stops and requests come after, the events of the part are these and then those that the reader is to give.
pub record HasGiven (names : Option (List (List ℕ))) (c : ℕ) (ps : List (ℕ × Stop)) (rs : List Request) (es : List (ℕ × Event)) (r : Reader) : Type 0 where
  pub same_names : r.names ≡ names
  pub part : (qs : List (ℕ × Stop)) (more : List Request) → part_of (style_with names) (ps ++ qs) c [] (rs ++ more) ≡ tells es (ahead r qs more)

-- where it rests if no stop is left: a run whose stops end without an end waits for a reply
abbrev pub rest_at_end : Stand → Rest
rest_at_end (Reading ts) = Prompting
rest_at_end (Paused p) = More
rest_at_end Waiting = Prompting
rest_at_end Done = Over

-- Where these are all stops, the reader has given all events of the part, and rests where the part rests.
abbrev pub RestsAsThePart : Type 0
RestsAsThePart =
    (names : Option (List (List ℕ))) (c : ℕ) (ps : List (ℕ × Stop)) (rs : List Request) (es : List (ℕ × Event)) (r : Reader) →
    HasGiven names c ps rs es r → part_of (style_with names) ps c [] rs ≡ record { events = es; rest = rest_at_end r.stand; unread = [] }
