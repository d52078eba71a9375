-- What kind a request is of, which requests fit, and which chunk holds after them (Lager and Wielemaker, TPLP 2014, section 3).
use Rattle.std.specs.Prelude.{ℕ, Bool, true, false, Some}
use Rattle.event_core.specs.declared.event.Kind.{Kind}
use Rattle.event_core.specs.declared.event.Kind.TheVariants as kind
use Rattle.event_core.specs.declared.fit.Fit.{Fit}
use Rattle.event_core.specs.declared.fit.Fit.TheVariants.{GoesOn, Stops, Misfit}
use Rattle.event_core.specs.declared.request.Request.{Request}
use Rattle.event_core.specs.declared.request.Request.TheVariants as request
use Rattle.event_core.specs.declared.rest.Rest.{Rest}
use Rattle.event_core.specs.declared.rest.Rest.TheVariants.{More, Prompting}

abbrev pub kind_of : Request → Kind
kind_of (request.Ask a) = kind.Ask
kind_of (request.Next c) = kind.Next
kind_of request.Stop = kind.Stop
kind_of (request.Respond t) = kind.Respond

-- what a request does where a query rests: the query goes on, or is ended, or the request doesn't fit
abbrev pub fit : Rest → Request → Fit
fit More (request.Next c) = GoesOn
fit More request.Stop = Stops
fit Prompting (request.Respond t) = GoesOn
fit r s = Misfit

-- the chunk that holds after a request
abbrev pub chunk_after : Request → ℕ → ℕ
chunk_after (request.Next (Some d)) c = d
chunk_after r c = c

-- whether a request brings a reply
abbrev pub is_reply : Request → Bool
is_reply (request.Respond t) = true
is_reply r = false
