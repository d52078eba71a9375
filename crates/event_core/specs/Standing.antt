-- What a pengine over a program is.
use Rattle.std.specs.Prelude.{ℕ, ◌==◌, if◌then◌else◌, List, []}
use Rattle.program.specs.Loaded.{Loaded}
use Rattle.solve_model.specs.Trace.{world_of}
use Rattle.event_core.specs.declared.request.Ask.{Ask}
use Rattle.event_core.specs.declared.request.Request.{Request}
use Rattle.event_core.specs.declared.stop.Stop.{Stop}
use Rattle.event_core.specs.declared.settings.Settings.{Settings}
use Rattle.event_core.specs.Texts.{quoted}
use Rattle.event_core.specs.Fits.{fits}
use Rattle.event_core.specs.Names.{answer_term, names_told}
use Rattle.event_core.specs.Stops.{stops}
use Rattle.event_core.specs.Parts.{Style, part, replies}
use Rattle.event_core.specs.Readers.{style_with}
use Rattle.event_core.specs.Refusals.{refusal_of}
use Rattle.event_core.specs.Full.{Spec}

-- the chunk of a query
abbrev pub chunk_of : Settings → Ask → ℕ
chunk_of s a = if a.chunk == 0 then s.chunk else a.chunk

-- how its answers are told
abbrev pub style_of : Settings → Ask → Style
style_of s a = style_with (names_told s.names a)

-- the stops of a query, with the replies that its requests bring
abbrev pub stops_for : Loaded → Settings → Ask → List Request → List (ℕ × Stop)
stops_for l s a rs = stops (fits quoted) (world_of l (replies rs) s.limit) a.goal (answer_term s.names a)

-- as far as its events go
abbrev pub spec_of : Loaded → Settings → Spec
spec_of l s = record {
  destroys = s.destroys;
  refusal = refusal_of l;
  part = λ a rs. part (world_of l [] s.limit) (fits quoted) (style_of s a) a.goal (answer_term s.names a) (chunk_of s a) rs;
}
