-- The stops of a query: what its trace has to tell, in order (Lager and Wielemaker, TPLP 2014, section 3).
use Rattle.std.specs.Prelude.{ℕ, Bool, true, false, List, [], ◌∷◌, Option, Some, None, codes}
use Rattle.term_core.specs.Tree.{Tree}
use Rattle.term_core.specs.Variables.{numbered}
use Rattle.solve_model.specs.declared.answers.Trace.{Trace}
use Rattle.solve_model.specs.declared.answers.TraceMark.{TraceMark}
use Rattle.solve_model.specs.declared.answers.TraceMark.TheVariants as shown
use Rattle.solve_model.specs.declared.answers.TraceEnd.{TraceEnd}
use Rattle.solve_model.specs.declared.answers.TraceEnd.TheVariants as ended
use Rattle.builtin_table.specs.Errors as errors
use Rattle.solve_model.specs.Run.{World, query}
use Rattle.solve_model.specs.Trace.{traced}
use Rattle.event_core.specs.declared.stop.Stop.{Stop}
use Rattle.event_core.specs.declared.stop.Stop.TheVariants as stop

-- In each stop the variables are numbered anew from 0.
abbrev pub mark_stop : TraceMark → Stop
mark_stop (shown.Answer t o) = stop.Found (numbered t) o
mark_stop (shown.Output t) = stop.Output (numbered t)
mark_stop (shown.Prompt t) = stop.Prompt (numbered t)

-- the stop at the end; a query that waits for a reply has none
abbrev pub end_stop : TraceEnd → Option Stop
end_stop ended.Failed = Some stop.NoMore
end_stop (ended.Thrown b) = Some (stop.Ball (numbered b))
end_stop ended.Waits = None
end_stop ended.Spent = Some stop.Limit
end_stop (ended.Outside i) = Some (stop.Outside i)

-- whether the query ended because its steps were used up
abbrev pub is_spent : TraceEnd → Bool
is_spent ended.Failed = false
is_spent (ended.Thrown b) = false
is_spent ended.Waits = false
is_spent ended.Spent = true
is_spent (ended.Outside i) = false

-- the last stop, at the step where the query ended
abbrev pub at_end : ℕ → Option Stop → List (ℕ × Stop)
at_end k None = []
at_end k (Some s) = (k, s) ∷ []

-- After an answer with no alternative left nothing follows.
abbrev pub is_followed : TraceMark → Bool
is_followed (shown.Answer t o) = o
is_followed m = true

-- the stops of marks, and behind them that of the end
unfoldable pub stops_of : List (ℕ × TraceMark) → List (ℕ × Stop) → List (ℕ × Stop)
stops_of [] end = end
stops_of (m ∷ ms) end = (m.0, mark_stop m.1) ∷ elim (is_followed m.1) [ true ↦ stops_of ms end | false ↦ [] ]

abbrev pub trace_stops : Trace → List (ℕ × Stop)
trace_stops t = stops_of t.marks (at_end t.steps (end_stop t.end))

-- the ball in place of a term that doesn't fit an event
abbrev pub resource_error : Tree
resource_error = errors.resource_error (codes "text")

-- the term that a stop tells
abbrev pub term_of : Stop → Option Tree
term_of (stop.Found t o) = Some t
term_of (stop.Output t) = Some t
term_of (stop.Prompt t) = Some t
term_of (stop.Ball t) = Some t
term_of stop.NoMore = None
term_of stop.Limit = None
term_of (stop.Outside i) = None

module _ (fits : Tree → Bool) where
  abbrev pub stop_fits : Stop → Bool
  stop_fits s = elim (term_of s) [ None ↦ true | Some t ↦ fits t ]

  -- cut at the first stop whose term doesn't fit an event
  unfoldable pub cut_at : List (ℕ × Stop) → List (ℕ × Stop)
  cut_at [] = []
  cut_at (p ∷ ps) = elim (stop_fits p.1) [ true ↦ p ∷ cut_at ps | false ↦ (p.0, stop.Ball resource_error) ∷ [] ]

  -- the stops of a query
  abbrev pub stops : World → (goal template : Tree) → List (ℕ × Stop)
  stops w g t = cut_at (trace_stops (traced t (query w g t)))
