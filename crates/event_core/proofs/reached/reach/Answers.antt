use Rattle.std.proofs.Common.{◌∙◌, ap, sym, [], length, min}
use Rattle.solve_model.specs.Trace.{world_of}
use Rattle.event_core.specs.Texts.{quoted}
use Rattle.event_core.specs.Fits.{fits}
use Rattle.event_core.specs.Names.{answer_term, names_told}
use Rattle.event_core.specs.Endings.{HasEnd}
use Rattle.event_core.specs.Laws.{replying}
use Rattle.event_core.specs.Parts.{part, replies}
use Rattle.event_core.specs.declared.reader.Stand.TheVariants.{Reading}
use Rattle.event_core.specs.Standing.{chunk_of, stops_for}
use Rattle.event_core.proofs.Ending.{query_ends}
use Rattle.event_core.proofs.Covering.{Read, read_from_start, reached, left_to_come, in_time}
use Rattle.event_core.proofs.reached.reach.Goals as goal

-- the events and the rest that the stops decide
read : (c : goal.After-rest_behind-rest) →
    Read (names_told c.args.settings.names c.args.ask.now) c.in_ok-stops.field-0.stops.items (chunk_of c.args.settings c.args.ask.now) c.args.requests.now c.in_ok-events.field-0.events c.in_ok-events.field-0.rest
read c =
    read_from_start c.new-reader.result c.in_ok-stops.field-0.stops.items c.args.requests.now c.in_ok-events.field-0.events c.in_ok-events.field-0.rest c.in_ok-names.names (names_told c.args.settings.names c.args.ask.now)
    (chunk_of c.args.settings c.args.ask.now) (c.new-reader.ensures.stands ∙ ap (λ k. record { chunk = k; names = c.in_ok-names.names; stand = Reading [] }) c.first_chunk.ensures) c.in_ok-names.ensures c.in_ok-events.ensures

pub returns-clause-events : goal.returns-clause-events
unfolding part
returns-clause-events c =
    rw c.rest_behind-rest.ensures
    (reached (names_told c.args.settings.names c.args.ask.now) c.in_ok-stops.field-0.stops.items (chunk_of c.args.settings c.args.ask.now) c.args.requests.now
    (stops_for c.args.program.now c.args.settings c.args.ask.now c.args.requests.now) c.in_ok-stops.field-0.goes_on c.args.steps c.in_ok-stops.ensures.whole c.in_ok-stops.ensures.begun
    c.in_ok-events.field-0.events c.in_ok-events.field-0.rest (read c) c.args.settings.limit c.in_ok-stops.ensures.fewer)

pub returns-clause-left : goal.returns-clause-left
unfolding part
returns-clause-left c = λ none inside.
    let ends : HasEnd ⊥ (stops_for c.args.program.now c.args.settings c.args.ask.now c.args.requests.now) (length (replies c.args.requests.now)) =
    query_ends ⊥ (fits quoted) (replying (world_of c.args.program.now [] c.args.settings.limit) c.args.requests.now) c.args.ask.now.goal (answer_term c.args.settings.names c.args.ask.now) inside in
    left_to_come (names_told c.args.settings.names c.args.ask.now) c.in_ok-stops.field-0.stops.items (chunk_of c.args.settings c.args.ask.now) c.args.requests.now
    (stops_for c.args.program.now c.args.settings c.args.ask.now c.args.requests.now) c.in_ok-stops.field-0.goes_on c.args.steps c.in_ok-stops.ensures.whole c.in_ok-stops.ensures.begun
    c.in_ok-events.field-0.events c.in_ok-events.field-0.rest (read c) ends (sym c.rest_behind-rest.ensures ∙ none)

pub returns-clause-in_time : goal.returns-clause-in_time
returns-clause-in_time c =
    in_time (names_told c.args.settings.names c.args.ask.now) c.in_ok-stops.field-0.stops.items (chunk_of c.args.settings c.args.ask.now) c.args.requests.now
    c.in_ok-events.field-0.events c.in_ok-events.field-0.rest (read c) (min c.args.steps c.args.settings.limit) c.in_ok-stops.ensures.in_time
