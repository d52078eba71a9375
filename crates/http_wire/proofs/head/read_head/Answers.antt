use Rattle.std.proofs.Common.{◌≡◌, ◌<◌, ℕ, List, length, refl, sym, ap, subst, arith, Err, length-take}
use Rattle.http_wire.specs.declared.message.Stop.TheVariants as stop
use Rattle.http_wire.specs.Heads.{FillStops}
use Rattle.http_wire.proofs.Reading.{reads_none, reads_on, rose_later}
use Rattle.http_wire.proofs.Fronts.{small_front, none_after, head_stops, head_stops_else}
use Rattle.http_wire.proofs.head.read_head.Goals as goal

pub looks-init : goal.looks-init
looks-init g c = reads_none g.S.Source.left g.S.Source.faults g.S.Source.reads _ _ _ refl

pub look-requires-clause-short : goal.look-requires-clause-short
look-requires-clause-short g c = omega (arith, length-take 16384 c.bytes.result.now, ap length c.front.ensures)

pub fill_head-requires : goal.fill_head-requires
fill_head-requires g c =
    subst (λ (l : List ℕ). length l < 16384) (small_front _ _ _ c.bytes.ensures c.front.ensures c.in-Open.ensures.0) c.in-Open.ensures.0

pub looks-smaller : goal.looks-smaller
looks-smaller g c =
    let few : length c.looks.buffer < 16384 = subst (λ (l : List ℕ). length l < 16384) (small_front _ _ _ c.bytes.ensures c.front.ensures c.in-Open.ensures.0) c.in-Open.ensures.0 in
    let more : length c.looks.buffer < length c.fill_head.new.self = c.in-Ok.ensures.more in
    omega (arith, few, more)

pub looks-preserved : goal.looks-preserved
looks-preserved g c = reads_on g.S.Source.left g.S.Source.faults g.S.Source.reads _ _ _ _ _ _ c.looks.invariant c.fill_head.ensures.reads

pub at_end-requires-clause-none : goal.at_end-requires-clause-none
at_end-requires-clause-none g c =
    subst g.H.Heads.none (sym c.bytes-in-End.ensures)
    (none_after g.H.Heads.none g.met.H.Heads.none_open _ _ _ (small_front _ _ _ c.bytes.ensures c.front.ensures c.in-Open.ensures.0) c.in-Open.ensures.1 c.in-Err.ensures.unended)

pub returns-in-End-clause-reads : goal.returns-in-End-clause-reads
returns-in-End-clause-reads g c = reads_on g.S.Source.left g.S.Source.faults g.S.Source.reads _ _ _ _ _ _ c.looks.invariant c.fill_head.ensures.reads

pub returns-in-End-clause-err : goal.returns-in-End-clause-err
returns-in-End-clause-err g c =
    head_stops g.H.Heads.none g.H.Heads.may g.H.Heads.refused _ _ _ _ c.bytes-in-End.ensures c.in-Err.ensures.few
    (subst (λ e. FillStops e (g.S.Source.left c.fill_head.new.src)) c.in-End.is c.in-Err.ensures.stops) c.at_end.ensures

pub returns-in_default-clause-reads : goal.returns-in_default-clause-reads
returns-in_default-clause-reads g c = reads_on g.S.Source.left g.S.Source.faults g.S.Source.reads _ _ _ _ _ _ c.looks.invariant c.fill_head.ensures.reads

pub returns-in_default-clause-err : goal.returns-in_default-clause-err
returns-in_default-clause-err g c =
    head_stops_else g.H.Heads.none g.H.Heads.may g.H.Heads.refused _ _ c.in-Err.stop c.in_default.not-End c.in-Err.ensures.stops
    (none_after g.H.Heads.none g.met.H.Heads.none_open _ _ _ (small_front _ _ _ c.bytes.ensures c.front.ensures c.in-Open.ensures.0) c.in-Open.ensures.1 c.in-Err.ensures.unended)

pub returns-in_default-clause-cause : goal.returns-in_default-clause-cause
returns-in_default-clause-cause g c =
    λ is. let s : c.in-Err.stop ≡ stop.ReadFault = cc in rose_later _ _ _ c.looks.invariant.counted (c.in-Err.ensures.cause (ap Err s))
