use Rattle.std.proofs.Common.{◌∙◌, ap, sym, ◌++◌, append-nil}
use Rattle.event_core.specs.Texts.{quoted}
use Rattle.event_core.specs.Fits.{fits}
use Rattle.event_core.specs.Stops.{at_end, cut_at}
use Rattle.event_core.proofs.Cutting.{ended}
use Rattle.event_core.proofs.stops.add_end.Goals as goal

pub returns-in_ok-add : goal.returns-in_ok-add
returns-in_ok-add c =
    c.in_ok-add.ensures.stops
    ∙ ended (fits quoted) c.in_ok-add.field-0 c.args.stops.now.items c.args.step c.in-Some.told c.in_ok-add.ensures.fits
    ∙ ap (λ s. c.args.stops.now.items ++ cut_at (fits quoted) (at_end c.args.step s)) (sym c.in-Some.is)

pub returns-in_default : goal.returns-in_default
unfolding cut_at
returns-in_default c =
    sym (append-nil c.args.stops.now.items)
    ∙ ap (λ s. c.args.stops.now.items ++ cut_at (fits quoted) (at_end c.args.step s)) (sym c.in_default.is)
