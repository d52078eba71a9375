use Rattle.std.proofs.Common.{◌≡◌, ◌∙◌, sym, true, false}
use Rattle.event_core.specs.Texts.{quoted}
use Rattle.event_core.specs.Fits.{fits}
use Rattle.event_core.proofs.Cutting.{goes_on, stays}
use Rattle.event_core.proofs.stops.add_mark.Goals as goal

pub returns-then-fits-clause-followed : goal.returns-then-fits-clause-followed
returns-then-fits-clause-followed c = λ more ms end.
    goes_on (fits quoted) c.args.stops.now.items c.add.new.stops.items c.args.step c.args.mark c.in_ok-told.told c.in_ok-fits.fits c.in_ok-told.ensures c.in_ok-fits.ensures.fits c.in_ok-fits.ensures.stops ms end
    c.if-fits.true (sym c.goes_on-more.ensures ∙ more)

pub returns-then-fits-clause-last : goal.returns-then-fits-clause-last
returns-then-fits-clause-last c = λ last ms end.
    stays (fits quoted) c.args.stops.now.items c.add.new.stops.items c.args.step c.args.mark c.in_ok-told.told c.in_ok-fits.fits c.in_ok-told.ensures c.in_ok-fits.ensures.fits c.in_ok-fits.ensures.stops ms end
    c.goes_on-more.result c.goes_on-more.ensures (λ y. last)

pub returns-else-fits-clause-last : goal.returns-else-fits-clause-last
returns-else-fits-clause-last c = λ last ms end.
    stays (fits quoted) c.args.stops.now.items c.add.new.stops.items c.args.step c.args.mark c.in_ok-told.told c.in_ok-fits.fits c.in_ok-told.ensures c.in_ok-fits.ensures.fits c.in_ok-fits.ensures.stops ms end
    c.goes_on-more.result c.goes_on-more.ensures (λ y. absurd (no (sym y ∙ last)))
  where
    no : true ≡ false → ⊥
    no p = cc
