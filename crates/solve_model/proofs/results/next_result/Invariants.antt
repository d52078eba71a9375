use Rattle.std.proofs.Common.{◌≡◌, List, length}
use Rattle.solve_model.specs.Run.{Item, offered}
use Rattle.solve_model.specs.Search.{place_of}
use Rattle.solve_model.proofs.results.next_result.Given as goal

abbrev pub invariant-loop-offer : goal.invariant-loop-offer
invariant-loop-offer l =
    (is : List Item) → offered l.fn.offers is (place_of l.place) ≡ offered l.offers is (place_of l.place)

abbrev pub decreases-loop-offer : goal.decreases-loop-offer
decreases-loop-offer l = length l.offers
