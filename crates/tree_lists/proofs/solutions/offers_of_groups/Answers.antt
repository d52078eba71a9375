use Rattle.std.proofs.Common.{List, [], ◌∷◌, map, reverse, ap, arith, ◌∙◌}
use Rattle.std.proofs.lemmas.List.{map-append}
use Rattle.builtin_table.specs.Solutions.{Keyed}
use Rattle.tree_results.specs.Outcomes.{result_of}
use Rattle.tree_results.proofs.Slices.{nothing_kept}
use Rattle.tree_lists.specs.Groups.{arranged, placed_group}
use Rattle.tree_lists.proofs.Grouping.{of_groups, reversed_back, taken_all, taken_more}
use Rattle.tree_lists.proofs.solutions.offers_of_groups.Goals as goal

pub loop-group-preserved : goal.loop-group-preserved
loop-group-preserved c =
    taken_more (λ (g : List Keyed). placed_group (arranged c.args.arrangement) (reverse g)) c.loop-group.groups.items c.pop.new.self.items c.in-Some.group _ (map result_of c.loop-group.offers.items) _ _ c.in-Some.ensures.items c.in_ok-group_offer.ensures
    (ap (map result_of) c.in_ok-push.ensures.items ∙ map-append result_of c.loop-group.offers.items (c.in_ok-group_offer.field-0 ∷ [])) c.loop-group.invariant

pub returns : goal.returns
returns c =
    let f = placed_group (arranged c.args.arrangement) in
    reversed_back result_of c.loop-group.offers.items _ c.reverse.ensures.items
    ∙ taken_all (λ (g : List Keyed). f (reverse g)) c.loop-group.groups.items (map result_of c.loop-group.offers.items) _ (nothing_kept c.loop-group.groups.items _ c.in_default.ensures.cases.0 (omega (arith, c.loop-group.groups.ok.0))) c.loop-group.invariant
    ∙ of_groups f c.args.groups.items
