use Rattle.std.proofs.Common.{◌≡◌, ℕ, true, List, map, length, ap, sym, subst, ◌∙◌}
use Rattle.std.specs.List.{All, list_all}
use Rattle.std.proofs.lemmas.List.{length-map}
use Rattle.term_core.specs.Tree.{Tree}
use Rattle.builtin_table.specs.Primitives.{primitive}
use Rattle.tree_results.specs.Placed.{has_places, results_for}
use Rattle.prims_tree.specs.Outcomes.{placed_outcome_of, OutcomeHasPlaces}
use Rattle.store.specs.Cells.{tree_of}
use Rattle.tree_offers.specs.Results.{HasPlaces}
use Rattle.tree_offers.proofs.Places.{results_for_same, results_within}
use Rattle.tree_offers.proofs.outcome.call.Goals as goal

pub returns-in-Offers-clause-outcome : goal.returns-in-Offers-clause-outcome
returns-in-Offers-clause-outcome c = λ next.
    let trees = map (tree_of c.args.store.now) c.args.args.now in
    let us : List Tree = c.deref.result.now in
    let same : us ≡ trees = c.deref.ensures.value ∙ c.in_ok-terms.ensures in
    let places : list_all (has_places (length us)) c.in-Offers.results ≡ true = subst (OutcomeHasPlaces (length us)) c.in-Offers.is c.in_ok-results.ensures.places in
    let is : results_for us c.in-Offers.results ≡ primitive c.args.name.now us 0 = sym (ap (placed_outcome_of us) c.in-Offers.is) ∙ c.in_ok-results.ensures.outcome in
    results_for_same trees us c.in-Offers.results c.new.result same c.new.ensures places
    ∙ is ∙ ap (λ (ts : List Tree). primitive c.args.name.now ts 0) same ∙ sym (c.requires.plain.same next)

pub returns-in-Offers-clause-places : goal.returns-in-Offers-clause-places
returns-in-Offers-clause-places c =
    let us : List Tree = c.deref.result.now in
    let same : us ≡ map (tree_of c.args.store.now) c.args.args.now = c.deref.ensures.value ∙ c.in_ok-terms.ensures in
    let long : length us ≡ length c.args.args.now = ap length same ∙ length-map c.args.args.now (tree_of c.args.store.now) in
    let places : list_all (has_places (length us)) c.in-Offers.results ≡ true = subst (OutcomeHasPlaces (length us)) c.in-Offers.is c.in_ok-results.ensures.places in
    subst (All (HasPlaces (length c.args.args.now))) (sym c.new.ensures)
    (results_within (length c.args.args.now) c.in-Offers.results (subst (λ (n : ℕ). list_all (has_places n) c.in-Offers.results ≡ true) long places))
