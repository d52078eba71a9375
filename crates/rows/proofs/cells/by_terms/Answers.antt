use Rattle.std.proofs.Common.{◌≡◌, ◌<◌, ◌∷◌, [], length, ℕ, MatchOption, sym, subst}
use Rattle.std.specs.List.{All}
use Rattle.std.proofs.lemmas.List.Elements.{All-head, All-weaker}
use Rattle.store.specs.Cells.{IsCell}
use Rattle.prims_term.specs.Outcomes.{HasCells}
use Rattle.rows.proofs.cells.by_terms.Goals as goal

pub push_offer-requires : goal.push_offer-requires
push_offer-requires c =
    let n = length c.args.args.now in
    let offers = c.in-Offers.offers in
    let offer = c.in-Some.offer in
    let first : offers ≡ offer.pairs ∷ c.next.new.self =
    subst (λ o. MatchOption o (offers ≡ []) (λ one. offers ≡ one.pairs ∷ c.next.new.self)) c.in-Some.is c.in_ok-offer-in-Offers.ensures.offer in
    let P : ℕ × ℕ → Type 0 = λ p. (p.0 < n) × IsCell c.call.new.store p.1 in
    let Q : ℕ × ℕ → Type 0 = λ p. IsCell c.call.new.store p.1 in
    let all : All (All P) offers = subst (λ o. HasCells c.call.new.store c.args.args.now o) c.in-Offers.is c.in_ok-ball.ensures.cells in
    subst (λ s. All (λ p. IsCell s p.1) offer.pairs) (sym c.next.ensures.store)
    (All-weaker P Q (λ p h. h.1) offer.pairs (All-head (All P) offer.pairs c.next.new.self (subst (All (All P)) first all)))
