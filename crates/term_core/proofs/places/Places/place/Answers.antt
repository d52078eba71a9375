use Rattle.std.proofs.Common.{◌≡◌, ◌∙◌, sym, unwrap_or, length, arith}
use Rattle.term_core.proofs.PlacesLemmas.{place_of-place_among}
use Rattle.term_core.proofs.places.Places.place.Goals as goal

pub returns : goal.returns
returns c =
    let n = c.args.number in
    let seen = c.args.self.now.seen.items in
    let all : c.len.result ≡ length seen = omega arith in
    let found = c.copied.ensures ∙ c.get.ensures.value ∙ c.requires.each n in
    c.unwrap_or.ensures ∙ (λ i. unwrap_or (found i) (all i)) ∙ sym (place_of-place_among n seen)
