use Rattle.std.proofs.Common.{◌≡◌, ℕ, ap, ◌∙◌, sym, Some, cond, length, ◌++◌, ◌∷◌, [], arith}
use Rattle.std.specs.Ordering.{nat_cmp}
use Rattle.std.specs.BTreeMap.{get, is_at}
use Rattle.term_core.proofs.PlacesLemmas.{with_new_is, places_after}
use Rattle.term_core.proofs.places.Places.see.Goals as goal

pub returns-in_ok-push-clause-places : goal.returns-in_ok-push-clause-places
returns-in_ok-push-clause-places c =
    let n = c.args.number in
    let seen = c.args.self.now.seen.items in
    let old = get nat_cmp c.args.self.now.at in
    let all : c.len.result ≡ length seen = omega arith in
    let updated : (q : ℕ) → get nat_cmp c.insert.new.self q ≡ cond (is_at (nat_cmp n) q) (Some (length seen)) (old q) = λ q. c.in_ok-insert.ensures.updates.0 q ∙ ap (λ k. cond (is_at (nat_cmp n) q) (Some k) (old q)) all in
    record { each = places_after seen n c.contains_key.result (old n) (c.requires.each n) c.contains_key.ensures old (get nat_cmp c.insert.new.self) c.push.new.self.items c.if-not-contains_key.true c.requires.each updated c.in_ok-push.ensures.items }

pub returns-in_ok-push-clause-seen : goal.returns-in_ok-push-clause-seen
returns-in_ok-push-clause-seen c =
    let n = c.args.number in
    let seen = c.args.self.now.seen.items in
    c.in_ok-push.ensures.items ∙ ap (λ b. cond b seen (seen ++ n ∷ [])) (sym c.if-not-contains_key.true)
    ∙ sym (with_new_is seen n c.contains_key.result (get nat_cmp c.args.self.now.at n) (c.requires.each n) c.contains_key.ensures)

pub returns-else-not-contains_key-clause-seen : goal.returns-else-not-contains_key-clause-seen
returns-else-not-contains_key-clause-seen c =
    let n = c.args.number in
    let seen = c.args.self.now.seen.items in
    ap (λ b. cond b seen (seen ++ n ∷ [])) (sym c.if-not-contains_key.false)
    ∙ sym (with_new_is seen n c.contains_key.result (get nat_cmp c.args.self.now.at n) (c.requires.each n) c.contains_key.ensures)
