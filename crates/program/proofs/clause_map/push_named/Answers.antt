use Rattle.std.proofs.Common.{◌≡◌, rules, Some, None, ◌∙◌, sym, ap}
use Rattle.std.specs.BTreeMap.{get_by_text}
use Rattle.program.specs.ByPredicate.{ByName}
use Rattle.std.proofs.lemmas.Map.Text.{btree_map_updates_text}
use Rattle.program.proofs.Keeping.{held_after}
use Rattle.program.proofs.clause_map.push_named.Goals as goal

pub returns-in-Some : goal.returns-in-Some
returns-in-Some c =
    let m = c.args.by_name.now in
    let n = c.get_mut.follows.lender c.push.new.self in
    held_after m n c.args.name.now c.push.new.self c.args.clause
    (btree_map_updates_text c.args.name.now m n (Some c.push.new.self) ((c.get_mut.follows.holds c.push.new.self).3 (search rules)))
    (rw (← c.in-Some.ensures.value) c.in_ok-push.ensures.items)

pub returns : goal.returns
returns c =
    let m = c.get_mut.follows.lender-at-none in
    let absent : None ≡ get_by_text m c.args.name.now = c.in_default.ensures.value ∙ ap (λ (b : ByName). get_by_text b c.args.name.now) (sym c.get_mut.follows.holds-at-none) in
    rw (← c.get_mut.follows.holds-at-none)
    (held_after m c.insert.new.self c.args.name.now c.in_ok-clauses.clauses c.args.clause
    (λ q. rw (← c.in_ok-from_str.ensures.ok) (btree_map_updates_text _ m c.insert.new.self (Some c.in_ok-clauses.clauses) c.in_ok-insert.ensures.updates q))
    (rw (← absent) c.in_ok-clauses.ensures.items))
