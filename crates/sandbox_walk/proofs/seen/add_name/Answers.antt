use Rattle.std.proofs.Common.{◌≡◌, ℕ, ◌||◌, Bool, true, false, cond, List, bytes_eq, refl, ap, ◌∙◌}
use Rattle.std.specs.String.{string_bytes}
use Rattle.std.specs.BTreeSet.{contains_text}
use Rattle.std.proofs.lemmas.Map.Text.{btree_set_updates_text}
use Rattle.sandbox_walk.proofs.seen.add_name.Goals as goal

as_or : (a b : Bool) → cond a true b ≡ (a || b)
as_or true b = refl
as_or false b = refl

pub returns : goal.returns
returns c = λ q.
    btree_set_updates_text (string_bytes c.in_ok-from_str.field-0) c.args.names.now c.insert.new.self true c.in_ok-insert.ensures.updates q
    ∙ as_or (bytes_eq (string_bytes c.in_ok-from_str.field-0) q) (contains_text c.args.names.now q)
    ∙ ap (λ (x : List ℕ). bytes_eq x q || contains_text c.args.names.now q) c.in_ok-from_str.ensures.ok
