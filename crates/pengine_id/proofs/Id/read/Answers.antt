use Rattle.std.proofs.Common.{◌≡◌, Option, Some, None, option_map, ap, sym, refl, true≢false}
use Rattle.std.specs.Int.{from_be_bytes, w128}
use Rattle.uuid.specs.Text.{parsed}
use Rattle.pengine_id.proofs.Id.read.Goals as goal

none_of : {X : Type 0} (o : Option X) → (((u : X) × (o ≡ Some u)) → ⊥) → o ≡ None
none_of None h = refl
none_of (Some x) h = absurd (h (x, refl))

pub returns-in-Err : goal.returns-in-Err
returns-in-Err c =
    sym (ap (option_map (λ bytes. record { bits = from_be_bytes w128 bytes })) (none_of (parsed c.args.text.now) (λ u. absurd (true≢false (sym (c.in-Err.ensures.ok.1 u))))))
