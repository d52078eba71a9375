use Rattle.std.proofs.Common.{ap, sym, ◌∙◌, refl, ℕ, List, length, ◌-◌, arith, rules}
use Rattle.std.specs.BTreeMap.{BTreeMap}
use denote.Bor.{Bor}
use Rattle.request_text.specs.Kept.{in_order}
use Rattle.request_text.specs.Templates.{is_told}
use Rattle.request_text.proofs.Naming.{none_told, told_more, told_passed}
use Rattle.request_text.proofs.template.told_before.Goals as goal
use Rattle.request_text.proofs.template.told_before.Goals.{then-is_told+in_ok-number+in_ok-insert, else-is_told}

pub loop-i-init : goal.loop-i-init
loop-i-init c = none_told c.args.free (in_order c.args.others) c.args.names.now (length c.args.names.now - 0) (omega arith)

pub loop-i-preserved : goal.loop-i-preserved
loop-i-preserved c =
    let told = ap is_told (sym c.as_str.ensures) ∙ sym c.is_told.ensures in
    elim c.if-is_told.branch [
      | then-is_told+in_ok-number+in_ok-insert w ↦
          told_more c.args.free (in_order c.args.others) c.args.names.now c.loop-i.i c.index-names-names.result c.loop-i-test.true c.index-names-names.is c.loop-i.told c.if-is_told.told c.loop-i.invariant
          _ (λ a b. refl) w.as_str-then-is_told.result w.in_ok-number.number w.as_str-then-is_told.ensures (search rules) (told ∙ w.if-is_told.true) (ap (λ (m : BTreeMap (Bor (List ℕ)) ℕ). m.entries) w.told-is ∙ w.in_ok-insert.ensures.entries)
      | else-is_told w ↦
          told_passed c.args.free (in_order c.args.others) c.args.names.now c.loop-i.i c.index-names-names.result c.loop-i-test.true c.index-names-names.is c.loop-i.told c.if-is_told.told c.loop-i.invariant
          (told ∙ w.if-is_told.false) w.told-is
    ]
