use Rattle.std.proofs.Common.{ap, sym, ◌∙◌}
use Rattle.std.specs.Ordering.{nat_cmp}
use Rattle.std.specs.BTreeMap.{get}
use Rattle.prolog_read.specs.Variables.{lookup}
use Rattle.request_text.proofs.Sharing.{shared_more, shared_passed}
use Rattle.request_text.proofs.template.shared.Goals as goal
use Rattle.request_text.proofs.template.shared.Goals.{in-Some+in_ok-insert, in_default}

pub loop-i-preserved : goal.loop-i-preserved
loop-i-preserved c =
    let goals = c.args.goal.now in
    let found = ap (λ w. lookup w goals) (sym c.as_str.ensures) ∙ sym (c.in_ok-index.ensures c.as_str.result.now) in
    elim c.match-get.branch [
      | in-Some+in_ok-insert w ↦ λ n.
          ap (λ m. get nat_cmp m n) w.shared-is
          ∙ shared_more c.args.template.now c.loop-i.i c.index-template-template.result c.loop-i-test.true c.index-template-template.is goals (get nat_cmp c.loop-i.shared) c.loop-i.invariant (get nat_cmp w.insert.new.self) w.in-Some.own.now (found ∙ sym w.in-Some.ensures.value) (λ q. w.in_ok-insert.ensures.updates.0 q) n
      | in_default w ↦ λ n.
          ap (λ m. get nat_cmp m n) w.shared-is
          ∙ shared_passed c.args.template.now c.loop-i.i c.index-template-template.result c.loop-i-test.true c.index-template-template.is goals (get nat_cmp c.loop-i.shared) c.loop-i.invariant (found ∙ sym w.in_default.ensures.value) n
    ]
