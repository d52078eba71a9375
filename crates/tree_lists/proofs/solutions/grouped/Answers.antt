use Rattle.std.proofs.Common.{◌≡◌, [], ◌∷◌, ◌++◌, rules, reverse, ap, sym, ◌∙◌}
use Rattle.tree_lists.specs.Groups.{first_is_other}
use Rattle.tree_lists.proofs.Grouping.{joined_all-none, more_in_group, more_in_other, not_none}
use Rattle.tree_lists.proofs.solutions.grouped.Goals.{then-is_other+in_ok-push, else-is_other}
use Rattle.tree_lists.proofs.solutions.grouped.Goals as goal

pub loop-solution-init : goal.loop-solution-init
loop-solution-init c = record {
  same = rw (c.new-group.ensures, c.new-groups.ensures.items) (joined_all-none c.args.solutions.items);
  started = λ e. c.new-groups.ensures.items;
}

pub loop-solution-preserved : goal.loop-solution-preserved
loop-solution-preserved c =
    let rest = c.loop-solution.rest.items in
    let a = c.in-Some.solution in
    let g = c.loop-solution.group in
    let gs = c.loop-solution.groups.items in
    let key = ap (λ x. first_is_other (reverse x) a.0) (sym c.as_slice.ensures) ∙ sym c.is_other.ensures in
    record {
      same = elim c.if-is_other.branch [
        | then-is_other+in_ok-push w ↦
            let none : c.if-is_other.group ≡ [] = search rules in
            let more : c.if-is_other.groups.items ≡ gs ++ g ∷ [] = search rules in
            more_in_other rest c.pop.new.self.items a g c.push-in-Some.new.self gs c.if-is_other.groups.items _ c.in-Some.ensures.items (c.in_ok-push-2.ensures.ok ∙ ap (λ x. x ++ a ∷ []) none) more (key ∙ w.if-is_other.true) c.loop-solution.invariant.same
        | else-is_other w ↦
            let same : c.if-is_other.group ≡ g = search rules in
            let groups : c.if-is_other.groups.items ≡ gs = search rules in
            rw groups
            (more_in_group rest c.pop.new.self.items a g c.push-in-Some.new.self gs _ c.in-Some.ensures.items (c.in_ok-push-2.ensures.ok ∙ ap (λ x. x ++ a ∷ []) same) c.loop-solution.invariant.started (key ∙ w.if-is_other.false) c.loop-solution.invariant.same)
      ];
      started = λ e. absurd (not_none c.if-is_other.group a (sym c.in_ok-push-2.ensures.ok ∙ e));
    }
