use Rattle.std.proofs.Common.{◌≡◌, ◌+◌, [], ◌⊎◌, inl, inr, ◌∙◌, sym, drop, arith}
use Rattle.term_core.proofs.Slices.{slice_from, nothing_left, one_below}
use Rattle.term_core.proofs.Unifying.{Turn, Here, here, turn_same, turn_clash, turn_left_occurs, turn_right_occurs, turn_left, turn_right, at_the_end}
use Rattle.term_core.proofs.unifier.solved.Goals.{In-Same, After-drop-binding-in-Some, After-drop-binding-in-Some-2, then-loop-at-test+else-at-len, else-loop-at-test}
use Rattle.term_core.proofs.unifier.solved.Goals as goal

after_same : (c : In-Same) → Turn (drop c.loop-at.at c.loop-at.left.items) (drop c.loop-at.at c.loop-at.right.items) c.loop-at.found (drop (c.loop-at.at + 1) c.loop-at.left.items) (drop (c.loop-at.at + 1) c.loop-at.right.items) c.loop-at.found
after_same c =
    let front : Here c.loop-at.left.items c.loop-at.right.items c.loop-at.at c.index.result.now c.index-in-loop-at.result.now = here c.loop-at.left.items c.loop-at.right.items c.loop-at.at c.index.result.now c.index-in-loop-at.result.now (omega arith) (omega arith) c.index.ensures c.index-in-loop-at.ensures c.loop-at.invariant.left c.loop-at.invariant.right in
    turn_same c.loop-at.left.items c.loop-at.right.items c.loop-at.at c.index.result.now c.index-in-loop-at.result.now c.loop-at.found front (sym c.in-Same.ensures)

pub loop-at-smaller-in-Same : goal.loop-at-smaller-in-Same
loop-at-smaller-in-Same c = one_below _ _ (after_same c).fewer

pub loop-at-preserved-in-Same : goal.loop-at-preserved-in-Same
loop-at-preserved-in-Same c =
    let t = after_same c in
    record {
      left = t.left;
      right = t.right;
      same = sym t.same ∙ c.loop-at.invariant.same;
    }

pub returns-in-Clash : goal.returns-in-Clash
returns-in-Clash c =
    let front : Here c.loop-at.left.items c.loop-at.right.items c.loop-at.at c.index.result.now c.index-in-loop-at.result.now = here c.loop-at.left.items c.loop-at.right.items c.loop-at.at c.index.result.now c.index-in-loop-at.result.now (omega arith) (omega arith) c.index.ensures c.index-in-loop-at.ensures c.loop-at.invariant.left c.loop-at.invariant.right in
    sym (turn_clash c.loop-at.left.items c.loop-at.right.items c.loop-at.at c.index.result.now c.index-in-loop-at.result.now c.loop-at.found front (sym c.in-Clash.ensures)) ∙ c.loop-at.invariant.same

pub returns-in-None : goal.returns-in-None
returns-in-None c =
    let front : Here c.loop-at.left.items c.loop-at.right.items c.loop-at.at c.index.result.now c.index-in-loop-at.result.now = here c.loop-at.left.items c.loop-at.right.items c.loop-at.at c.index.result.now c.index-in-loop-at.result.now (omega arith) (omega arith) c.index.ensures c.index-in-loop-at.ensures c.loop-at.invariant.left c.loop-at.invariant.right in
    let other = slice_from c.loop-at.at c.deref-in-Left.result.now c.loop-at.right.items c.deref-in-Left.ensures.value in
    sym (turn_left_occurs c.loop-at.left.items c.loop-at.right.items c.loop-at.at c.index.result.now c.index-in-loop-at.result.now c.loop-at.found front c.in-Left.variable _ other (sym c.in-Left.ensures) (rw c.in-None.is at c.in_ok-bind-in-Left.ensures.occurs)) ∙ c.loop-at.invariant.same

after_left : (c : After-drop-binding-in-Some) → Turn (drop c.loop-at.at c.loop-at.left.items) (drop c.loop-at.at c.loop-at.right.items) c.loop-at.found c.in-Some.binding.rest.items c.in-Some.binding.other.items c.in_ok-found-in-Some.found
after_left c =
    let front : Here c.loop-at.left.items c.loop-at.right.items c.loop-at.at c.index.result.now c.index-in-loop-at.result.now = here c.loop-at.left.items c.loop-at.right.items c.loop-at.at c.index.result.now c.index-in-loop-at.result.now (omega arith) (omega arith) c.index.ensures c.index-in-loop-at.ensures c.loop-at.invariant.left c.loop-at.invariant.right in
    let rest = slice_from (c.loop-at.at + 1) c.deref.result.now c.loop-at.left.items c.deref.ensures.value in
    let other = slice_from c.loop-at.at c.deref-in-Left.result.now c.loop-at.right.items c.deref-in-Left.ensures.value in
    turn_left c.loop-at.left.items c.loop-at.right.items c.loop-at.at c.index.result.now c.index-in-loop-at.result.now c.loop-at.found front c.in-Left.variable _ _ c.in-Some.binding c.in_ok-found-in-Some.found c.in_ok-found-in-Some.ensures (rw c.in-Some.is at c.in_ok-bind-in-Left.ensures.binds) rest other (sym c.in-Left.ensures)

pub loop-at-smaller-in-Some : goal.loop-at-smaller-in-Some
loop-at-smaller-in-Some c = one_below _ _ (after_left c).fewer

pub loop-at-preserved-in-Some : goal.loop-at-preserved-in-Some
loop-at-preserved-in-Some c =
    let t = after_left c in
    record {
      left = t.left;
      right = t.right;
      same = sym t.same ∙ c.loop-at.invariant.same;
    }

pub returns-in-None-2 : goal.returns-in-None-2
returns-in-None-2 c =
    let front : Here c.loop-at.left.items c.loop-at.right.items c.loop-at.at c.index.result.now c.index-in-loop-at.result.now = here c.loop-at.left.items c.loop-at.right.items c.loop-at.at c.index.result.now c.index-in-loop-at.result.now (omega arith) (omega arith) c.index.ensures c.index-in-loop-at.ensures c.loop-at.invariant.left c.loop-at.invariant.right in
    let other = slice_from c.loop-at.at c.deref-in-Right-2.result.now c.loop-at.left.items c.deref-in-Right-2.ensures.value in
    sym (turn_right_occurs c.loop-at.left.items c.loop-at.right.items c.loop-at.at c.index.result.now c.index-in-loop-at.result.now c.loop-at.found front c.in-Right.variable _ other (sym c.in-Right.ensures) (rw c.in-None-2.is at c.in_ok-bind-in-Right.ensures.occurs)) ∙ c.loop-at.invariant.same

after_right : (c : After-drop-binding-in-Some-2) → Turn (drop c.loop-at.at c.loop-at.left.items) (drop c.loop-at.at c.loop-at.right.items) c.loop-at.found c.in-Some-2.binding.other.items c.in-Some-2.binding.rest.items c.in_ok-found-in-Some-2.found
after_right c =
    let front : Here c.loop-at.left.items c.loop-at.right.items c.loop-at.at c.index.result.now c.index-in-loop-at.result.now = here c.loop-at.left.items c.loop-at.right.items c.loop-at.at c.index.result.now c.index-in-loop-at.result.now (omega arith) (omega arith) c.index.ensures c.index-in-loop-at.ensures c.loop-at.invariant.left c.loop-at.invariant.right in
    let rest = slice_from (c.loop-at.at + 1) c.deref-in-Right.result.now c.loop-at.right.items c.deref-in-Right.ensures.value in
    let other = slice_from c.loop-at.at c.deref-in-Right-2.result.now c.loop-at.left.items c.deref-in-Right-2.ensures.value in
    turn_right c.loop-at.left.items c.loop-at.right.items c.loop-at.at c.index.result.now c.index-in-loop-at.result.now c.loop-at.found front c.in-Right.variable _ _ c.in-Some-2.binding c.in_ok-found-in-Some-2.found c.in_ok-found-in-Some-2.ensures (rw c.in-Some-2.is at c.in_ok-bind-in-Right.ensures.binds) rest other (sym c.in-Right.ensures)

pub loop-at-smaller : goal.loop-at-smaller
loop-at-smaller c = one_below _ _ (after_right c).fewer

pub loop-at-preserved : goal.loop-at-preserved
loop-at-preserved c =
    let t = after_right c in
    record {
      left = t.left;
      right = t.right;
      same = sym t.same ∙ c.loop-at.invariant.same;
    }

pub returns : goal.returns
returns c =
    let ms = drop c.loop-at.at c.loop-at.left.items in
    let ns = drop c.loop-at.at c.loop-at.right.items in
    let ended : (ms ≡ []) ⊎ (ns ≡ []) = elim c.loop-at-test.branch [
      | then-loop-at-test+else-at-len w ↦ inr (nothing_left c.loop-at.at c.loop-at.right.items (omega arith))
      | else-loop-at-test w ↦ inl (nothing_left c.loop-at.at c.loop-at.left.items (omega arith))
    ] in
    sym (at_the_end ms ns c.loop-at.found ended) ∙ c.loop-at.invariant.same
