use Rattle.std.proofs.Common.{ℕ, List, [], ◌∷◌, ◌++◌, take, ap, sym, ◌∙◌, arith}
use Rattle.term_core.specs.Tree.{Tree}
use Rattle.term_core.specs.Variables.{occurrences, renamed}
use Rattle.builtin_table.specs.Solutions.{copies}
use Rattle.collect.proofs.Copying.{after_taken, copies_taken, greatest_le}
use Rattle.collect.proofs.numbers.copies.Goals as goal

pub rename-requires : goal.rename-requires
rename-requires c = grind (arith, greatest_le (occurrences c.term-item.result), c.in_ok-first_free.ensures.ok)

pub loop-term-preserved : goal.loop-term-preserved
loop-term-preserved c =
    let ts = c.args.terms.now in
    let i = c.loop-term.term-index in
    let t : Tree = c.term-item.result in
    record {
      copies =
          c.in_ok-push.ensures.items
          ∙ ap (λ (us : List Tree). us ++ c.in_ok-rename.field-0 ∷ []) c.loop-term.invariant.copies
          ∙ ap (λ (u : Tree). copies c.args.first (take i ts) ++ u ∷ []) (c.in_ok-rename.ensures ∙ ap (λ (n : ℕ). renamed n t) c.loop-term.invariant.next)
          ∙ sym (copies_taken c.args.first ts i t c.loop-term-test.true c.term-item.is);
      next = grind (arith, after_taken c.args.first ts i t c.loop-term-test.true c.term-item.is, c.loop-term.invariant.next, c.in_ok-first_free.ensures.ok);
    }
