use Rattle.std.proofs.Common.{ℕ, List, [], ◌∷◌, ◌++◌, sym, ap, ◌∙◌, arith, append_assoc}
use Rattle.pengines.proofs.Lines.{Appends-line, AppendsPart-of_line}
use Rattle.pengines.proofs.scripts.print_lines.Goals as goal

pub returns-in_err-write_all-clause-write_fault : goal.returns-in_err-write_all-clause-write_fault
returns-in_err-write_all-clause-write_fault g c =
    let (first, split, written, counted) = c.loop-text.invariant in
    let next = rw c.in-Some.is at c.in_ok-text.ensures in
    λ _. (omega (arith, counted, c.in_err-write_all.ensures.fault), AppendsPart-of_line _ _ _ _ first _ _ _ (split ∙ ap (λ (l : List (List ℕ)). first ++ l) next) written c.in_err-write_all.ensures.part (c.deref.ensures.value ∙ c.in_ok-line.ensures))

pub loop-text-preserved : goal.loop-text-preserved
loop-text-preserved g c =
    let (first, split, written, counted) = c.loop-text.invariant in
    let next = rw c.in-Some.is at c.in_ok-text.ensures in
    let text = c.in-Some.text.items in (
      first ++ text ∷ [],
      split ∙ ap (λ (l : List (List ℕ)). first ++ l) next ∙ sym (append_assoc first (text ∷ []) c.next_line.new.self),
      Appends-line _ _ _ first text _ written c.in_ok-write_all.ensures.ok (c.deref.ensures.value ∙ c.in_ok-line.ensures),
      omega (arith, counted, c.write_all.ensures.counted),
    )
