use Rattle.std.proofs.Common.{◌≡◌, ℕ, ◌+◌, ◌-◌, List, ◌++◌, length, take, drop, sym, ap, ◌∙◌, arith, length-drop, take-append-drop}
use Rattle.std.proofs.lemmas.List.{drop-drop, take_all}
use Rattle.outside.specs.Memory.{SourceState}
use Rattle.outside.proofs.mem_source.MemSourceSource.read.Goals as goal

-- what is left of a list behind a part that was copied from it
behind : (xs ys part : List ℕ) (at n : ℕ) → ys ≡ xs → part ≡ take n (take (length ys - at) (drop at ys)) → drop at xs ≡ part ++ drop (at + n) xs
behind xs ys part at n same copied =
    let all : take (length ys - at) (drop at ys) ≡ drop at ys = take_all _ _ (omega (arith, length-drop at ys)) in
    let front : part ≡ take n (drop at xs) = copied ∙ ap (take n) all ∙ ap (λ (l : List ℕ). take n (drop at l)) same in
    sym (take-append-drop n (drop at xs)) ∙ ap (λ (l : List ℕ). l ++ drop n (drop at xs)) (sym front) ∙ ap (λ (l : List ℕ). part ++ l) (drop-drop n at xs)

pub returns-clause-bytes : goal.returns-clause-bytes
returns-clause-bytes c =
    ap (λ (s : SourceState). s.left) (sym c.self.view_is)
    ∙ behind _ _ _ _ _ c.deref-2.ensures.value c.copy_front-count.ensures.copied
