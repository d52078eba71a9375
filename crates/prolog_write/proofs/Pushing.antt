-- The stack of tasks, whose last is the next.
use Rattle.std.proofs.Common.{◌≡◌, ℕ, ◌+◌, ◌-◌, ◌<◌, ◌≤◌, List, [], ◌∷◌, ◌++◌, map, length, drop, get_or, ap, ◌∙◌, sym, arith}
use Rattle.std.proofs.lemmas.List.{at_drop_more, reverse-append}
use Rattle.prolog_write.specs.declared.mode.Mode.{Mode}
use Rattle.prolog_write.specs.declared.task.Task.{Task}
use Rattle.prolog_write.specs.Duties.{duty_of, stacked, Duty}

-- one more task
pub stacked_push : (m : Mode) (ts : List Task) (t : Task) → stacked m (ts ++ t ∷ []) ≡ duty_of m t ∷ stacked m ts
stacked_push m ts t = ap (map (duty_of m)) (reverse-append ts (t ∷ []))

-- the upcoming tasks from the last one on
pub map_more : (m : Mode) (all : List Task) (d : Task) (i : ℕ) (ds : List Duty) → i < length all
    → (duty_of m (get_or all (length all - 1 - i) d) ∷ []) ++ (map (duty_of m) (drop (length all - i) all) ++ ds) ≡ map (duty_of m) (drop (length all - (i + 1)) all) ++ ds
map_more m all d i ds h =
    let j = length all - 1 - i in
    let t = get_or all j d in
    let here : length all - (i + 1) ≡ j = omega arith in
    let next : j + 1 ≡ length all - i = omega arith in
    ap (λ xs. map (duty_of m) xs ++ ds) (sym (at_drop_more (λ xs. xs) all j d (omega arith) ∙ ap (λ (k : ℕ). t ∷ drop k all) next))
    ∙ ap (λ (k : ℕ). map (duty_of m) (drop k all) ++ ds) (sym here)

pub drop_none : (all : List Task) (i : ℕ) → length all ≤ i → drop (length all - i) all ≡ all
drop_none all i h = let none : length all - i ≡ 0 = omega arith in ap (λ (k : ℕ). drop k all) none
