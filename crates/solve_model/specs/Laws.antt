-- Laws of queries under other limits.
use Rattle.std.specs.Prelude.{◌≡◌, ◌≢◌, ℕ, suc, ◌+◌, ◌≤◌, Bool, true, false, ◌⊎◌, List, ◌++◌, filter, length, nat_le}
use Rattle.term_core.specs.Tree.{Tree}
use Rattle.solve_model.specs.Run.{World, Mark, Answered, Told, Asked, Ran, End, Waits, Spent, query}

-- the world with this many more steps, and with these replies after the others
abbrev pub widened : ℕ → List Tree → World → World
widened n ts w = record w { replies = w.replies ++ ts; limit = w.limit + n }

-- the first marks begin the second
abbrev pub Begins : List (ℕ × Mark) → List (ℕ × Mark) → Type 0
Begins ms ns = (more : List (ℕ × Mark)) × (ns ≡ ms ++ more)

-- it stopped for want of a reply or of steps
abbrev pub IsStopped : End → Type 0
IsStopped e = (e ≡ Waits) ⊎ (e ≡ Spent)

-- More steps and more replies only add: a query gives the same with them, or it stopped for want of them and its marks begin the further one's.
abbrev pub MoreOnlyAdds : Type 0
MoreOnlyAdds =
    (w : World) (n : ℕ) (ts : List Tree) (g t : Tree) →
    (query (widened n ts w) g t ≡ query w g t) ⊎ (IsStopped (query w g t).end × Begins (query w g t).marks (query (widened n ts w) g t).marks)

-- the marks made after no more than n steps
abbrev pub marks_within : ℕ → List (ℕ × Mark) → List (ℕ × Mark)
marks_within n ms = filter (λ m. nat_le m.0 n) ms

-- What was marked within the limit stands, also after the last step: with more steps a query gives these marks and later ones.
abbrev pub MarksStand : Type 0
MarksStand =
    (w : World) (n : ℕ) (g t : Tree) →
    (query w g t).marks ≡ marks_within w.limit (query (record w { limit = w.limit + n }) g t).marks

abbrev pub is_prompt : Mark → Bool
is_prompt (Asked t) = true
is_prompt (Told t) = false
is_prompt (Answered s more) = false

-- how many prompts there are
abbrev pub prompts : List (ℕ × Mark) → ℕ
prompts ms = length (filter (λ m. is_prompt m.1) ms)

-- it has taken all of n replies, and asked for one more
abbrev pub AsksOneMore : ℕ → Ran → Type 0
AsksOneMore n r = (r.used.replies ≡ n) × (prompts r.marks ≡ suc n)

-- it has asked for each of the replies that it took, of n
abbrev pub AsksForEach : ℕ → Ran → Type 0
AsksForEach n r = (r.used.replies ≤ n) × (prompts r.marks ≡ r.used.replies)

-- A query asks for each reply that it takes; where it waits, it has taken all replies and asked for one more.
abbrev pub PromptsTakeReplies : Type 0
PromptsTakeReplies =
    (w : World) (g t : Tree) →
    ((query w g t).end ≡ Waits → AsksOneMore (length w.replies) (query w g t))
    × ((query w g t).end ≢ Waits → AsksForEach (length w.replies) (query w g t))
