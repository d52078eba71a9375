-- Words that are drawn from a list of words to come.
use Rattle.std.specs.Prelude.{◌≡◌, ℕ, List, [], ◌∷◌, Option, Some, None, ⊤}

-- the next word, 0 where none is left
abbrev pub next_word : List ℕ → ℕ
next_word [] = 0
next_word (w ∷ ws) = w

-- the words behind it
abbrev pub other_words : List ℕ → List ℕ
other_words [] = []
other_words (w ∷ ws) = ws

-- the words drawn are the first of those to come, and leave the others
abbrev pub Leaves : (ahead : List ℕ) → (drawn : List ℕ) → (ahead' : List ℕ) → Type 0
Leaves a [] b = b ≡ a
Leaves a (w ∷ ws) b = (w ≡ next_word a) × Leaves (other_words a) ws b

-- the same, where the words to come are told
abbrev pub Draws : Option (List ℕ) → Option (List ℕ) → List ℕ → Type 0
Draws None b ws = ⊤
Draws (Some a) None ws = ⊥
Draws (Some a) (Some b) ws = Leaves a ws b
