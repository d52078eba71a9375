-- The words of a command.
use Rattle.std.specs.Prelude.{◌≡◌, ℕ, ◌==◌, List, [], ◌∷◌, String, string_bytes, codes, bytes_eq, map, if◌then◌else◌, Option, Some, None}
use Rattle.std.specs.declared.alloc.Global.{Global}
use Rattle.pengines.specs.Output.{text_of_lines}

abbrev pub Words : Type 0
Words = List (String Global)

-- The words are exactly `session`.
abbrev pub IsSession : Words → Type 0
IsSession words = map string_bytes words ≡ codes "session" ∷ []

-- a word that isn't empty
abbrev pub given : List ℕ → Option (List ℕ)
given [] = None
given (b ∷ bs) = Some (b ∷ bs)

-- a word that isn't empty and doesn't begin with `-`
abbrev pub plain : List ℕ → Option (List ℕ)
plain [] = None
plain (b ∷ bs) = if b == 45 then None else Some (b ∷ bs)

-- `--` ends the options
abbrev pub operand_of_two : (a b : List ℕ) → Option (List ℕ)
operand_of_two a b = if bytes_eq a (codes "--") then given b else if bytes_eq b (codes "--") then plain a else None

-- The only operand among words without options. One that begins with `-` stands behind `--`.
abbrev pub operand_of : List (List ℕ) → Option (List ℕ)
operand_of [] = None
operand_of (a ∷ []) = plain a
operand_of (a ∷ b ∷ []) = operand_of_two a b
operand_of (a ∷ b ∷ c ∷ ws) = None

-- the goal that follows the word `check`
abbrev pub goal_of : List (List ℕ) → Option (List ℕ)
goal_of [] = None
goal_of (w ∷ ws) = if bytes_eq w (codes "check") then operand_of ws else None

-- The words are `check` and this goal.
abbrev pub IsCheck : Words → List ℕ → Type 0
IsCheck words goal = goal_of (map string_bytes words) ≡ Some goal

-- which commands there are
abbrev pub usage : List ℕ
usage = text_of_lines (codes "usage: pengines session" ∷ codes "       pengines check GOAL" ∷ [])
