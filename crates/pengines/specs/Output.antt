-- What is written of a text.
use Rattle.std.specs.Prelude.{◌≡◌, ◌⊎◌, ◌++◌, ℕ, List, [], ◌∷◌, Option, codes}
use Rattle.std.specs.List.{flat_map}
use Rattle.std.specs.Io.KnownBytes.{Appends}
use Rattle.outside.specs.Faults.{Rose}

-- a text and a line end
abbrev pub line : List ℕ → List ℕ
line text = text ++ (10 ∷ [])

-- each text on a line
abbrev pub text_of_lines : List (List ℕ) → List ℕ
text_of_lines lines = flat_map line lines

-- The sink took a first part of the text, and nothing else.
pub record AppendsPart (old new : Option (List ℕ)) (text : List ℕ) : Type 0 where
  pub part : List ℕ
  pub rest : List ℕ
  pub split : text ≡ part ++ rest
  pub written : Appends old new part

-- The sink took some first lines, each whole, and nothing else.
pub record AppendsLines (old new : Option (List ℕ)) (lines : List (List ℕ)) : Type 0 where
  pub first : List (List ℕ)
  pub rest : List (List ℕ)
  pub split : lines ≡ first ++ rest
  pub written : Appends old new (text_of_lines first)

-- The sink took the text, or a first part of it where its count of faults rose.
abbrev pub Says : {K : Type 0} → (K → Option (List ℕ)) → (K → ℕ) → K → K → List ℕ → Type 0
Says taken faults old new text =
    Appends (taken old) (taken new) text
    ⊎ (AppendsPart (taken old) (taken new) text × Rose (faults old) (faults new))

-- The sink was told some first lines, and then the line `memory`.
pub record SaysMemory {K : Type 0} (taken : K → Option (List ℕ)) (faults : K → ℕ) (old new : K) (lines : List (List ℕ)) : Type 0 where
  pub first : List (List ℕ)
  pub rest : List (List ℕ)
  pub split : lines ≡ first ++ rest
  pub said : Says taken faults old new (text_of_lines first ++ line (codes "memory"))
