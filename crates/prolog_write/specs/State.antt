-- What has been written, and what stands behind it.
use Rattle.std.specs.Prelude.{ℕ, Bool, cond, List, [], ◌∷◌, ◌++◌}
use Rattle.prolog_write.specs.Text.{Piece, first, last, is_spaced, behind}

-- the text so far, its limit, and how its last piece ends
pub record State : Type 0 where
  pub written : List ℕ
  pub limit : ℕ
  pub ending : ℕ
  pub behind_prefix : Bool

-- these bytes more
abbrev pub appended : State → List ℕ → State
appended s text = record s { written = s.written ++ text }

-- a space where one stands before a piece that begins with this character
abbrev pub spaced : State → ℕ → State
spaced s c = appended s (cond (is_spaced s.ending s.behind_prefix c) (32 ∷ []) [])

-- the state after a piece
abbrev pub with_piece : State → Piece → State
with_piece s p = record (appended (spaced s (first p.text)) p.text) { ending = last p.text; behind_prefix = p.is_prefix }

-- the whole text, where these pieces follow
abbrev pub whole : State → List Piece → List ℕ
whole s ps = s.written ++ behind s.ending s.behind_prefix ps
