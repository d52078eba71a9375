-- The usage text.
use Rattle.std.specs.Prelude.{ℕ, List, [], ◌∷◌, ◌++◌, codes}

-- each line with its line end
abbrev pub lines : List (List ℕ) → List ℕ
lines [] = []
lines (l ∷ ls) = l ++ 10 ∷ lines ls

abbrev pub usage : List ℕ
usage = lines (codes "usage: pengines session"
    ∷ codes "       pengines local GOAL [--limit N] [--application A]"
    ∷ codes "       pengines check GOAL [--application A]"
    ∷ codes "       pengines demo N [--chunk C]"
    ∷ codes "       pengines serve --port P [--doors D] [--workers W] [--slots S] [--connections K] [--idle MS]"
    ∷ codes "       pengines rpc HOST PORT GOAL [--chunk C] [--limit N] [--application A]"
    ∷ [])
