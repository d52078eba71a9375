-- Where a head ends: at the first empty line behind one that isn't empty (RFC 9112, section 2.1; empty
-- lines before a request line are passed over, section 2.2).
use Rattle.std.specs.Prelude.{◌≡◌, ◌⊎◌, ℕ, ◌==◌, ◌||◌, Bool, true, false, List, [], ◌∷◌, if◌then◌else◌}
use Rattle.http_wire.specs.declared.ending.Place.{Place}
use Rattle.http_wire.specs.declared.ending.Place.TheVariants.{Before, Line, Start, Over}

-- the place behind one byte more; a CR leaves a line as empty as it is
abbrev pub after : Place → ℕ → Place
after Before b = if b == 13 || b == 10 then Before else Line
after Line b = if b == 10 then Start else Line
after Start b = if b == 10 then Over else (if b == 13 then Start else Line)
after Over b = Over

-- the place behind bytes
abbrev pub places : Place → List ℕ → Place
places p [] = p
places p (b ∷ bytes) = places (after p b) bytes

abbrev pub is_over : Place → Bool
is_over Before = false
is_over Line = false
is_over Start = false
is_over Over = true

-- an empty line stands behind one that isn't empty
abbrev pub ends_head : List ℕ → Bool
ends_head bytes = is_over (places Before bytes)

-- nothing was read, or what is held then has no end of a head
abbrev pub IsOpen : (held held' : List ℕ) → Type 0
IsOpen held held' = (held' ≡ held) ⊎ (ends_head held' ≡ false)
