-- The name of a pengine: a UUID of version 8 (RFC 9562, section 5.8), from two random words and the
-- number of its making.
use Rattle.std.specs.Prelude.{ℕ, ◌+◌, ◌*◌, ◌/◌, ◌%◌, ◌^◌, List, Option, option_map}
use Rattle.std.specs.Int.{to_be_bytes, from_be_bytes, w128}
use Rattle.uuid.specs.Text.{parsed, hyphenated_text, lower}
use Rattle.pengine_id.specs.declared.Id.{Id}

-- 48 bits of the first word (its bits 63 to 16), the version 8, the word's bits 15 to 4; the variant 10,
-- 14 bits of the second word (its bits 63 to 50), and the serial number in 48 bits
abbrev pub id_bits : (first second serial : ℕ) → ℕ
id_bits first second serial =
    (first / 2 ^ 16 * 2 ^ 16 + 8 * 2 ^ 12 + first / 2 ^ 4 % 2 ^ 12) * 2 ^ 64
    + (2 * 2 ^ 62 + second / 2 ^ 50 * 2 ^ 48 + serial)

abbrev pub id_of : (words : ℕ × ℕ) → (serial : ℕ) → Id
id_of words serial = record { bits = id_bits words.0 words.1 serial }

-- the number of the making of an id of this layout
abbrev pub serial : Id → ℕ
serial id = id.bits % 2 ^ 48

-- in lower case, with hyphens
abbrev pub id_text : Id → List ℕ
id_text id = hyphenated_text lower (to_be_bytes w128 id.bits)

-- the id that a text writes in any of the forms of a UUID: simple, hyphenated, in braces, a URN
abbrev pub id_read : List ℕ → Option Id
id_read text = option_map (λ bytes. record { bits = from_be_bytes w128 bytes }) (parsed text)
