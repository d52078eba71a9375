-- The primitives on texts, by their names and how many arguments they have.
use Rattle.std.specs.Prelude.{ℕ, zero, suc, Bool, false, ◌||◌, List, codes, bytes_eq}

-- of two arguments
abbrev pub is_pair_name : List ℕ → Bool
is_pair_name f =
    bytes_eq f (codes "atom_length") || (bytes_eq f (codes "char_code") || (bytes_eq f (codes "atom_chars") || (bytes_eq f (codes "atom_codes")
    || (bytes_eq f (codes "number_chars") || (bytes_eq f (codes "number_codes") || bytes_eq f (codes "atom_number"))))))

abbrev pub is_row : List ℕ → (arity : ℕ) → Bool
is_row f (suc (suc zero)) = is_pair_name f
is_row f (suc (suc (suc zero))) = bytes_eq f (codes "atom_concat")
is_row f (suc (suc (suc (suc (suc zero))))) = bytes_eq f (codes "sub_atom")
is_row f n = false
