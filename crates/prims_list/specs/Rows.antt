-- The primitives on lists, by their names and how many arguments they have.
use Rattle.std.specs.Prelude.{ℕ, zero, suc, Bool, false, ◌||◌, List, codes, bytes_eq}

-- of two arguments
abbrev pub is_pair_name : List ℕ → Bool
is_pair_name f = bytes_eq f (codes "msort") || (bytes_eq f (codes "sort") || bytes_eq f (codes "keysort"))

abbrev pub is_row : List ℕ → (arity : ℕ) → Bool
is_row f (suc (suc zero)) = is_pair_name f
is_row f (suc (suc (suc zero))) = bytes_eq f (codes "$skip_list")
is_row f n = false
