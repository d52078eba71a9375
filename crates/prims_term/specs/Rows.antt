-- The primitives on terms, by their names and how many arguments they have.
use Rattle.std.specs.Prelude.{ℕ, zero, suc, Bool, false, ◌||◌, List, is_some, codes, bytes_eq}
use Rattle.builtin_table.specs.Primitives.{order_named, comparison_named}

-- the tests of a term's kind
abbrev pub is_kind_name : List ℕ → Bool
is_kind_name f =
    bytes_eq f (codes "var") || (bytes_eq f (codes "nonvar") || (bytes_eq f (codes "atom") || (bytes_eq f (codes "integer")
    || (bytes_eq f (codes "number") || (bytes_eq f (codes "atomic") || (bytes_eq f (codes "compound")
    || (bytes_eq f (codes "callable") || (bytes_eq f (codes "is_list") || bytes_eq f (codes "ground")))))))))

-- of two arguments, besides the comparisons
abbrev pub is_pair_name : List ℕ → Bool
is_pair_name f =
    bytes_eq f (codes "=") || (bytes_eq f (codes "unify_with_occurs_check") || (bytes_eq f (codes "is")
    || (bytes_eq f (codes "=..") || (bytes_eq f (codes "copy_term") || bytes_eq f (codes "term_variables")))))

-- of two arguments
abbrev pub is_two_name : List ℕ → Bool
is_two_name f = is_some (order_named f) || (is_some (comparison_named f) || is_pair_name f)

abbrev pub is_triple_name : List ℕ → Bool
is_triple_name f =
    bytes_eq f (codes "functor") || (bytes_eq f (codes "arg") || (bytes_eq f (codes "compare") || bytes_eq f (codes "plus")))

abbrev pub is_quadruple_name : List ℕ → Bool
is_quadruple_name f = bytes_eq f (codes "divmod")

abbrev pub is_row : List ℕ → (arity : ℕ) → Bool
is_row f zero = false
is_row f (suc zero) = is_kind_name f
is_row f (suc (suc zero)) = is_two_name f
is_row f (suc (suc (suc zero))) = is_triple_name f
is_row f (suc (suc (suc (suc zero)))) = is_quadruple_name f
is_row f (suc (suc (suc (suc (suc n))))) = false
