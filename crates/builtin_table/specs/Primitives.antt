-- What each primitive gives (ISO/IEC 13211-1, 8.2 to 8.7 and 8.16): its results in order, or one ball.
use Rattle.std.specs.Prelude.{ℕ, zero, suc, ◌+◌, ℤ, pos, negsuc, Bool, not, ◌||◌, ◌==◌, nat_lt, if◌then◌else◌, List, [], ◌∷◌, map, length, slice_get, Option, Some, None, Ok, Err, codes, bytes_eq}
use Rattle.std.specs.declared.cmp.Ordering.{Ordering}
use Rattle.std.specs.declared.cmp.Ordering.TheVariants.{Less, Equal, Greater}
use Rattle.std.specs.Ordering.{is_eq, is_ne, is_lt, is_le, is_gt, is_ge, int_cmp}
use Rattle.term_core.specs.Tree.{Tree, variable, integer, atom, compound, trees_of, tree_list, arity}
use Rattle.term_core.specs.Order.{tree_cmp}
use Rattle.term_core.specs.Variables.{occurrences, variables, numbered, renamed}
use Rattle.builtin_table.specs.declared.functions.Relation.{Relation}
use Rattle.builtin_table.specs.declared.functions.Relation.TheVariants as relation
use Rattle.builtin_table.specs.declared.spelling.Spelling.TheVariants.{Characters, Codes}
use Rattle.builtin_table.specs.Errors.{instantiation_error, type_error, domain_error, representation_error}
use Rattle.builtin_table.specs.Lists.{list_of, elements, rest, is_list, empty_list}
use Rattle.builtin_table.specs.Arithmetic.{Value, value_of}
use Rattle.builtin_table.specs.Integers.{plus, divmod}
use Rattle.builtin_table.specs.Sorting.{msort, sort, keysort}
use Rattle.builtin_table.specs.Texts.{atom_length, char_code, atom_spelled, atom_concat, sub_atom}
use Rattle.builtin_table.specs.Numbers.{number_spelled, atom_number}
pub use Rattle.builtin_table.specs.Outcomes.{Offer, Outcome, Offers, Ball, Unknown, offer, unifies, fails, tested, ball, is_variable, is_integer, is_atom, is_compound}

-- ---- tests of a term's kind (8.3)

-- no variable occurs
abbrev pub is_ground : Tree → Bool
is_ground t = length (occurrences t) == 0

unfoldable pub of_one : List ℕ → Tree → Outcome
of_one f t =
    if bytes_eq f (codes "var") then tested (is_variable t)
    else if bytes_eq f (codes "nonvar") then tested (not (is_variable t))
    else if bytes_eq f (codes "atom") then tested (is_atom t)
    else if bytes_eq f (codes "integer") then tested (is_integer t)
    else if bytes_eq f (codes "number") then tested (is_integer t)
    else if bytes_eq f (codes "atomic") then tested (is_atom t || is_integer t)
    else if bytes_eq f (codes "compound") then tested (is_compound t)
    else if bytes_eq f (codes "callable") then tested (is_atom t || is_compound t)
    else if bytes_eq f (codes "is_list") then tested (is_list t)
    else if bytes_eq f (codes "ground") then tested (is_ground t)
    else Unknown

-- ---- comparison (8.4, 8.7)

abbrev pub holds : Relation → Ordering → Bool
holds relation.Equal o = is_eq o
holds relation.NotEqual o = is_ne o
holds relation.Less o = is_lt o
holds relation.LessOrEqual o = is_le o
holds relation.Greater o = is_gt o
holds relation.GreaterOrEqual o = is_ge o

-- of terms, by the standard order
unfoldable pub order_named : List ℕ → Option Relation
order_named f =
    if bytes_eq f (codes "==") then Some relation.Equal
    else if bytes_eq f (codes "\\==") then Some relation.NotEqual
    else if bytes_eq f (codes "@<") then Some relation.Less
    else if bytes_eq f (codes "@=<") then Some relation.LessOrEqual
    else if bytes_eq f (codes "@>") then Some relation.Greater
    else if bytes_eq f (codes "@>=") then Some relation.GreaterOrEqual
    else None

-- of the values of expressions
unfoldable pub comparison_named : List ℕ → Option Relation
comparison_named f =
    if bytes_eq f (codes "=:=") then Some relation.Equal
    else if bytes_eq f (codes "=\\=") then Some relation.NotEqual
    else if bytes_eq f (codes "<") then Some relation.Less
    else if bytes_eq f (codes "=<") then Some relation.LessOrEqual
    else if bytes_eq f (codes ">") then Some relation.Greater
    else if bytes_eq f (codes ">=") then Some relation.GreaterOrEqual
    else None

-- the faults of the values go from the left
abbrev pub compared : List ℕ → Relation → Value → Value → Outcome
compared f r (Ok x) (Ok y) = tested (holds r (int_cmp x y))
compared f r (Ok x) (Err e) = ball f 2 e
compared f r (Err d) w = ball f 2 d

abbrev pub order_name : Ordering → List ℕ
order_name Less = codes "<"
order_name Equal = codes "="
order_name Greater = codes ">"

abbrev pub is_order_name : List ℕ → Bool
is_order_name o = bytes_eq o (codes "<") || bytes_eq o (codes "=") || bytes_eq o (codes ">")

-- compare(O, T, U)
abbrev pub compares : Tree → Ordering → Outcome
compares (variable n) c = unifies (variable n) (atom (order_name c))
compares (atom o) c =
    if is_order_name o then unifies (atom o) (atom (order_name c)) else ball (codes "compare") 3 (domain_error (codes "order") (atom o))
compares o c = ball (codes "compare") 3 (type_error (codes "atom") o)

-- T is E
abbrev pub assigned : Tree → Value → Outcome
assigned t (Ok z) = unifies t (integer z)
assigned t (Err e) = ball (codes "is") 2 e

-- ---- terms made and taken apart (8.5)

-- so many variables, numbered from the next one
abbrev pub new_variables : (next many : ℕ) → List Tree
new_variables next zero = []
new_variables next (suc k) = variable next ∷ new_variables (next + 1) k

abbrev pub functor_ball : Tree → Outcome
functor_ball e = ball (codes "functor") 3 e

-- of this name or atomic term, with so many new variables
abbrev pub made : Tree → (name : Tree) → ℕ → (next : ℕ) → Outcome
made t n zero next = unifies t n
made t (atom f) (suc k) next = offer ((t, compound f (trees_of (new_variables next (suc k)))) ∷ []) (suc k)
made t n (suc k) next = functor_ball (type_error (codes "atom") n)

abbrev pub made_within : Tree → (name : Tree) → ℤ → (next : ℕ) → Outcome
made_within t n (negsuc k) next = functor_ball (domain_error (codes "not_less_than_zero") (integer (negsuc k)))
made_within t n (pos k) next = if nat_lt 1024 k then functor_ball (representation_error (codes "max_arity")) else made t n k next

-- functor(T, N, A) of a variable T
abbrev pub functor_made : Tree → (name arity : Tree) → (next : ℕ) → Outcome
functor_made t (variable n) a next = functor_ball instantiation_error
functor_made t n (variable a) next = functor_ball instantiation_error
functor_made t (compound f ts) a next = functor_ball (type_error (codes "atomic") (compound f ts))
functor_made t n (integer z) next = made_within t n z next
functor_made t n a next = functor_ball (type_error (codes "integer") a)

-- functor(T, N, A)
abbrev pub functor : Tree → (name arity : Tree) → (next : ℕ) → Outcome
functor (variable v) n a next = functor_made (variable v) n a next
functor (compound f ts) n a next = offer ((n, atom f) ∷ (a, integer (pos (arity ts))) ∷ []) 0
functor t n a next = offer ((n, t) ∷ (a, integer (pos 0)) ∷ []) 0

abbrev pub arg_ball : Tree → Outcome
arg_ball e = ball (codes "arg") 3 e

-- the argument of this place, counted from 1
abbrev pub argument : ℤ → List Tree → Tree → Outcome
argument (negsuc k) ts a = arg_ball (domain_error (codes "not_less_than_zero") (integer (negsuc k)))
argument (pos zero) ts a = fails
argument (pos (suc k)) ts a = elim (slice_get ts k) [ Some t ↦ unifies a t | None ↦ fails ]

-- arg(N, T, A)
abbrev pub arg : Tree → Tree → Tree → Outcome
arg (variable n) t a = arg_ball instantiation_error
arg n (variable t) a = arg_ball instantiation_error
arg (integer z) (compound f ts) a = argument z (tree_list ts) a
arg (integer z) t a = arg_ball (type_error (codes "compound") t)
arg n t a = arg_ball (type_error (codes "integer") n)

abbrev pub univ_ball : Tree → Outcome
univ_ball e = ball (codes "=..") 2 e

-- T is this term alone
abbrev pub univ_alone : Tree → Tree → Outcome
univ_alone t (variable n) = univ_ball instantiation_error
univ_alone t (compound f ts) = univ_ball (type_error (codes "atomic") (compound f ts))
univ_alone t h = unifies t h

-- T has this name and these arguments
abbrev pub univ_compound : Tree → Tree → List Tree → Outcome
univ_compound t (variable n) us = univ_ball instantiation_error
univ_compound t (atom f) us =
    if nat_lt 1024 (length us) then univ_ball (representation_error (codes "max_arity")) else unifies t (compound f (trees_of us))
univ_compound t h us = univ_ball (type_error (codes "atom") h)

abbrev pub univ_elements : Tree → List Tree → Outcome
univ_elements t [] = univ_ball (domain_error (codes "non_empty_list") empty_list)
univ_elements t (h ∷ []) = univ_alone t h
univ_elements t (h ∷ u ∷ us) = univ_compound t h (u ∷ us)

-- T =.. L of a variable T, by what follows the elements of L
abbrev pub univ_made : Tree → Tree → List Tree → (after : Tree) → Outcome
univ_made t l us (variable n) = univ_ball instantiation_error
univ_made t l us (atom f) = if bytes_eq f (codes "[]") then univ_elements t us else univ_ball (type_error (codes "list") l)
univ_made t l us r = univ_ball (type_error (codes "list") l)

-- T =.. L
abbrev pub univ : Tree → Tree → Outcome
univ (variable n) l = univ_made (variable n) l (elements l) (rest l)
univ (compound f ts) l = unifies l (list_of (atom f ∷ tree_list ts))
univ t l = unifies l (list_of (t ∷ []))

-- a copy with new variables
abbrev pub copy : (next : ℕ) → Tree → Tree
copy next t = renamed next (numbered t)

-- '$skip_list'(L, K, T): how many cells a term begins with, and what follows them
abbrev pub skip_list : Tree → Tree → Tree → Outcome
skip_list l k t = offer ((k, integer (pos (length (elements l)))) ∷ (t, rest l) ∷ []) 0

-- ---- by name

unfoldable pub of_two_lists : List ℕ → Tree → Tree → Outcome
of_two_lists f t u =
    if bytes_eq f (codes "msort") then msort t u
    else if bytes_eq f (codes "sort") then sort t u
    else if bytes_eq f (codes "keysort") then keysort t u
    else Unknown

unfoldable pub of_two_texts : List ℕ → Tree → Tree → Outcome
of_two_texts f t u =
    if bytes_eq f (codes "atom_length") then atom_length t u
    else if bytes_eq f (codes "char_code") then char_code t u
    else if bytes_eq f (codes "atom_chars") then atom_spelled Characters t u
    else if bytes_eq f (codes "atom_codes") then atom_spelled Codes t u
    else if bytes_eq f (codes "number_chars") then number_spelled Characters t u
    else if bytes_eq f (codes "number_codes") then number_spelled Codes t u
    else if bytes_eq f (codes "atom_number") then atom_number t u
    else of_two_lists f t u

unfoldable pub of_two_terms : List ℕ → Tree → Tree → (next : ℕ) → Outcome
of_two_terms f t u next =
    if bytes_eq f (codes "=") then unifies t u
    else if bytes_eq f (codes "unify_with_occurs_check") then unifies t u
    else if bytes_eq f (codes "is") then assigned t (value_of u)
    else if bytes_eq f (codes "=..") then univ t u
    else if bytes_eq f (codes "copy_term") then offer ((u, copy next t) ∷ []) (length (variables t))
    else if bytes_eq f (codes "term_variables") then unifies u (list_of (map variable (variables t)))
    else of_two_texts f t u

unfoldable pub of_two : List ℕ → Tree → Tree → (next : ℕ) → Outcome
of_two f t u next = elim (order_named f) [
  | Some r ↦ tested (holds r (tree_cmp t u))
  | None ↦ elim (comparison_named f) [ Some r ↦ compared f r (value_of t) (value_of u) | None ↦ of_two_terms f t u next ]
]

unfoldable pub of_three : List ℕ → Tree → Tree → Tree → (next : ℕ) → Outcome
of_three f t u v next =
    if bytes_eq f (codes "functor") then functor t u v next
    else if bytes_eq f (codes "arg") then arg t u v
    else if bytes_eq f (codes "compare") then compares t (tree_cmp u v)
    else if bytes_eq f (codes "atom_concat") then atom_concat t u v
    else if bytes_eq f (codes "$skip_list") then skip_list t u v
    else if bytes_eq f (codes "plus") then plus t u v
    else Unknown

unfoldable pub of_four : List ℕ → Tree → Tree → Tree → Tree → Outcome
of_four f t u v w =
    if bytes_eq f (codes "divmod") then divmod t u v w
    else Unknown

unfoldable pub of_five : List ℕ → Tree → Tree → Tree → Tree → Tree → Outcome
of_five f t u v w x =
    if bytes_eq f (codes "sub_atom") then sub_atom t (record { before = u; len = v; after = w; part = x })
    else Unknown

-- the primitive of this name on these arguments, under the present substitution; new variables are numbered from the next one
unfoldable pub primitive : List ℕ → List Tree → (next : ℕ) → Outcome
primitive f (t ∷ []) next = of_one f t
primitive f (t ∷ u ∷ []) next = of_two f t u next
primitive f (t ∷ u ∷ v ∷ []) next = of_three f t u v next
primitive f (t ∷ u ∷ v ∷ w ∷ []) next = of_four f t u v w
primitive f (t ∷ u ∷ v ∷ w ∷ x ∷ []) next = of_five f t u v w x
primitive f ts next = Unknown
