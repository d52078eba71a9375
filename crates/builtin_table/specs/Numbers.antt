-- Integers as texts (ISO/IEC 13211-1, 8.16.7 and 8.16.8): optional layout, an optional `-` and an integer token.
use Rattle.std.specs.Prelude.{ℕ, ℤ, pos, ◌-ℤ◌, Bool, false, ◌&&◌, ◌==◌, if◌then◌else◌, List, [], ◌∷◌, length, Option, Some, None, Result, Ok, Err, slice_range, codes, bytes_eq}
use Rattle.std.specs.Str.{chars, encode_utf8_all}
use Rattle.std.specs.Fmt.{signed_decimal}
use Rattle.term_core.specs.Tree.{Tree, variable, integer, atom}
use Rattle.term_core.specs.Tokens as lexical
use Rattle.prolog_lex.specs.Lexed.{tokens_of}
use Rattle.builtin_table.specs.declared.spelling.Spelling.{Spelling}
use Rattle.builtin_table.specs.declared.spelling.Spelling.TheVariants.{Characters, Codes}
use Rattle.builtin_table.specs.Arithmetic.{fits}
use Rattle.builtin_table.specs.Errors.{instantiation_error, type_error, syntax_error}
use Rattle.builtin_table.specs.Lists.{elements, is_list, bound}
use Rattle.builtin_table.specs.Outcomes.{Outcome, unifies, fails, ball}
use Rattle.builtin_table.specs.Texts.{joined, character_terms}

-- ---- the integer that a text spells

abbrev pub value_at : (text : List ℕ) → lexical.Token → lexical.Value
value_at text t = lexical.value t.kind (chars (slice_range text t.from t.to))

abbrev pub in_range : ℤ → Option ℤ
in_range z = if fits z then Some z else None

abbrev pub positive : lexical.Value → Option ℤ
positive (lexical.integer_value n) = in_range (pos n)
positive v = None

abbrev pub negative : lexical.Value → Option ℤ
negative (lexical.integer_value n) = in_range (pos 0 -ℤ pos n)
negative v = None

-- a name without quotes that is `-`
abbrev pub is_minus : lexical.Kind → lexical.Value → Bool
is_minus lexical.name_token (lexical.name_value f) = bytes_eq f (codes "-")
is_minus k v = false

-- a minus is directly before its integer, and nothing is behind an integer
abbrev pub integer_of : (text : List ℕ) → lexical.Tokens → Option ℤ
integer_of text (Ok (t ∷ [])) = if t.to == length text then positive (value_at text t) else None
integer_of text (Ok (s ∷ t ∷ [])) = if is_minus s.kind (value_at text s) && s.to == t.from && t.to == length text then negative (value_at text t) else None
integer_of text ts = None

unfoldable pub spelled_integer : (text : List ℕ) → Option ℤ
spelled_integer text = integer_of text (tokens_of text)

-- ---- number_chars(N, L) and number_codes(N, L)

abbrev pub number_ball : Spelling → Tree → Outcome
number_ball Characters e = ball (codes "number_chars") 2 e
number_ball Codes e = ball (codes "number_codes") 2 e

abbrev pub illegal_number : Spelling → Outcome
illegal_number k = number_ball k (syntax_error (codes "illegal_number"))

abbrev pub number_joined : Spelling → (n : Tree) → Result (List ℕ) Tree → Outcome
number_joined k n (Ok cs) = elim (spelled_integer (encode_utf8_all cs)) [ Some z ↦ unifies n (integer z) | None ↦ illegal_number k ]
number_joined k n (Err t) = illegal_number k

-- of the elements of a list
abbrev pub number_made : Spelling → (n : Tree) → Result (List Tree) Tree → Outcome
number_made k n (Ok ts) = number_joined k n (joined k ts)
number_made k n (Err e) = number_ball k e

-- the text of N, where L is no list
abbrev pub number_text : Spelling → (n l : Tree) → Outcome
number_text k (variable v) l = number_ball k instantiation_error
number_text k (integer z) l = unifies l (character_terms k (signed_decimal z))
number_text k n l = number_ball k (type_error (codes "integer") n)

abbrev pub number_spelled : Spelling → Tree → Tree → Outcome
number_spelled k n l = if is_list l then number_made k n (bound (Ok (elements l))) else number_text k n l

-- ---- atom_number(A, N)

abbrev pub atom_number_ball : Tree → Outcome
atom_number_ball e = ball (codes "atom_number") 2 e

-- of a variable A
abbrev pub atom_of_number : (a n : Tree) → Outcome
atom_of_number a (variable v) = atom_number_ball instantiation_error
atom_of_number a (integer z) = unifies a (atom (signed_decimal z))
atom_of_number a n = atom_number_ball (type_error (codes "integer") n)

abbrev pub atom_number : Tree → Tree → Outcome
atom_number (variable v) n = atom_of_number (variable v) n
atom_number (atom f) n = elim (spelled_integer f) [ Some z ↦ unifies n (integer z) | None ↦ fails ]
atom_number a n = atom_number_ball (type_error (codes "atom") a)
