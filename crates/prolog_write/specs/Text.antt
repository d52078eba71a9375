-- The text of a term (ISO 13211-1, 7.10.5): its pieces from left to right, and the spaces between them.
use Rattle.std.specs.Prelude.{ℕ, ◌/◌, ◌%◌, ◌+◌, Bool, true, false, not, ◌&&◌, ◌||◌, ◌==◌, nat_lt, cond, List, [], ◌∷◌, ◌++◌, ◌-◌, length, slice_index, Option, Some, None, is_some, codes, bytes_eq, decimal}
use Rattle.std.specs.List.{list_all, list_any, flat_map}
use Rattle.std.specs.Char.{is_ascii_digit, is_ascii_lowercase, is_ascii_alphanumeric}
use Rattle.std.specs.Fmt.{signed_decimal}
use Rattle.term_core.specs.Tree.{Tree, variable, integer, atom, compound, Trees, no_trees, tree, arity}
use Rattle.op_table.specs.declared.op.Op.{Op}
use Rattle.op_table.specs.Table.{row, iso_prefix, iso_infix, left_of, right_of}
use Rattle.prolog_write.specs.declared.mode.Mode.{Mode}
use Rattle.prolog_write.specs.declared.mode.Mode.TheVariants.{Plain, Quoted, Canonical}
use Rattle.prolog_write.specs.declared.place.Place.{Place}
use Rattle.prolog_write.specs.declared.place.Place.TheVariants.{Whole, Argument, Operand}
use Rattle.prolog_write.specs.declared.form.Form.{Form}
use Rattle.prolog_write.specs.declared.form.Form.TheVariants.{Curly, Cell, Prefix, Infix, Call}
use Prim.Native.String.{String}

-- ---- characters, as bytes of UTF-8

unfoldable pub is_symbol : ℕ → Bool
is_symbol c = list_any (λ s. s == c) (codes "+-*/\\^<>=~:.?@#&$")

-- a letter, a digit or _
unfoldable pub is_word : ℕ → Bool
is_word c = is_ascii_alphanumeric c || c == 95

-- 0 where there is none
abbrev pub first : List ℕ → ℕ
first cs = slice_index cs 0

abbrev pub last : List ℕ → ℕ
last cs = slice_index cs (length cs - 1)

-- ---- atoms

-- a small letter with letters, digits and _
abbrev pub is_word_atom : List ℕ → Bool
is_word_atom f = is_ascii_lowercase (first f) && list_all is_word f

abbrev pub opens_comment : List ℕ → Bool
opens_comment f = slice_index f 0 == 47 && slice_index f 1 == 42

-- one or more symbol characters, that are no end and open no comment
abbrev pub is_symbol_atom : List ℕ → Bool
is_symbol_atom f = is_symbol (first f) && list_all is_symbol f && not (bytes_eq f (codes ".")) && not (opens_comment f)

abbrev pub is_solo_atom : List ℕ → Bool
is_solo_atom f = bytes_eq f (codes "[]") || bytes_eq f (codes "{}") || bytes_eq f (codes "!") || bytes_eq f (codes ";")

unfoldable pub is_bare : List ℕ → Bool
is_bare f = is_word_atom f || is_symbol_atom f || is_solo_atom f

abbrev pub hex_digit : ℕ → ℕ
hex_digit d = cond (nat_lt d 10) (48 + d) (87 + d)

-- the hexadecimal digits of a byte, without a leading zero
abbrev pub hex_digits : ℕ → List ℕ
hex_digits c = cond (nat_lt c 16) (hex_digit c ∷ []) (hex_digit (c / 16) ∷ hex_digit (c % 16) ∷ [])

-- a byte of a name within quotes
unfoldable pub escaped : ℕ → List ℕ
escaped c =
    cond (c == 92) (codes "\\\\")
    (cond (c == 39) (codes "\\'")
    (cond (c == 10) (codes "\\n")
    (cond (c == 9) (codes "\\t")
    (cond (nat_lt c 32 || c == 127) (codes "\\x" ++ hex_digits c ++ codes "\\") (c ∷ [])))))

abbrev pub quoted : List ℕ → List ℕ
quoted f = 39 ∷ (flat_map escaped f ++ 39 ∷ [])

-- whether an atom stands without quotes
abbrev pub stands_bare : Mode → List ℕ → Bool
stands_bare Plain f = true
stands_bare Quoted f = is_bare f
stands_bare Canonical f = is_bare f

abbrev pub atom_text : Mode → List ℕ → List ℕ
atom_text m f = cond (stands_bare m f) f (quoted f)

-- ---- pieces

-- what is written without a space in it, and whether it is an operator before its operand
pub record Piece : Type 0 where
  pub text : List ℕ
  pub is_prefix : Bool

abbrev pub piece : List ℕ → Piece
piece t = record { text = t; is_prefix = false }

abbrev pub mark : String → Piece
mark s = piece (codes s)

abbrev pub variable_piece : ℕ → Piece
variable_piece n = piece (95 ∷ decimal n)

-- an operator before its operand
abbrev pub prefix_piece : List ℕ → Piece
prefix_piece f = record { text = f; is_prefix = true }

-- an operator between its operands, where one of letters has a space on each side
abbrev pub infix_piece : List ℕ → Piece
infix_piece f = piece (cond (is_ascii_lowercase (first f)) (32 ∷ (f ++ 32 ∷ [])) f)

abbrev pub in_brackets : Bool → List Piece → List Piece
in_brackets b ps = cond b (mark "(" ∷ (ps ++ mark ")" ∷ [])) ps

-- ---- terms

unfoldable pub is_operator : List ℕ → Bool
is_operator f = is_some (row f iso_prefix) || is_some (row f iso_infix)

abbrev pub is_operand : Place → Bool
is_operand Whole = false
is_operand Argument = false
is_operand (Operand p) = true

-- the greatest priority of an operator that needs no brackets there
abbrev pub most : Place → ℕ
most Whole = 1200
most Argument = 999
most (Operand p) = p

abbrev pub operators : Mode → Option Op → Option Op
operators Canonical o = None
operators Plain o = o
operators Quoted o = o

abbrev pub form_of_one : Option Op → Form
form_of_one None = Call
form_of_one (Some o) = Prefix o

abbrev pub form_of_two : Option Op → Form
form_of_two None = Call
form_of_two (Some o) = Infix o

-- how a compound of this name and so many arguments is written
unfoldable pub form : Mode → List ℕ → ℕ → Form
form m f k =
    cond (k == 1) (cond (bytes_eq f (codes "{}")) Curly (form_of_one (operators m (row f iso_prefix))))
    (cond (k == 2) (cond (bytes_eq f (codes ".")) Cell (form_of_two (operators m (row f iso_infix)))) Call)

-- what ends a list that has this rest after a |
abbrev pub after_bar : (Place → List Piece) → List Piece
after_bar alone = mark "|" ∷ (alone Argument ++ mark "]" ∷ [])

abbrev mutual
  pub pieces : Mode → Tree → Place → List Piece
  pieces m (variable n) at = variable_piece n ∷ []
  pieces m (integer z) at = piece (signed_decimal z) ∷ []
  pieces m (atom f) at = in_brackets (is_operand at && is_operator f) (piece (atom_text m f) ∷ [])
  pieces m (compound f ts) at = by_form m (form m f (arity ts)) f ts at

  pub by_form : Mode → Form → List ℕ → Trees → Place → List Piece
  by_form m Call f (tree t ts) at = piece (atom_text m f) ∷ mark "(" ∷ (pieces m t Argument ++ more_arguments m ts)
  by_form m Curly f (tree t ts) at = mark "{" ∷ (pieces m t Whole ++ mark "}" ∷ [])
  by_form m Cell f (tree t (tree u us)) at = mark "[" ∷ (pieces m t Argument ++ rest_of_list m u (pieces m u))
  by_form m (Prefix o) f (tree t ts) at = in_brackets (nat_lt (most at) o.priority) (prefix_piece f ∷ pieces m t (Operand (right_of o)))
  by_form m (Infix o) f (tree t (tree u us)) at =
      in_brackets (nat_lt (most at) o.priority) (pieces m t (Operand (left_of o)) ++ infix_piece f ∷ pieces m u (Operand (right_of o)))
  by_form m _ f _ at = []

  -- arguments behind others, and the closing bracket
  pub more_arguments : Mode → Trees → List Piece
  more_arguments m no_trees = mark ")" ∷ []
  more_arguments m (tree t ts) = mark "," ∷ (pieces m t Argument ++ more_arguments m ts)

  -- what stands behind an element of a list, where `alone` is the rest as a term by itself
  pub rest_of_list : Mode → Tree → (Place → List Piece) → List Piece
  rest_of_list m (variable n) alone = after_bar alone
  rest_of_list m (integer z) alone = after_bar alone
  rest_of_list m (atom f) alone = cond (bytes_eq f (codes "[]")) (mark "]" ∷ []) (after_bar alone)
  rest_of_list m (compound f ts) alone = rest_by_form m (form m f (arity ts)) ts alone

  pub rest_by_form : Mode → Form → Trees → (Place → List Piece) → List Piece
  rest_by_form m Cell (tree t (tree u us)) alone = mark "," ∷ (pieces m t Argument ++ rest_of_list m u (pieces m u))
  rest_by_form m _ ts alone = after_bar alone

-- ---- spaces

-- whether a space stands between a piece that ends in this character, a prefix operator or not, and one that begins with d
unfoldable pub is_spaced : ℕ → Bool → ℕ → Bool
is_spaced c is_prefix d =
    (is_prefix && (d == 40 || is_ascii_digit d)) || (is_symbol c && is_symbol d) || (is_word c && is_word d)

-- the text of pieces behind a piece that ends in this character
abbrev pub behind : ℕ → Bool → List Piece → List ℕ
behind c is_prefix [] = []
behind c is_prefix (p ∷ ps) =
    cond (is_spaced c is_prefix (first p.text)) (32 ∷ []) [] ++ (p.text ++ behind (last p.text) p.is_prefix ps)

-- the text of a term that stands at a place
abbrev pub text_at : Place → Mode → Tree → List ℕ
text_at at m t = behind 0 false (pieces m t at)

-- by itself
abbrev pub text : Mode → Tree → List ℕ
text m t = text_at Whole m t

-- as an argument
abbrev pub argument_text : Mode → Tree → List ℕ
argument_text m t = text_at Argument m t
