-- What each piece of a written term is, and the tokens that it is read as (ISO/IEC 13211-1, 6.4).
use Rattle.std.specs.Prelude.{◌≡◌, ℕ, suc, ◌<◌, ◌-◌, ◌^◌, ◌||◌, ℤ, pos, negsuc, Bool, true, false, not, cond, List, [], ◌∷◌, ◌++◌, is_some, codes, bytes_eq, ⊤}
use Rattle.std.specs.Char.{is_ascii_lowercase}
use Rattle.std.specs.Fmt.{signed_decimal}
use Rattle.std.specs.Str.{IsUtf8}
use Rattle.op_table.specs.Table.{row, iso_prefix, iso_infix}
use Rattle.prolog_grammar.specs.declared.grammar.lexeme.Word.{Word}
use Rattle.prolog_grammar.specs.declared.grammar.lexeme.Lexeme.{Lexeme}
use Rattle.prolog_grammar.specs.declared.grammar.lexeme.Lexeme.TheVariants.{Name, Integer, Variable, Open, Close, OpenList, CloseList, OpenCurly, CloseCurly, Comma, Bar}
use Rattle.prolog_write.specs.declared.mode.Mode.{Mode}
use Rattle.prolog_write.specs.Text.{Piece, piece, variable_piece, prefix_piece, infix_piece, atom_text, first}
use Rattle.read_back.specs.Sound.{IsSized}

-- brackets, the comma between arguments or elements, and the bar of a list
pub data Mark : Type 0 where
  open_round : Mark
  close_round : Mark
  open_square : Mark
  close_square : Mark
  open_curly : Mark
  close_curly : Mark
  comma : Mark
  bar : Mark

pub data Item : Type 0 where
  variable_item : ℕ → Item
  integer_item : ℤ → Item
  -- an atom, or a functor before its open bracket
  name_item : List ℕ → Item
  mark_item : Mark → Item
  -- an operator before its operand, and one between its operands
  prefix_item : List ℕ → Item
  infix_item : List ℕ → Item

-- ---- its piece

abbrev pub mark_text : Mark → List ℕ
mark_text open_round = codes "("
mark_text close_round = codes ")"
mark_text open_square = codes "["
mark_text close_square = codes "]"
mark_text open_curly = codes "{"
mark_text close_curly = codes "}"
mark_text comma = codes ","
mark_text bar = codes "|"

abbrev pub piece_of : Mode → Item → Piece
piece_of m (variable_item n) = variable_piece n
piece_of m (integer_item z) = piece (signed_decimal z)
piece_of m (name_item f) = piece (atom_text m f)
piece_of m (mark_item k) = piece (mark_text k)
piece_of m (prefix_item f) = prefix_piece f
piece_of m (infix_item f) = infix_piece f

-- ---- its tokens

-- the name's token; the minus is never quoted
abbrev pub word : List ℕ → Word
word f = record { text = f; is_minus = bytes_eq f (codes "-") }

abbrev pub mark_lexeme : Bool → Mark → Lexeme
mark_lexeme d open_round = Open d
mark_lexeme d close_round = Close
mark_lexeme d open_square = OpenList
mark_lexeme d close_square = CloseList
mark_lexeme d open_curly = OpenCurly
mark_lexeme d close_curly = CloseCurly
mark_lexeme d comma = Comma
mark_lexeme d bar = Bar

-- a negative integer is a minus and the digits directly behind it
abbrev pub integer_lexemes : Bool → ℤ → List Lexeme
integer_lexemes d (pos n) = Integer n d ∷ []
integer_lexemes d (negsuc n) = Name (word (codes "-")) ∷ Integer (suc n) true ∷ []

-- the comma as an operator is no name
abbrev pub infix_lexeme : List ℕ → Lexeme
infix_lexeme f = cond (bytes_eq f (codes ",")) Comma (Name (word f))

-- whether a bracket or a digit would stand directly behind the item: not behind an operator before its operand, nor behind one of letters
abbrev pub is_tight : Item → Bool
is_tight (prefix_item f) = false
is_tight (infix_item f) = not (is_ascii_lowercase (first f))
is_tight _ = true

-- the key of each variable
module _ (key : ℕ → ℕ) where
  -- the tokens of an item, and whether the first stands directly behind the token before it
  abbrev pub item_lexemes : Bool → Item → List Lexeme
  item_lexemes d (variable_item n) = Variable (key n) ∷ []
  item_lexemes d (integer_item z) = integer_lexemes d z
  item_lexemes d (name_item f) = Name (word f) ∷ []
  item_lexemes d (mark_item k) = mark_lexeme d k ∷ []
  item_lexemes d (prefix_item f) = Name (word f) ∷ []
  item_lexemes d (infix_item f) = infix_lexeme f ∷ []

  -- of items from left to right
  unfoldable pub lexemes : Bool → List Item → List Lexeme
  lexemes d [] = []
  lexemes d (x ∷ xs) = item_lexemes d x ++ lexemes (is_tight x) xs

-- the variables' numbers from left to right
unfoldable pub item_variables : List Item → List ℕ
item_variables [] = []
item_variables (variable_item n ∷ xs) = n ∷ item_variables xs
item_variables (x ∷ xs) = item_variables xs

-- ---- open brackets

abbrev pub is_opening : Mark → Bool
is_opening open_round = true
is_opening open_square = true
is_opening open_curly = true
is_opening _ = false

abbrev pub is_closing : Mark → Bool
is_closing close_round = true
is_closing close_square = true
is_closing close_curly = true
is_closing _ = false

-- a name that is two brackets
abbrev pub is_brackets : List ℕ → Bool
is_brackets f = bytes_eq f (codes "[]") || bytes_eq f (codes "{}")

-- how many are open behind an item, where n were before it
abbrev pub open_behind : ℕ → Item → ℕ
open_behind n (mark_item k) = cond (is_opening k) (suc n) (cond (is_closing k) (n - 1) n)
open_behind n _ = n

-- how many are open with each of its tokens, its own among them
abbrev pub integer_brackets : ℕ → ℤ → List ℕ
integer_brackets n (pos k) = n ∷ []
integer_brackets n (negsuc k) = n ∷ n ∷ []

abbrev pub item_brackets : ℕ → Item → List ℕ
item_brackets n (integer_item z) = integer_brackets n z
item_brackets n (name_item f) = cond (is_brackets f) (suc n) n ∷ []
item_brackets n (mark_item k) = cond (is_opening k) (suc n) n ∷ []
item_brackets n _ = n ∷ []

-- of items from left to right
unfoldable pub brackets : ℕ → List Item → List ℕ
brackets n [] = []
brackets n (x ∷ xs) = item_brackets n x ++ brackets (open_behind n x) xs

-- ---- items side by side

-- numbers have their sizes, names are text, and operators are those of the standard's table
abbrev pub IsItem : Item → Type 0
IsItem (variable_item n) = n < 2 ^ 64
IsItem (integer_item z) = IsSized z
IsItem (name_item f) = IsUtf8 f
IsItem (prefix_item f) = is_some (row f iso_prefix) ≡ true
IsItem (infix_item f) = is_some (row f iso_infix) ≡ true
IsItem _ = ⊤

-- an item that goes on behind an operand or a functor
abbrev pub goes_on : Item → Bool
goes_on (mark_item k) = true
goes_on (infix_item f) = true
goes_on _ = false

abbrev pub is_close_square : Item → Bool
is_close_square (mark_item close_square) = true
is_close_square _ = false

abbrev pub is_close_curly : Item → Bool
is_close_curly (mark_item close_curly) = true
is_close_curly _ = false

-- two operands never stand side by side, and no list or curly term is empty
abbrev pub may_follow : Item → Item → Bool
may_follow (variable_item n) y = goes_on y
may_follow (integer_item z) y = goes_on y
may_follow (name_item f) y = goes_on y
may_follow (mark_item open_square) y = not (is_close_square y)
may_follow (mark_item open_curly) y = not (is_close_curly y)
may_follow _ y = true

abbrev pub FollowedBy : Item → List Item → Type 0
FollowedBy x [] = ⊤
FollowedBy x (y ∷ ys) = may_follow x y ≡ true

unfoldable pub AreApart : List Item → Type 0
AreApart [] = ⊤
AreApart (x ∷ xs) = IsItem x × FollowedBy x xs × AreApart xs
