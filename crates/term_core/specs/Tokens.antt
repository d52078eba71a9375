-- The tokens of a text (ISO/IEC 13211-1, 6.4) over its characters (6.5), here with names past ASCII.
-- A text is the list of its characters. A place is a number of bytes of UTF-8 from the start of the text.
use Rattle.std.specs.Prelude.{ℕ, zero, suc, ◌+◌, ◌-◌, ◌*◌, ◌^◌, Bool, true, false, not, ◌&&◌, ◌||◌, ◌==◌, nat_lt, List, [], ◌∷◌, length, take, drop, fold, option_map, Option, Some, None, Result, Ok, Err, if◌then◌else◌, slice_index, codes}
use Rattle.std.specs.List.{prefix_len}
use Rattle.std.specs.Char.{is_whitespace, is_digit, digit_value, is_ascii_digit, is_ascii_lowercase, is_ascii_uppercase, is_ascii_alphanumeric, len_utf8}
use Rattle.std.specs.Str.{encode_utf8_all, byte}
use lib.Utf8.{scalar}

abbrev pub Text : Type 0
Text = List ℕ

-- The kinds of token: names bare and in quotes, variables, integers, texts in double quotes, the punctuation, the end.
pub data Kind : Type 0 where
  name_token : Kind
  quoted_token : Kind
  variable_token : Kind
  integer_token : Kind
  text_token : Kind
  open_token : Kind
  close_token : Kind
  open_list_token : Kind
  close_list_token : Kind
  open_curly_token : Kind
  close_curly_token : Kind
  comma_token : Kind
  bar_token : Kind
  end_token : Kind

-- Why there is no token: a character that begins none, or a bad escape; quotes or a comment without an end;
-- a number with a fraction; an integer above 2^127.
pub data Reason : Type 0 where
  bad_char : Reason
  unclosed : Reason
  float_number : Reason
  out_of_range : Reason

-- What stands at the front of a text: so many characters of layout, a token of so many characters,
-- or a fault after so many characters.
pub data Front : Type 0 where
  layout : ℕ → Front
  token : Kind → ℕ → Front
  fault : Reason → ℕ → Front

-- What stands in quotes, and its number of characters: a character, a line that goes on, a bad escape, or the closing quote.
pub data Part : Type 0 where
  character : ℕ → ℕ → Part
  joint : ℕ → Part
  refused : ℕ → Part
  closing : Part

-- ---- characters (6.5)

abbrev pub is_among : ℕ → List ℕ → Bool
is_among c [] = false
is_among c (d ∷ ds) = c == d || is_among c ds

unfoldable pub is_symbol : ℕ → Bool
is_symbol c = is_among c (codes "+-*/\\^<>=~:.?@#&$")

abbrev pub begins_variable : ℕ → Bool
begins_variable c = is_ascii_uppercase c || c == byte "_"

-- ---- layout (6.4.1)

-- the first character and those of the rest of its line
abbrev pub line_comment : Text → ℕ
line_comment t = 1 + prefix_len (λ c. not (c == 10)) (drop 1 t)

-- the characters of a comment from behind its `/*` up to and with its `*/`
abbrev pub comment_end : Text → Option ℕ
comment_end [] = None
comment_end (c ∷ t) = if c == byte "*" && slice_index t 0 == byte "/" then Some 2 else option_map suc (comment_end t)

abbrev pub commented : Option ℕ → Front
commented None = fault unclosed 0
commented (Some n) = layout (2 + n)

-- ---- digits (6.4.4)

-- how many digits stand at the front of a text
abbrev pub digits : ℕ → Text → ℕ
digits radix t = prefix_len (λ c. is_digit c radix) t

-- the number that digits write
abbrev pub value_in : ℕ → Text → ℕ
value_in radix ds = fold (λ n d. n * radix + digit_value d) 0 ds

-- ---- quotes (6.4.2)

-- an escape by the number of its character: so many characters, then digits, then a backslash
unfoldable pub numbered : ℕ → ℕ → Text → Part
numbered before radix t =
    let n = digits radix (drop before t) in
    let c = value_in radix (take n (drop before t)) in
    if n == 0 then refused before
    else if not (slice_index t (before + n) == byte "\\") then refused (before + n)
    else if scalar c then character c (before + n + 1)
    else refused (before + n + 1)

-- an escape of a text that begins with a backslash
unfoldable pub escape : Text → Part
escape t =
    let c = slice_index t 1 in
    if length t == 1 then refused 1
    else if c == byte "a" then character 7 2
    else if c == byte "b" then character 8 2
    else if c == byte "f" then character 12 2
    else if c == byte "n" then character 10 2
    else if c == byte "r" then character 13 2
    else if c == byte "t" then character 9 2
    else if c == byte "v" then character 11 2
    else if is_among c (codes "\\'\"`") then character c 2
    else if c == 10 then joint 2
    else if c == byte "x" then numbered 2 16 t
    else if is_digit c 8 then numbered 1 8 t
    else refused 2

-- what stands at the front of a text within quotes
unfoldable pub part : ℕ → Text → Part
part quote t =
    let c = slice_index t 0 in
    if c == quote then (if slice_index t 1 == quote then character quote 2 else closing)
    else if c == byte "\\" then escape t
    else character c 1

abbrev pub part_len : Part → ℕ
part_len (character c n) = n
part_len (joint n) = n
part_len (refused n) = n
part_len closing = 1

abbrev pub begun : Part → List Part → List Part
begun closing ps = closing ∷ []
begun (character c n) ps = character c n ∷ ps
begun (joint n) ps = joint n ∷ ps
begun (refused n) ps = refused n ∷ ps

-- What stands in quotes, up to and with the closing one where it comes. So many characters belong to a part before.
unfoldable pub parts : ℕ → ℕ → Text → List Part
parts quote skip [] = []
parts quote (suc skip) (c ∷ t) = parts quote skip t
parts quote zero (c ∷ t) = begun (part quote (c ∷ t)) (parts quote (part_len (part quote (c ∷ t)) - 1) t)

-- the closing quote comes
abbrev pub is_closed : List Part → Bool
is_closed [] = false
is_closed (closing ∷ ps) = true
is_closed (p ∷ ps) = is_closed ps

abbrev pub parts_len : List Part → ℕ
parts_len [] = 0
parts_len (p ∷ ps) = part_len p + parts_len ps

-- how many characters stand before the first bad escape
abbrev pub first_refused : List Part → Option ℕ
first_refused [] = None
first_refused (refused n ∷ ps) = Some 0
first_refused (p ∷ ps) = option_map (λ m. part_len p + m) (first_refused ps)

abbrev pub characters_of : List Part → Text
characters_of [] = []
characters_of (character c n ∷ ps) = c ∷ characters_of ps
characters_of (p ∷ ps) = characters_of ps

abbrev pub closed : Kind → ℕ → Option ℕ → Front
closed kind n None = token kind n
closed kind n (Some m) = fault bad_char m

-- the token that these parts end, unless one of them is a bad escape
abbrev pub enclosed : Kind → List Part → Front
enclosed kind ps = if is_closed ps then closed kind (1 + parts_len ps) (option_map (λ m. 1 + m) (first_refused ps)) else fault unclosed 0

-- what stands in quotes, of a text that begins with the opening one
abbrev pub inside : ℕ → Text → List Part
inside quote t = parts quote 0 (drop 1 t)

-- a text that begins with a quote
unfoldable pub quoted : ℕ → Kind → Text → Front
quoted quote kind t = enclosed kind (inside quote t)

-- the characters that quotes hold
unfoldable pub held : ℕ → Text → Text
held quote t = characters_of (inside quote t)

-- ---- integers (6.4.4)

abbrev pub greatest_integer : ℕ
greatest_integer = 2 ^ 127

abbrev pub character_or_0 : Part → ℕ
character_or_0 (character c n) = c
character_or_0 _ = 0

-- the value of an integer token
unfoldable pub integer : Text → ℕ
integer s =
    let c = slice_index s 1 in
    if c == byte "x" then value_in 16 (drop 2 s)
    else if c == byte "o" then value_in 8 (drop 2 s)
    else if c == byte "b" then value_in 2 (drop 2 s)
    else if c == byte "'" then character_or_0 (part (byte "'") (drop 2 s))
    else value_in 10 s

-- so many characters are an integer, where it is in range
abbrev pub counted : ℕ → Text → Front
counted n t = if nat_lt greatest_integer (integer (take n t)) then fault out_of_range 0 else token integer_token n

-- an integer of decimal digits, at the front of a text that begins with one
abbrev pub decimal : Text → Front
decimal t =
    let n = 1 + digits 10 (drop 1 t) in
    if slice_index t n == byte "." && is_ascii_digit (slice_index t (n + 1)) then fault float_number 0 else counted n t

-- an integer by the character behind its `0'`, where one stands there as it would in quotes
abbrev pub coded : Part → Text → Front
coded (character c n) t = counted (2 + n) t
coded (joint n) t = fault bad_char 2
coded (refused n) t = fault bad_char 2
coded closing t = decimal t

-- an integer of the digits behind `0x` or the like, where some stand there
abbrev pub in_radix : ℕ → Text → Front
in_radix radix t = let n = digits radix (drop 2 t) in if n == 0 then decimal t else counted (2 + n) t

-- a text that begins with a digit
unfoldable pub number : Text → Front
number t =
    let c = slice_index t 1 in
    if not (slice_index t 0 == byte "0") then decimal t
    else if c == byte "x" then in_radix 16 t
    else if c == byte "o" then in_radix 8 t
    else if c == byte "b" then in_radix 2 t
    else if c == byte "'" && nat_lt 2 (length t) then coded (part (byte "'") (drop 2 t)) t
    else decimal t

-- ---- punctuation (6.4.8)

-- a full stop before layout, `%` or the end of the text
abbrev pub is_end : Text → Bool
is_end t = slice_index t 0 == byte "." && (length t == 1 || is_whitespace (slice_index t 1) || slice_index t 1 == byte "%")

unfoldable pub mark : ℕ → Front
mark c =
    if c == byte "(" then token open_token 1
    else if c == byte ")" then token close_token 1
    else if c == byte "[" then token open_list_token 1
    else if c == byte "]" then token close_list_token 1
    else if c == byte "{" then token open_curly_token 1
    else if c == byte "}" then token close_curly_token 1
    else if c == byte "," then token comma_token 1
    else if c == byte "|" then token bar_token 1
    else if c == byte "!" || c == byte ";" then token name_token 1
    else fault bad_char 0

-- ---- the value of a token

-- The bytes of a name or of a variable, as terms have them; an integer; the characters of a text.
pub data Value : Type 0 where
  name_value : List ℕ → Value
  variable_value : List ℕ → Value
  integer_value : ℕ → Value
  text_value : Text → Value
  no_value : Value

-- of a token of this kind with these characters
abbrev pub value : Kind → Text → Value
value name_token s = name_value (encode_utf8_all s)
value quoted_token s = name_value (encode_utf8_all (held (byte "'") s))
value variable_token s = variable_value (encode_utf8_all s)
value integer_token s = integer_value (integer s)
value text_token s = text_value (held (byte "\"") s)
value _ s = no_value

-- ---- tokens

-- from the place `from` up to the place `to`
pub record Token : Type 0 where
  pub kind : Kind
  pub from : ℕ
  pub to : ℕ

pub record Fault : Type 0 where
  pub reason : Reason
  pub at : ℕ

abbrev pub Tokens : Type 0
Tokens = Result (List Token) Fault

-- how many bytes the characters take
abbrev pub size : Text → ℕ
size [] = 0
size (c ∷ t) = len_utf8 c + size t

abbrev pub extent : Front → ℕ
extent (layout n) = n
extent (token kind n) = n
extent (fault reason n) = 1

abbrev pub with_token : Token → Tokens → Tokens
with_token x (Ok xs) = Ok (x ∷ xs)
with_token x (Err e) = Err e

-- what stands at the place `at`, before the tokens of the rest
abbrev pub found : ℕ → Text → Front → Tokens → Tokens
found at t (layout n) rest = rest
found at t (token kind n) rest = with_token (record { kind = kind; from = at; to = at + size (take n t) }) rest
found at t (fault reason n) rest = Err (record { reason = reason; at = at + size (take n t) })

-- which characters past ASCII may begin a name, and which may go on in a name or a variable
module _ (is_start is_continue : ℕ → Bool) where
  unfoldable pub begins_name : ℕ → Bool
  begins_name c = if nat_lt c 128 then is_ascii_lowercase c else is_start c

  unfoldable pub continues : ℕ → Bool
  continues c = if nat_lt c 128 then is_ascii_alphanumeric c || c == byte "_" else is_continue c

  abbrev pub word : Text → ℕ
  word t = 1 + prefix_len continues (drop 1 t)

  -- what stands at the front of a text that isn't empty
  unfoldable pub front : Text → Front
  front t =
      let c = slice_index t 0 in
      if is_whitespace c then layout 1
      else if c == byte "%" then layout (line_comment t)
      else if c == byte "/" && slice_index t 1 == byte "*" then commented (comment_end (drop 2 t))
      else if begins_name c then token name_token (word t)
      else if begins_variable c then token variable_token (word t)
      else if is_ascii_digit c then number t
      else if c == byte "'" then quoted (byte "'") quoted_token t
      else if c == byte "\"" then quoted (byte "\"") text_token t
      else if is_end t then token end_token 1
      else if is_symbol c then token name_token (1 + prefix_len is_symbol (drop 1 t))
      else mark c

  -- The tokens from the place `at` on; so many characters belong to what was read before.
  unfoldable pub tokens_from : ℕ → ℕ → Text → Tokens
  tokens_from at skip [] = Ok []
  tokens_from at (suc skip) (c ∷ t) = tokens_from (at + len_utf8 c) skip t
  tokens_from at zero (c ∷ t) = found at (c ∷ t) (front (c ∷ t)) (tokens_from (at + len_utf8 c) (extent (front (c ∷ t)) - 1) t)

  unfoldable pub tokens : Text → Tokens
  tokens = tokens_from 0 0
