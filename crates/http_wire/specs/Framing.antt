-- What a head says of the message's body and of the connection (RFC 9112, sections 6 and 9.6).
use Rattle.std.specs.Prelude.{ℕ, Bool, ◌&&◌, ◌||◌, not, List, [], ◌∷◌, length, map, take, drop, ◌-◌, if◌then◌else◌, ◌==◌, nat_eq, nat_le, Result, Ok, Err, codes}
use Rattle.std.specs.List.{filter, list_all, list_any, slice_split, prefix_len, suffix_len}
use Rattle.std.specs.Cmp.Lexicographic.{pointwise}
use Rattle.std.specs.Char.{is_ascii_digit, is_ascii_whitespace, to_ascii_lowercase}
use Rattle.std.specs.Str.Parse.{digits_value}
use Rattle.httparse.specs.Grammar.{RequestHead}
use Rattle.httparse.specs.Spans.{name_and_value}
use Rattle.http_wire.specs.declared.message.Why.{Why}
use Rattle.http_wire.specs.declared.message.Why.TheVariants.{BadHead, NoLength, BodyTooLong}

-- names and options are the same in either case of their letters
abbrev pub same_name : List ℕ → List ℕ → Bool
same_name a b = pointwise nat_eq (map to_ascii_lowercase a) (map to_ascii_lowercase b)

-- the values of the fields of a name, in order
abbrev pub values : List ℕ → List (List ℕ × List ℕ) → List (List ℕ)
values name fields = map (λ f. f.1) (filter (λ f. same_name f.0 name) fields)

-- a length is 1 to 19 digits
abbrev pub is_length : List ℕ → Bool
is_length v = (nat_le 1 (length v) && nat_le (length v) 19) && list_all is_ascii_digit v

-- the most bytes that a request's body has
abbrev pub body_limit : ℕ
body_limit = 1048576

-- Of a method, its transfer codings and its lengths: how long the body is. Two lengths or one that is
-- no number are a bad head. A transfer coding is not read, and only GET has a body without a length.
abbrev pub length_by : (method : List ℕ) (codings lengths : List (List ℕ)) → Result ℕ Why
length_by method codings (v ∷ w ∷ vs) = Err BadHead
length_by method codings (v ∷ []) =
    if not (is_length v) then Err BadHead
    else (if nat_le 1 (length codings) then Err NoLength
    else (if nat_le (digits_value 10 v) body_limit then Ok (digits_value 10 v) else Err BodyTooLong))
length_by method codings [] =
    if pointwise nat_eq method (codes "GET") && not (nat_le 1 (length codings)) then Ok 0 else Err NoLength

-- how long the body of a request is, or why it isn't read
abbrev pub length_of : (method : List ℕ) → List (List ℕ × List ℕ) → Result ℕ Why
length_of method fields = length_by method (values (codes "transfer-encoding") fields) (values (codes "content-length") fields)

abbrev pub body_length : RequestHead → Result ℕ Why
body_length h = length_of h.method (map name_and_value h.fields)

-- a text without the white space at its ends
abbrev pub trimmed : List ℕ → List ℕ
trimmed v = let rest = drop (prefix_len is_ascii_whitespace v) v in take (length rest - suffix_len is_ascii_whitespace rest) rest

abbrev pub option_is_close : List ℕ → Bool
option_is_close option = same_name (trimmed option) (codes "close")

-- one of the options that the value lists, with commas between them, is `close`
abbrev pub lists_close : List ℕ → Bool
lists_close v = list_any option_is_close (slice_split (λ b. nat_eq b 44) v)

-- the connection is closed after the request: HTTP/1.0, or an option of `Connection` says so
abbrev pub closes : RequestHead → Bool
closes h = h.minor == 0 || list_any lists_close (values (codes "connection") (map name_and_value h.fields))
