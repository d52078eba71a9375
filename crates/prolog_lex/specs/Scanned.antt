-- What the functions of this crate find at the front of a text.
use Rattle.std.specs.Prelude.{ℕ, ◌≤◌, Bool, List}
use Rattle.unicode_ident.specs.Ident.{is_xid_start, is_xid_continue}
use Rattle.term_core.specs.Tokens as spec
use Rattle.prolog_lex.specs.declared.front.Reason.{Reason}
use Rattle.prolog_lex.specs.declared.front.Reason.TheVariants.{BadChar, Unclosed, FloatNumber, OutOfRange}
use Rattle.prolog_lex.specs.declared.front.Front.{Front}
use Rattle.prolog_lex.specs.declared.front.Front.TheVariants.{Layout, Token, Fault}
use Rattle.prolog_lex.specs.declared.quotes.Part.{Part}
use Rattle.prolog_lex.specs.declared.quotes.Part.TheVariants.{Character, Joint, Refused, Closing}
use Rattle.prolog_lex.specs.Lexed.{kind_of}

abbrev pub begins_name : ℕ → Bool
begins_name c = spec.begins_name is_xid_start is_xid_continue c

abbrev pub continues : ℕ → Bool
continues c = spec.continues is_xid_start is_xid_continue c

abbrev pub front : List ℕ → spec.Front
front t = spec.front is_xid_start is_xid_continue t

abbrev pub reason_of : Reason → spec.Reason
reason_of BadChar = spec.bad_char
reason_of Unclosed = spec.unclosed
reason_of FloatNumber = spec.float_number
reason_of OutOfRange = spec.out_of_range

abbrev pub the_front : Front → spec.Front
the_front (Layout n) = spec.layout n
the_front (Token kind n) = spec.token (kind_of kind) n
the_front (Fault reason n) = spec.fault (reason_of reason) n

abbrev pub part_of : Part → spec.Part
part_of (Character c n) = spec.character c n
part_of (Joint n) = spec.joint n
part_of (Refused n) = spec.refused n
part_of Closing = spec.closing

-- a text of so many characters has what stands at its front
abbrev pub IsWithin : spec.Front → ℕ → Type 0
IsWithin (spec.layout n) len = (1 ≤ n) × (n ≤ len)
IsWithin (spec.token kind n) len = (1 ≤ n) × (n ≤ len)
IsWithin (spec.fault reason n) len = n ≤ len
