-- Numbers, texts and names among the words.
use Rattle.std.specs.Prelude.{◌&&◌, ℕ, Bool, [], ◌∷◌, length, min, Option, Some, None, nat_le, if◌then◌else◌}
use Rattle.std.specs.List.{list_all}
use Rattle.std.specs.Char.{is_ascii_digit}
use Rattle.std.specs.Str.Parse.{digits_value}
use Rattle.term_core.specs.declared.app.App.{App}
use Rattle.term_core.specs.declared.app.App.TheVariants.{Sandbox, School, Numbers}
use Rattle.term_core.specs.Apps.{app_named}
use Rattle.cmdline.specs.Words.{Text}

-- 1 to 9 decimal digits
abbrev pub is_numeral : Text → Bool
is_numeral w = (nat_le 1 (length w) && nat_le (length w) 9) && list_all is_ascii_digit w

abbrev pub numeral : Text → Option ℕ
numeral w = if is_numeral w then Some (digits_value 10 w) else None

abbrev pub within : (least greatest : ℕ) → Option ℕ → Option ℕ
within least greatest None = None
within least greatest (Some n) = if nat_le least n && nat_le n greatest then Some n else None

-- a number in its limits, which has to be given
abbrev pub number : (least greatest : ℕ) → Option Text → Option ℕ
number least greatest None = None
number least greatest (Some w) = within least greatest (numeral w)

-- a number in its limits, or the default where none is given
abbrev pub number_or : (default least greatest : ℕ) → Option Text → Option ℕ
number_or default least greatest None = Some default
number_or default least greatest (Some w) = within least greatest (numeral w)

-- a text that has to be given, and not empty
abbrev pub some_text : Option Text → Option Text
some_text None = None
some_text (Some []) = None
some_text (Some (b ∷ bs)) = Some (b ∷ bs)

-- the application of a name; the sandbox where none is given
abbrev pub application : Option Text → Option App
application None = Some Sandbox
application (Some w) = app_named w

-- the most steps that a query of the application makes
abbrev pub greatest_limit : App → ℕ
greatest_limit Sandbox = 100000000
greatest_limit School = 100000
greatest_limit Numbers = 100000000

-- the steps that a query of the application makes where it is given no limit
abbrev pub default_limit : App → ℕ
default_limit app = min 1000000 (greatest_limit app)
