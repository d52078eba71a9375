-- How the words behind a command's name are read: options as `--name value` or `--name=value`, each at
-- most once and anywhere, and operands, which begin with `-` only behind `--` (POSIX.1-2017, Base
-- Definitions 12.2, guideline 10; the long options are those of GNU's getopt_long).
use Rattle.std.specs.Prelude.{◌&&◌, ◌==◌, ℕ, Bool, true, false, not, List, [], ◌∷◌, ◌++◌, length, Option, Some, None, cond, nat_lt}
use Rattle.std.specs.List.{list_any}
use Rattle.std.specs.Option.{option_map_or}
use Rattle.std.specs.Str.{bytes_eq}
use Rattle.clap.specs.Lexer.{long_of}

abbrev pub Text : Type 0
Text = List ℕ

-- the names of a command's operands, in order, and of its options
pub record Syntax : Type 0 where
  pub operands : List Text
  pub options : List Text

-- an operand, or an option's name with its value
abbrev pub Given : Type 0
Given = Option Text × Text

abbrev pub is_option : Syntax → Text → Bool
is_option s n = list_any (λ m. bytes_eq m n) s.options

-- the option was given
abbrev pub names_given : Text → Given → Bool
names_given n g = option_map_or (λ m. bytes_eq m n) g.0 false

abbrev pub has_option : Text → List Given → Bool
has_option n gs = list_any (names_given n) gs

-- the operands
abbrev pub with_word : Given → List Text → List Text
with_word (None, v) ws = v ∷ ws
with_word (Some n, v) ws = ws

abbrev pub words_of : List Given → List Text
words_of [] = []
words_of (g ∷ gs) = with_word g (words_of gs)

abbrev pub begins_with_hyphen : Text → Bool
begins_with_hyphen [] = false
begins_with_hyphen (x ∷ w) = x == 45

-- what stands before the next word: nothing special, an option that awaits its value, or `--`
pub data Due : Type 0 where
  any : Due
  value_of : Text → Due
  ended : Due

abbrev pub has_place : Syntax → List Given → Bool
has_place s gs = nat_lt (length (words_of gs)) (length s.operands)

-- an option's name, with its value behind `=` or without
abbrev pub named : Syntax → List Given → (Due → List Given → Option (List Given)) → Option (Text × Option Text) → Option (List Given)
named s gs next None = None
named s gs next (Some (n, v)) = cond (is_option s n && not (has_option n gs))
    (option_map_or (λ t. next any (gs ++ (Some n, t) ∷ [])) v (next (value_of n) gs)) None

abbrev pub placed : Syntax → List Given → Text → Option (List Given) → Option (List Given)
placed s gs w rest = cond (has_place s gs) rest None

-- what the words give, after what was given so far
abbrev pub reads : Syntax → Due → List Given → List Text → Option (List Given)
reads s any gs [] = Some gs
reads s ended gs [] = Some gs
reads s (value_of n) gs [] = None
reads s any gs (w ∷ ws) = cond (bytes_eq w (45 ∷ 45 ∷ [])) (reads s ended gs ws)
    (cond (begins_with_hyphen w) (named s gs (λ d hs. reads s d hs ws) (long_of w))
    (placed s gs w (reads s any (gs ++ (None, w) ∷ []) ws)))
reads s ended gs (w ∷ ws) = placed s gs w (reads s ended (gs ++ (None, w) ∷ []) ws)
reads s (value_of n) gs (w ∷ ws) = cond (begins_with_hyphen w) None (reads s any (gs ++ (Some n, w) ∷ []) ws)

-- what a command's words give; None where they are refused
abbrev pub given_by : Syntax → List Text → Option (List Given)
given_by s ws = reads s any [] ws

-- what was given under a name, an option's or that of an operand
abbrev pub given_for : List Text → List Given → Text → Option Text
given_for ids [] n = None
given_for ids ((Some m, v) ∷ gs) n = cond (bytes_eq m n) (Some v) (given_for ids gs n)
given_for [] ((None, v) ∷ gs) n = given_for [] gs n
given_for (id ∷ ids) ((None, v) ∷ gs) n = cond (bytes_eq id n) (Some v) (given_for ids gs n)

-- no word before the first `--` is a lone `-`
abbrev pub has_no_lone_hyphen : List Text → Bool
has_no_lone_hyphen [] = true
has_no_lone_hyphen (w ∷ ws) = cond (bytes_eq w (45 ∷ 45 ∷ [])) true
    (cond (bytes_eq w (45 ∷ [])) false (has_no_lone_hyphen ws))
