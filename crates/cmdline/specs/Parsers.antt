-- The commands, as the parser of command lines sees them.
use Rattle.std.specs.Prelude.{◌≡◌, ◌++◌, true, false, codes, List, map, Some}
use Rattle.std.specs.Str.{bytes_eq}
use Rattle.clap.specs.Words.{App, Rule, new_app, new_rule, first_value, found_of}
use Rattle.clap.specs.Simple.{on_top}
use Rattle.clap.specs.declared.parser.matches.ArgMatches.{ArgMatches}
use Rattle.cmdline.specs.Words.{Text, Syntax, Given, given_by, given_for}

-- no name of the program among the words, and no `--help`
abbrev pub plain_app : App
plain_app = on_top (λ s. record s { no_binary_name = true; disable_help_flag = true }) (new_app (codes "pengines"))

abbrev pub option_named : Text → Rule
option_named n = record (new_rule n) { long = Some n }

abbrev pub with_rules : App → List Rule → App
with_rules a rs = on_top (λ s. record s { rules = s.rules ++ rs }) a

abbrev pub app_for : Syntax → App
app_for s = with_rules (with_rules plain_app (map new_rule s.operands)) (map option_named s.options)

-- The words give what the matches tell, under each name.
abbrev pub Gives : Syntax → List Text → ArgMatches → Type 0
Gives s ws m = (gs : List Given) × (given_by s ws ≡ Some gs)
    × ((n : Text) → bytes_eq (codes "") n ≡ false → first_value (found_of m) n ≡ given_for s.operands gs n)
