-- A template that is a text of its own, beside its goal: they share the variables whose names they share. And the names that answers carry.
use Rattle.std.specs.Prelude.{ℕ, ◌+◌, ◌==◌, Bool, true, not, List, [], ◌∷◌, map, Option, Some, None, if◌then◌else◌, unwrap_or}
use Rattle.std.specs.BTreeMap.{insert_entry}
use Rattle.std.specs.Ordering.{nat_cmp}
use Rattle.std.specs.Cmp.Lexicographic.{slice_cmp}
use Rattle.term_core.specs.Tree.{Tree}
use Rattle.term_core.specs.Variables.{map_variables, first_free}
use Rattle.prolog_read.specs.Variables.{Names, lookup}
use Rattle.prolog_read.specs.Outcome.{ReadAs}

-- the goal's variable with the name of the template's variable n
abbrev pub shared : (goal template : Names) → ℕ → Option ℕ
shared goal [] n = None
shared goal (p ∷ ps) n = elim (lookup p.0 goal) [ None ↦ shared goal ps n | Some k ↦ if p.1 == n then Some k else shared goal ps n ]

-- A variable of the template with the name of one of the goal's is that one. Each other, `_` too, is a variable of its own, numbered behind the goal's.
abbrev pub number_beside : (goal template : ReadAs) → ℕ → ℕ
number_beside goal template n = unwrap_or (shared goal.1 template.1 n) (first_free goal.0 + n)

abbrev pub beside : (goal template : ReadAs) → Tree
beside goal template = map_variables (number_beside goal template) template.0

-- ---- the names that answers carry

-- a name that doesn't begin with `_`
abbrev pub is_told : List ℕ → Bool
is_told [] = true
is_told (b ∷ bs) = not (b == 95)

-- Those that are told, put before others: each name once and in byte order, with the variable that the first of its places gives it.
unfoldable pub told_before : Names → Names → Names
told_before [] qs = qs
told_before (p ∷ ps) qs = if is_told p.0 then insert_entry (slice_cmp nat_cmp) (told_before ps qs) p.0 p.1 else told_before ps qs

-- those that are told, in byte order
abbrev pub told_names : Names → Names
told_names ps = told_before ps []

-- the names with their variables behind those below `free`
abbrev pub names_behind : (free : ℕ) → Names → Names
names_behind free ps = map (λ p. (p.0, free + p.1)) ps

-- The names of a goal, and those of its template with their variables behind the goal's. A name that both have is the goal's.
abbrev pub names_beside : (goal template : ReadAs) → Names
names_beside goal template = told_before goal.1 (told_names (names_behind (first_free goal.0) template.1))
