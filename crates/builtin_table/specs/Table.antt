-- The table of built-in predicates: the control constructs (ISO 13211-1, 7.8) and the built-in predicates (clause 8) of this Prolog. The sandbox and the loader of programs read their classes and goal positions here.
use Rattle.std.specs.Prelude.{ℕ, suc, Bool, true, false, not, ◌&&◌, ◌||◌, ◌==◌, List, [], ◌∷◌, ◌++◌, map, filter, cond, ℤ, pos, negsuc, Option, Some, None, option_map, codes, bytes_eq}
use Rattle.term_core.specs.declared.app.App.{App}
use Rattle.term_core.specs.declared.app.App.TheVariants.{Sandbox, School, Numbers}
use Rattle.term_core.specs.declared.pi.Pi.{Pi}
use Rattle.builtin_table.specs.declared.row.Class.{Class}
use Rattle.builtin_table.specs.declared.row.Class.TheVariants.{Control, Safe, Meta, Library, Outside}
use Rattle.builtin_table.specs.declared.row.Row.{Row}
use denote.Bor.{Bor}
use Prim.Native.String.{String}

abbrev pub Rows : Type 0
Rows = List (Pi × Row)

-- the row of the first entry with this indicator
abbrev pub row_of : Pi → Rows → Option Row
row_of pi [] = None
row_of pi (r ∷ rs) = cond (bytes_eq r.0.name pi.name && r.0.arity == pi.arity) (Some r.1) (row_of pi rs)

-- the class of that row
abbrev pub class_of : Rows → Pi → Option Class
class_of rs pi = option_map (λ r. r.class) (row_of pi rs)

abbrev pub is_library : Class → Bool
is_library Library = true
is_library Control = false
is_library Safe = false
is_library Meta = false
is_library Outside = false

abbrev pub indicators : Rows → List Pi
indicators rs = map (λ r. r.0) rs

-- the predicates that a program may not define
abbrev pub reserved_of : Rows → List Pi
reserved_of rs = indicators (filter (λ r. not (is_library r.1.class)) rs)

-- the rows of a table of literals
abbrev pub rows_of : List (Bor (List ℕ) × ℕ × Class × List ℤ) → Rows
rows_of rs = map (λ r. (record { name = r.0.now; arity = r.1 }, record { class = r.2; metas = r.3 })) rs

-- ---- the rows of this Prolog

-- a goal position: an argument, counted from 1, is a goal to which so many arguments are added
abbrev Goals : Type 0
Goals = List (ℕ × ℕ)

-- a goal behind `^`
abbrev behind : ℕ
behind = 8

abbrev meta_at : Goals → ℕ → ℤ
meta_at [] k = negsuc 0
meta_at (g ∷ gs) k = cond (g.0 == k) (pos g.1) (meta_at gs k)

abbrev metas_of : Goals → List ℤ
metas_of gs = map (meta_at gs) (1 ∷ 2 ∷ 3 ∷ 4 ∷ 5 ∷ 6 ∷ 7 ∷ 8 ∷ [])

abbrev entry : Class → Goals → String → ℕ → Pi × Row
entry c gs name arity = (record { name = codes name; arity = arity }, record { class = c; metas = metas_of gs })

-- predicates of a class that differ in their names alone
abbrev rows : Class → Goals → ℕ → List String → Rows
rows c gs arity names = map (λ name. entry c gs name arity) names

abbrev control : Rows
control =
    rows Control [] 0 ("true" ∷ "fail" ∷ "false" ∷ "!" ∷ [])
    ++ rows Control [] 2 ("," ∷ ";" ∷ "->" ∷ [])
    ++ rows Control ((1, 0) ∷ []) 1 ("call" ∷ [])
    ++ rows Control [] 1 ("throw" ∷ [])

abbrev meta : Rows
meta =
    rows Meta ((1, 0) ∷ []) 1 ("\\+" ∷ "once" ∷ "ignore" ∷ [])
    ++ map (λ k. entry Meta ((1, k) ∷ []) "call" (suc k)) (1 ∷ 2 ∷ 3 ∷ 4 ∷ 5 ∷ 6 ∷ 7 ∷ [])
    ++ rows Meta ((1, 0) ∷ (3, 0) ∷ []) 3 ("catch" ∷ [])
    ++ rows Meta ((1, 0) ∷ (2, 0) ∷ []) 2 ("forall" ∷ [])
    ++ rows Meta ((2, 0) ∷ []) 3 ("findall" ∷ [])
    ++ rows Meta ((2, behind) ∷ []) 3 ("bagof" ∷ "setof" ∷ [])

abbrev safe : Rows
safe =
    rows Safe [] 2 ("=" ∷ "\\=" ∷ "unify_with_occurs_check" ∷ "==" ∷ "\\==" ∷ "@<" ∷ "@=<" ∷ "@>" ∷ "@>=" ∷ [])
    ++ rows Safe [] 3 ("compare" ∷ [])
    ++ rows Safe [] 1 ("var" ∷ "nonvar" ∷ "atom" ∷ "integer" ∷ "number" ∷ "atomic" ∷ "compound" ∷ "callable" ∷ "is_list" ∷ "ground" ∷ [])
    ++ rows Safe [] 3 ("functor" ∷ "arg" ∷ [])
    ++ rows Safe [] 2 ("=.." ∷ "copy_term" ∷ "term_variables" ∷ [])
    ++ rows Safe [] 2 ("is" ∷ "=:=" ∷ "=\\=" ∷ "<" ∷ "=<" ∷ ">" ∷ ">=" ∷ [])
    ++ rows Safe [] 2 ("atom_length" ∷ [])
    ++ rows Safe [] 3 ("atom_concat" ∷ [])
    ++ rows Safe [] 5 ("sub_atom" ∷ [])
    ++ rows Safe [] 2 ("atom_chars" ∷ "atom_codes" ∷ "char_code" ∷ "number_chars" ∷ "number_codes" ∷ "atom_number" ∷ [])
    ++ rows Safe [] 2 ("msort" ∷ "sort" ∷ "keysort" ∷ [])
    ++ rows Safe [] 3 ("$skip_list" ∷ [])
    ++ rows Safe [] 2 ("pengine_input" ∷ [])
    ++ rows Safe [] 1 ("pengine_output" ∷ [])

-- predicates of the library that run goals
abbrev library : Rows
library =
    map (λ k. entry Library ((1, k) ∷ []) "maplist" (suc k)) (1 ∷ 2 ∷ 3 ∷ 4 ∷ [])
    ++ rows Library ((1, 3) ∷ []) 4 ("foldl" ∷ [])
    ++ rows Library ((1, 1) ∷ []) 3 ("include" ∷ "exclude" ∷ [])

-- predicates that would reach outside of the run
abbrev outside : Rows
outside =
    rows Outside [] 0 ("halt" ∷ [])
    ++ rows Outside [] 1 ("halt" ∷ [])
    ++ rows Outside [] 2 ("read_file" ∷ "pengine_rpc" ∷ ":" ∷ [])

unfoldable pub standard : Rows
standard = control ++ meta ++ safe ++ library ++ outside

-- ---- the rows of each application

-- what a goal tells its client, and what it asks it: pengine_output/1 and pengine_input/2
abbrev pub is_talk : Pi → Bool
is_talk pi =
    (bytes_eq pi.name (codes "pengine_output") && pi.arity == 1) || (bytes_eq pi.name (codes "pengine_input") && pi.arity == 2)

-- no program of School talks with its client
abbrev pub silenced : Pi × Row → Pi × Row
silenced r = (r.0, record r.1 { class = cond (is_talk r.0) Outside r.1.class })

abbrev pub plus_and_divmod : Rows
plus_and_divmod = rows Safe [] 3 ("plus" ∷ []) ++ rows Safe [] 4 ("divmod" ∷ [])

unfoldable pub rows_of_app : App → Rows
rows_of_app Sandbox = standard
rows_of_app School = map silenced standard
rows_of_app Numbers = standard ++ plus_and_divmod
