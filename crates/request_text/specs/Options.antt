-- Options: a proper list of terms name(Value), each name at most once (after Lager and Wielemaker, TPLP 2014, section 3).
use Rattle.std.specs.Prelude.{ℕ, Bool, false, ◌||◌, List, [], ◌∷◌, Option, Some, None, if◌then◌else◌, codes, bytes_eq}
use Rattle.std.specs.List.{list_all, filter_map}
use Rattle.term_core.specs.Tree.{Tree, compound, no_trees, tree}
use Rattle.event_core.specs.declared.request.Ask.{Ask}
use Rattle.event_core.specs.declared.settings.Settings.{Settings}
use Rattle.event_core.specs.declared.limits.TheConstants.{MAX_CHUNK}
use Rattle.term_core.specs.declared.app.App.{App}
use Rattle.request_text.specs.Limits.{greatest_limit, default_settings}
use Rattle.request_text.specs.declared.options.Given.{Given}
use Rattle.request_text.specs.declared.options.Given.TheVariants.{Never, Once, Again}
use Rattle.request_text.specs.Shapes.{is_compound, number_up_to, flag_of, elements}

-- the value of name(Value)
abbrev pub value_of : List ℕ → Tree → Option Tree
value_of f (compound g (tree t no_trees)) = if bytes_eq g f then Some t else None
value_of f t = None

-- how often values are given
abbrev pub given : List Tree → Given
given [] = Never
given (t ∷ []) = Once t
given (t ∷ u ∷ ts) = Again

-- with one value more
abbrev pub with_value : Given → Tree → Given
with_value Never t = Once t
with_value (Once u) t = Again
with_value Again t = Again

-- what a list of options gives for a name
abbrev pub given_for : List ℕ → List Tree → Given
given_for f ts = given (filter_map (value_of f) ts)

-- a term, or this one where none is given
abbrev pub term_or : Tree → Given → Option Tree
term_or t Never = Some t
term_or t (Once u) = Some u
term_or t Again = None

-- a number from 1 to the greatest one, or this one where none is given
abbrev pub number_or : ℕ → (greatest : ℕ) → Given → Option ℕ
number_or n greatest Never = Some n
number_or n greatest (Once t) = number_up_to greatest t
number_or n greatest Again = None

abbrev pub flag_or : Bool → Given → Option Bool
flag_or b Never = Some b
flag_or b (Once t) = flag_of t
flag_or b Again = None

abbrev pub and_then : {A B : Type 0} → Option A → (A → Option B) → Option B
and_then None f = None
and_then (Some a) f = f a

-- ---- ask(Goal, Options)

abbrev pub is_ask_option : Tree → Bool
is_ask_option t = is_compound (codes "template") 1 t || is_compound (codes "chunk") 1 t

-- The template is the goal where none is given, and the chunk 0, which stands for the pengine's.
abbrev pub ask_of : (bytes : ℕ) → (goal : Tree) → List Tree → Option Ask
ask_of bytes goal ts =
    if list_all is_ask_option ts then
    and_then (term_or goal (given_for (codes "template") ts)) (λ t.
    and_then (number_or 0 MAX_CHUNK (given_for (codes "chunk") ts)) (λ c.
    Some (record { goal = goal; template = t; names = []; chunk = c; bytes = bytes })))
    else None

abbrev pub ask_with : (bytes : ℕ) → (goal options : Tree) → Option Ask
ask_with bytes goal options = and_then (elements options) (ask_of bytes goal)

-- ---- create(Options)

abbrev pub is_create_option : Tree → Bool
is_create_option t = (is_compound (codes "chunk") 1 t || is_compound (codes "limit") 1 t) || is_compound (codes "destroy") 1 t

-- what isn't given is the application's default
abbrev pub settings_of : App → List Tree → Option Settings
settings_of app ts =
    if list_all is_create_option ts then
    and_then (number_or (default_settings app).chunk MAX_CHUNK (given_for (codes "chunk") ts)) (λ c.
    and_then (number_or (default_settings app).limit (greatest_limit app) (given_for (codes "limit") ts)) (λ n.
    and_then (flag_or (default_settings app).destroys (given_for (codes "destroy") ts)) (λ d.
    Some (record { chunk = c; limit = n; destroys = d; names = false }))))
    else None

-- the settings that a term create(Options) gives a pengine of an application
abbrev pub created : App → Tree → Option Settings
created app t = and_then (value_of (codes "create") t) (λ options. and_then (elements options) (settings_of app))
