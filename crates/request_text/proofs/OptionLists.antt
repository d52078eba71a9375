-- Options, as the code reads them.
use Rattle.std.proofs.Common.{◌≡◌, ◌≢◌, ℕ, ◌+◌, ◌≤◌, ◌<◌, Bool, true, false, ◌||◌, List, [], ◌∷◌, ◌++◌, length, append-nil, take, get_or, Option, Some, None, refl, ap, sym, ◌∙◌, arith, codes, if◌then◌else◌, is_some}
use Rattle.std.specs.List.{list_all, list_any, filter_map, cons_option}
use Rattle.std.proofs.lemmas.Bool.{and_parts, false≢true}
use Rattle.std.proofs.lemmas.List.{take_more}
use Rattle.std.proofs.lemmas.List.Elements.{filter_map-append}
use Rattle.term_core.specs.Tree.{Tree, variable, integer, atom, compound, no_trees, tree}
use Rattle.term_core.specs.Parts.{arguments_of}
use Rattle.term_core.specs.declared.app.App.{App}
use Rattle.request_text.specs.Limits.{greatest_limit, default_settings}
use Rattle.event_core.specs.declared.limits.TheConstants.{MAX_CHUNK}
use Rattle.request_text.specs.declared.options.Given.{Given}
use Rattle.request_text.specs.declared.options.Given.TheVariants.{Never, Once, Again}
use Rattle.request_text.specs.Shapes.{is_compound, at_most}
use Rattle.request_text.specs.Options.{value_of, given, with_value, given_for, term_or, number_or, flag_or, and_then, is_ask_option, ask_of, is_create_option, settings_of}
use Rattle.request_text.proofs.TermShapes.{is_few, is_many}

-- ---- values

pub value_known : (f : List ℕ) (t x : Tree) → is_compound f 1 t ≡ true → arguments_of t ≡ x ∷ [] → Some x ≡ value_of f t
value_known f (variable n) x k e = cc
value_known f (integer z) x k e = cc
value_known f (atom g) x k e = cc
value_known f (compound g no_trees) x k e = cc
value_known f (compound g (tree a (tree b bs))) x k e = cc
value_known f (compound g (tree a no_trees)) x k e = rw k (ap first (sym e))
  where
    first : List Tree → Option Tree
    first [] = None
    first (y ∷ ys) = Some y

pub value_unknown : (f : List ℕ) (t : Tree) → is_compound f 1 t ≡ false → None ≡ value_of f t
value_unknown f (variable n) k = refl
value_unknown f (integer z) k = refl
value_unknown f (atom g) k = refl
value_unknown f (compound g no_trees) k = refl
value_unknown f (compound g (tree a (tree b bs))) k = refl
value_unknown f (compound g (tree a no_trees)) k = rw k refl

-- an option has a value
has_value : (f : List ℕ) (t : Tree) → is_compound f 1 t ≡ true → is_some (value_of f t) ≡ true
has_value f (variable n) k = cc
has_value f (integer z) k = cc
has_value f (atom g) k = cc
has_value f (compound g no_trees) k = cc
has_value f (compound g (tree a (tree b bs))) k = absurd (search (arith, k))
has_value f (compound g (tree a no_trees)) k = rw k refl

given_more : (vs : List Tree) (t : Tree) → given (vs ++ t ∷ []) ≡ with_value (given vs) t
given_more [] t = refl
given_more (u ∷ []) t = refl
given_more (u ∷ v ∷ vs) t = refl

values_more : (f : List ℕ) (ts : List Tree) (t : Tree) (o : Option Tree) → o ≡ value_of f t → given_for f (ts ++ t ∷ []) ≡ elim o [ None ↦ given_for f ts | Some v ↦ with_value (given_for f ts) v ]
values_more f ts t o e =
    ap given (filter_map-append (value_of f) ts (t ∷ [])) ∙ ap (λ v. given (filter_map (value_of f) ts ++ cons_option v [])) (sym e) ∙ by o
  where
    by : (o : Option Tree) → given (filter_map (value_of f) ts ++ cons_option o []) ≡ elim o [ None ↦ given_for f ts | Some v ↦ with_value (given_for f ts) v ]
    by None = ap given (append-nil (filter_map (value_of f) ts))
    by (Some v) = given_more (filter_map (value_of f) ts) v

pub with_none : (f : List ℕ) (ts : List Tree) (t : Tree) → None ≡ value_of f t → given_for f (ts ++ t ∷ []) ≡ given_for f ts
with_none f ts t e = values_more f ts t None e

pub with_one : (f : List ℕ) (ts : List Tree) (t v : Tree) → Some v ≡ value_of f t → given_for f (ts ++ t ∷ []) ≡ with_value (given_for f ts) v
with_one f ts t v e = values_more f ts t (Some v) e

-- the options so far, and one with no value, or with one
module _ (f : List ℕ) (xs : List Tree) (i : ℕ) (d : Tree) (g : Given) (lt : i < length xs) (so_far : g ≡ given_for f (take i xs)) where
  pub one_without : None ≡ value_of f (get_or xs i d) → g ≡ given_for f (take (i + 1) xs)
  one_without e = so_far ∙ sym (with_none f (take i xs) (get_or xs i d) e) ∙ ap (given_for f) (sym (take_more xs i d lt))

  pub one_with : (v : Tree) (h : Given) → Some v ≡ value_of f (get_or xs i d) → h ≡ with_value g v → h ≡ given_for f (take (i + 1) xs)
  one_with v h e is =
      is ∙ ap (λ x. with_value x v) so_far ∙ sym (with_one f (take i xs) (get_or xs i d) v e) ∙ ap (given_for f) (sym (take_more xs i d lt))

-- ---- options that are known, each given at most once, are few

given_once : (vs : List Tree) → given vs ≢ Again → length vs ≤ 1
given_once [] h = omega arith
given_once (t ∷ []) h = omega arith
given_once (t ∷ u ∷ ts) h = absurd (h refl)

-- the values of names, all together
abbrev values : List (List ℕ) → List Tree → ℕ
values [] ts = 0
values (f ∷ fs) ts = length (filter_map (value_of f) ts) + values fs ts

-- whether a term is an option with one of these names
abbrev is_named : List (List ℕ) → Tree → Bool
is_named fs t = list_any (λ f. is_compound f 1 t) fs

abbrev bit : Bool → ℕ
bit true = 1
bit false = 0

value_counts : (f : List ℕ) (t : Tree) (ts : List Tree) → bit (is_compound f 1 t) + length (filter_map (value_of f) ts) ≤ length (filter_map (value_of f) (t ∷ ts))
value_counts f t ts = by (is_compound f 1 t) (value_of f t) (has_value f t)
  where
    by : (b : Bool) (o : Option Tree) → (b ≡ true → is_some o ≡ true) → bit b + length (filter_map (value_of f) ts) ≤ length (cons_option o (filter_map (value_of f) ts))
    by true None h = absurd (false≢true (h refl))
    by true (Some v) h = omega arith
    by false None h = omega arith
    by false (Some v) h = omega arith

values_count : (fs : List (List ℕ)) (t : Tree) (ts : List Tree) → bit (is_named fs t) + values fs ts ≤ values fs (t ∷ ts)
values_count [] t ts = omega arith
values_count (f ∷ fs) t ts = omega (arith, value_counts f t ts, values_count fs t ts, either (is_compound f 1 t) (is_named fs t))
  where
    either : (a b : Bool) → bit (a || b) ≤ bit a + bit b
    either true true = omega arith
    either true false = omega arith
    either false true = omega arith
    either false false = omega arith

all_counted : (fs : List (List ℕ)) (p : Tree → Bool) → ((t : Tree) → p t ≡ is_named fs t) → (ts : List Tree) → list_all p ts ≡ true → length ts ≤ values fs ts
all_counted fs p same [] h = omega arith
all_counted fs p same (t ∷ ts) h =
    let parts = and_parts (p t) (list_all p ts) h in
    let one : bit (is_named fs t) ≡ 1 = ap bit (sym (same t) ∙ parts.0) in
    omega (arith, values_count fs t ts, all_counted fs p same ts parts.1, one)

never_again : Never ≢ Again
never_again e = cc

once_again : (t : Tree) → Once t ≢ Again
once_again t e = cc

-- a value that is given again is refused
refused : {S A : Type 0} (x : Given) (f : Given → Option S) (k : S → Option A) → f Again ≡ None → (x ≢ Again → (s : S) → k s ≡ None) → and_then (f x) k ≡ None
refused {S} {A} x f k again rest = by x rest
  where
    each : (o : Option S) → ((s : S) → k s ≡ None) → and_then o k ≡ None
    each None h = refl
    each (Some s) h = h s

    by : (x : Given) → (x ≢ Again → (s : S) → k s ≡ None) → and_then (f x) k ≡ None
    by Never h = each (f Never) (h never_again)
    by (Once t) h = each (f (Once t)) (h (once_again t))
    by Again h = rw again refl

if_false : {A : Type 0} (b : Bool) (o : Option A) → (b ≡ true → o ≡ None) → (if b then o else None) ≡ None
if_false true o h = h refl
if_false false o h = refl

-- ---- ask

ask_names : List (List ℕ)
ask_names = codes "template" ∷ codes "chunk" ∷ []

is_ask_name : (t : Tree) → is_ask_option t ≡ is_named ask_names t
unfolding ask_names
is_ask_name t = by (is_compound (codes "template") 1 t) (is_compound (codes "chunk") 1 t)
  where
    by : (a b : Bool) → (a || b) ≡ (a || (b || false))
    by true b = refl
    by false true = refl
    by false false = refl

ask_many : (bytes : ℕ) (goal : Tree) (ts : List Tree) → 2 < length ts → ask_of bytes goal ts ≡ None
unfolding ask_names
ask_many bytes goal ts long =
    if_false (list_all is_ask_option ts) _
    (λ all. refused (given_for (codes "template") ts) (term_or goal) _ refl
    (λ once t. refused (given_for (codes "chunk") ts) (number_or 0 MAX_CHUNK) _ refl
    (λ again c. absurd (omega (arith, all_counted ask_names is_ask_option is_ask_name ts all, given_once _ once, given_once _ again)))))

-- the ask, where at most two options were read
pub ask_few : (bytes : ℕ) (goal : Tree) (o : Option (List Tree)) (ts : List Tree) → at_most 2 o ≡ Some ts → ask_of bytes goal ts ≡ and_then o (ask_of bytes goal)
ask_few bytes goal o ts h = ap (λ p. and_then p (ask_of bytes goal)) (sym (is_few 2 o ts h))

pub ask_none : (bytes : ℕ) (goal : Tree) (o : Option (List Tree)) → at_most 2 o ≡ None → None ≡ and_then o (ask_of bytes goal)
ask_none bytes goal None h = refl
ask_none bytes goal (Some ts) h = sym (ask_many bytes goal ts (is_many 2 ts h))

-- ---- create

create_names : List (List ℕ)
create_names = codes "chunk" ∷ codes "limit" ∷ codes "destroy" ∷ []

is_create_name : (t : Tree) → is_create_option t ≡ is_named create_names t
unfolding create_names
is_create_name t = by (is_compound (codes "chunk") 1 t) (is_compound (codes "limit") 1 t) (is_compound (codes "destroy") 1 t)
  where
    by : (a b c : Bool) → ((a || b) || c) ≡ (a || (b || (c || false)))
    by true b c = refl
    by false true c = refl
    by false false true = refl
    by false false false = refl

create_many : (app : App) (ts : List Tree) → 3 < length ts → settings_of app ts ≡ None
unfolding create_names
create_many app ts long =
    if_false (list_all is_create_option ts) _
    (λ all. refused (given_for (codes "chunk") ts) (number_or (default_settings app).chunk MAX_CHUNK) _ refl
    (λ once c. refused (given_for (codes "limit") ts) (number_or (default_settings app).limit (greatest_limit app)) _ refl
    (λ again n. refused (given_for (codes "destroy") ts) (flag_or (default_settings app).destroys) _ refl
    (λ more d. absurd (omega (arith, all_counted create_names is_create_option is_create_name ts all, given_once _ once, given_once _ again, given_once _ more))))))

pub settings_few : (app : App) (o : Option (List Tree)) (ts : List Tree) → at_most 3 o ≡ Some ts → settings_of app ts ≡ and_then o (settings_of app)
settings_few app o ts h = ap (λ p. and_then p (settings_of app)) (sym (is_few 3 o ts h))

pub settings_none : (app : App) (o : Option (List Tree)) → at_most 3 o ≡ None → None ≡ and_then o (settings_of app)
settings_none app None h = refl
settings_none app (Some ts) h = sym (create_many app ts (is_many 3 ts h))
