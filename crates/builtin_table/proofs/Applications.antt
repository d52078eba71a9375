-- The classes in the tables of applications.
use Rattle.std.proofs.Common.{◌≡◌, ℕ, Bool, true, false, ◌&&◌, ◌==◌, List, [], ◌∷◌, ◌++◌, map, cond, Option, Some, None, refl, ap, ◌∙◌}
use Rattle.std.specs.Prelude.{option_map, bytes_eq}
use Rattle.std.specs.Cmp.Lexicographic.{bytes_decides}
use Rattle.std.proofs.lemmas.Bool.{and_parts, eqb-true}
use Rattle.term_core.specs.declared.pi.Pi.{Pi}
use Rattle.builtin_table.specs.declared.row.Class.{Class}
use Rattle.builtin_table.specs.declared.row.Class.TheVariants.{Outside}
use Rattle.builtin_table.specs.declared.row.Row.{Row}
use Rattle.builtin_table.specs.Table.{Rows, row_of, class_of, is_talk, silenced}

abbrev is_at : Pi → Pi → Bool
is_at i j = bytes_eq i.name j.name && i.arity == j.arity

same : (i j : Pi) → is_at i j ≡ true → i ≡ j
same i j h =
    let parts = and_parts (bytes_eq i.name j.name) (i.arity == j.arity) h in
    ap (λ (f : List ℕ). record { name = f; arity = i.arity }) ((bytes_decides i.name j.name).0 parts.0)
    ∙ ap (λ (n : ℕ). record { name = j.name; arity = n }) (eqb-true i.arity j.arity parts.1)

abbrev in_school : Pi → Option Class → Option Class
in_school pi o = option_map (λ c. cond (is_talk pi) Outside c) o

pub class_silenced : (rs : Rows) (pi : Pi) → class_of (map silenced rs) pi ≡ in_school pi (class_of rs pi)
class_silenced [] pi = refl
class_silenced (r ∷ rs) pi = by (class_silenced rs pi) (is_at r.0 pi) refl
  where
    by : class_of (map silenced rs) pi ≡ in_school pi (class_of rs pi) → (b : Bool) → is_at r.0 pi ≡ b → option_map (λ (x : Row). x.class) (cond b (Some (silenced r).1) (row_of pi (map silenced rs))) ≡ in_school pi (option_map (λ (x : Row). x.class) (cond b (Some r.1) (row_of pi rs)))
    by h true e = ap (λ (j : Pi). Some (cond (is_talk j) Outside r.1.class)) (same r.0 pi e)
    by h false e = h

abbrev or_class : Option Class → Option Class → Option Class
or_class None o = o
or_class (Some c) o = Some c

pub class_joined : (rs ss : Rows) (pi : Pi) → class_of (rs ++ ss) pi ≡ or_class (class_of rs pi) (class_of ss pi)
class_joined [] ss pi = refl
class_joined (r ∷ rs) ss pi = by (class_joined rs ss pi) (is_at r.0 pi)
  where
    by : class_of (rs ++ ss) pi ≡ or_class (class_of rs pi) (class_of ss pi) → (b : Bool) → option_map (λ (x : Row). x.class) (cond b (Some r.1) (row_of pi (rs ++ ss))) ≡ or_class (option_map (λ (x : Row). x.class) (cond b (Some r.1) (row_of pi rs))) (class_of ss pi)
    by h true = refl
    by h false = h
