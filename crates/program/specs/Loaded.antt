-- What a goal runs over: a program that is loaded for an application.
use Rattle.std.specs.Prelude.{◌≡◌, ℕ, zero, suc, ℤ, List, refl}
use Rattle.std.specs.Coded.{Coded, code_by, coded×, coded_ℕ, coded_ℤ, coded_list}
use Rattle.term_core.specs.declared.app.App.{App}
use Rattle.term_core.specs.declared.app.App.TheVariants.{Sandbox, School, Numbers}
use Rattle.term_core.specs.declared.pi.Pi.{Pi}
use Rattle.program.specs.Clauses.{Clause}
use Rattle.program.specs.Kept.{coded_clauses}

-- a declaration of a predicate whose arguments are goals: for each argument, how many arguments are added to the goal there, or -1 where none is run
pub record Declared : Type 0 where
  pub pi : Pi
  pub metas : List ℤ

-- the clauses in the order of their texts, the application, whose table says which primitives there are, and the declarations
pub record Loaded : Type 0 where
  pub clauses : List Clause
  pub app : App
  pub declared : List Declared

-- ---- codes

abbrev app_number : App → ℕ
app_number Sandbox = 0
app_number School = 1
app_number Numbers = 2

abbrev numbered_app : ℕ → App
numbered_app zero = Sandbox
numbered_app (suc zero) = School
numbered_app (suc (suc n)) = Numbers

pub app_back : (a : App) → numbered_app (app_number a) ≡ a
app_back Sandbox = refl
app_back School = refl
app_back Numbers = refl

abbrev coded_app : Coded App
coded_app = code_by ℕ coded_ℕ app_number numbered_app app_back

abbrev coded_declared : Coded Declared
coded_declared =
    code_by (List ℕ × (ℕ × List ℤ)) (coded× (coded_list coded_ℕ) (coded× coded_ℕ (coded_list coded_ℤ))) (λ d. (d.pi.name, (d.pi.arity, d.metas))) (λ p. record { pi = record { name = p.0; arity = p.1.0 }; metas = p.1.1 }) (λ _. refl)

abbrev pub coded_loaded : Coded Loaded
coded_loaded =
    code_by (List Clause × (App × List Declared)) (coded× coded_clauses (coded× coded_app (coded_list coded_declared))) (λ l. (l.clauses, (l.app, l.declared))) (λ p. record { clauses = p.0; app = p.1.0; declared = p.1.1 }) (λ _. refl)
