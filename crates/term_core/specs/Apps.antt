-- The applications and their names.
use Rattle.std.specs.Prelude.{ℕ, cond, List, bytes_eq, codes, Option, Some, None}
use Rattle.term_core.specs.declared.app.App.{App}
use Rattle.term_core.specs.declared.app.App.TheVariants.{Sandbox, School, Numbers}

abbrev pub app_name : App → List ℕ
app_name Sandbox = codes "pengine_sandbox"
app_name School = codes "school"
app_name Numbers = codes "numbers"

-- the application of this name, or None
abbrev pub app_named : List ℕ → Option App
app_named name =
    cond (bytes_eq name (app_name Sandbox)) (Some Sandbox)
    (cond (bytes_eq name (app_name School)) (Some School)
    (cond (bytes_eq name (app_name Numbers)) (Some Numbers) None))
