-- How many steps a query may make, by the application.
use Rattle.std.specs.Prelude.{ℕ, min}
use Rattle.term_core.specs.declared.app.App.{App}
use Rattle.term_core.specs.declared.app.App.TheVariants.{Sandbox, School, Numbers}
use Rattle.event_core.specs.declared.settings.Settings.{Settings}
use Rattle.event_core.specs.declared.settings.TheConstants.Settings.{DEFAULT}
use Rattle.event_core.specs.declared.limits.TheConstants.{MAX_LIMIT}

-- the greatest limit that a pengine of the application may name
abbrev pub greatest_limit : App → ℕ
greatest_limit Sandbox = MAX_LIMIT
greatest_limit School = min 100000 MAX_LIMIT
greatest_limit Numbers = MAX_LIMIT

-- The settings of a pengine that names none. Its limit is the lesser of the default one and the application's greatest.
abbrev pub default_settings : App → Settings
default_settings app = record DEFAULT { limit = min DEFAULT.limit (greatest_limit app) }
