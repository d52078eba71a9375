-- Whether a clause hands on the goals that it was given, as the code finds out.
use Rattle.std.specs.Prelude.{ℕ, Bool, false, map, Vec, Option, Some, None}
use Rattle.std.specs.Global.{Global}
use Rattle.std.specs.List.{list_all}
use Rattle.term_core.specs.Tree.{Tree}
use Rattle.builtin_table.specs.Table.{Rows}
use Rattle.sandbox_walk.specs.Shown.{declared_kind}
use Rattle.sandbox_walk.specs.Keeping.{has_goal, hands_on}
use Rattle.library_check.specs.declared.handing.Given.{Given}

-- the variable n of the head is a goal to which k arguments are added
abbrev pub is_given : Given → (n k : ℕ) → Bool
is_given g n k = has_goal g.arguments.items (map declared_kind g.metas.items) n k

-- the bodies that are still to be read; nothing where a body doesn't hand on
abbrev pub left_hands_on : Rows → Given → Option (Vec Tree Global) → Bool
left_hands_on rows g None = false
left_hands_on rows g (Some v) = list_all (hands_on rows (is_given g)) v.items
