-- Which predicates have been seen, as the code keeps it.
use Rattle.std.specs.Prelude.{◌≡◌, ℕ, Bool, false, ◌||◌, List, String, IsTrue, ◌⊎◌}
use Rattle.std.specs.Global.{Global}
use Rattle.std.specs.List.{list_any}
use Rattle.std.specs.Option.{option_map_or}
use Rattle.std.specs.Ordering.{nat_cmp}
use Rattle.std.specs.BTreeMap.{BTreeMap, get}
use Rattle.std.specs.BTreeSet.{BTreeSet, contains_text}
use Rattle.term_core.specs.declared.pi.Pi.{Pi}
use Rattle.term_core.specs.Tree.{Tree}
use Rattle.builtin_table.specs.Table.{Rows}
use Rattle.program.specs.Clauses.{Clause, same_indicator}
use Rattle.sandbox_walk.specs.declared.found.Found.{Found}
use Rattle.sandbox_walk.specs.declared.reach.Walk.{Walk}
use Rattle.sandbox_walk.specs.Verdict.{Reach, enters, in_goal, in_predicate, has_literal}

abbrev pub Names : Type 0
Names = BTreeSet (String Global)

abbrev pub ByArity : Type 0
ByArity = BTreeMap ℕ Names

-- whether the predicate is among them
abbrev pub has : ByArity → Pi → Bool
has m pi = option_map_or (λ names. contains_text names pi.name) (get nat_cmp m pi.arity) false

abbrev pub among : Pi → List Pi → Bool
among i is = list_any (λ j. same_indicator i j) is

-- What the walk keeps: the predicates that were seen are reached; those that wait were seen; the goal's were seen; and so were those of each seen predicate whose clauses are read, unless it waits.
pub record IsWalking (rows : Rows) (p : List Clause) (g : Tree) (w : Walk) : Type 0 where
  pub reached : (i : Pi) → IsTrue (has w.seen i) → Reach rows p g i
  pub queued : (i : Pi) → IsTrue (among i w.waiting.items) → IsTrue (has w.seen i)
  pub goal : (i : Pi) → IsTrue (has_literal i (in_goal rows g)) → IsTrue (has w.seen i)
  pub closed : (h i : Pi) → IsTrue (has w.seen h) → IsTrue (enters rows p h) → IsTrue (has_literal i (in_predicate rows p h)) → IsTrue (has w.seen i) ⊎ IsTrue (among h w.waiting.items)

-- After these were met, their literals were seen too, and those that are new wait.
pub record HasMet (fs : List Found) (old new : Walk) : Type 0 where
  pub seen : (i : Pi) → has new.seen i ≡ (has old.seen i || has_literal i fs)
  pub waiting : (i : Pi) → IsTrue (among i new.waiting.items) → IsTrue (among i old.waiting.items) ⊎ IsTrue (has new.seen i)
  pub kept : (i : Pi) → IsTrue (among i old.waiting.items) → IsTrue (among i new.waiting.items)
  pub new_wait : (i : Pi) → IsTrue (has new.seen i) → IsTrue (has old.seen i) ⊎ IsTrue (among i new.waiting.items)
