use Rattle.std.proofs.Common.{◌≡◌, drop}
use Rattle.std.specs.List.{list_any}
use Rattle.program.specs.Clauses.{same_indicator}
use Rattle.library_check.specs.Tables.{indicators_in}
use Rattle.library_check.proofs.tables.is_among.Given as goal

abbrev pub invariant-loop-name : goal.invariant-loop-name
invariant-loop-name l = list_any (same_indicator l.pi) (indicators_in (drop l.name-index l.names)) ≡ list_any (same_indicator l.pi) (indicators_in l.names)
