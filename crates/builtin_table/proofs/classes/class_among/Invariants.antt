use Rattle.std.proofs.Common.{◌≡◌, drop}
use Rattle.builtin_table.specs.Table.{class_of, rows_of}
use Rattle.builtin_table.proofs.classes.class_among.Given as goal

abbrev pub invariant-loop-name : goal.invariant-loop-name
invariant-loop-name l = class_of (rows_of (drop l.name-index l.rows)) l.pi ≡ class_of (rows_of l.rows) l.pi
