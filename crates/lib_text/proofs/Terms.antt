-- The clauses of what is read of a text.
use Rattle.std.proofs.Common.{◌≡◌, false, List, map, Result, Ok, ap, sym, ◌∙◌}
use Rattle.term_core.specs.declared.read_term.ReadTerm.{ReadTerm}
use Rattle.prolog_read.specs.declared.fault.ReadFault.{ReadFault}
use Rattle.prolog_read.specs.Outcome.{ReadAs, read_as}
use Rattle.program.specs.Source.{clauses_in, trees_read}
use Rattle.lib_text.specs.Clauses.{clauses_from}
use Rattle.lib_text.proofs.Reading.{trees_are}

pub all_read : (rs : List ReadTerm) (r : Result (List ReadAs) ReadFault) → r ≡ Ok (map read_as rs) → clauses_in false (trees_read rs) ≡ clauses_from r
all_read rs r e = ap (clauses_in false) (sym (trees_are rs)) ∙ ap clauses_from (sym e)
