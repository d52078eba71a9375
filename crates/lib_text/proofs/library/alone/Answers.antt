use Rattle.std.proofs.Common.{true, false, List, ap, ◌∙◌}
use Rattle.term_core.specs.declared.read_term.ReadTerm.{ReadTerm}
use Rattle.program.specs.Source.{clauses_in, trees_read, program_of}
use Rattle.lib_text.proofs.Accepted.{alone}
use Rattle.lib_text.proofs.library.alone.Goals as goal

pub returns-in-Ok-clause-clauses : goal.returns-in-Ok-clause-clauses
returns-in-Ok-clause-clauses c =
    c.in-Ok.ensures.clauses
    ∙ ap (λ (ts : List ReadTerm). program_of (clauses_in false (trees_read c.args.library.now)) (clauses_in true (trees_read ts))) c.new.ensures.items
    ∙ alone (clauses_in false (trees_read c.args.library.now))
