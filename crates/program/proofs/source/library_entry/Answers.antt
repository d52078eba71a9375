use Rattle.std.proofs.Common.{false, sym, ◌∙◌}
use Rattle.program.proofs.SourceLemmas.{no_clause}
use Rattle.program.proofs.source.library_entry.Goals as goal

pub returns-in-Directive : goal.returns-in-Directive
returns-in-Directive c =
    no_clause false c.args.term.now c.in-Directive.field-0 (sym c.in_ok-item_in.ensures ∙ c.in-Directive.is)
