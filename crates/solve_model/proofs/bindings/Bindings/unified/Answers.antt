use Rattle.std.proofs.Common.{Some, ap, sym, ◌∙◌}
use Rattle.solve_model.proofs.MatchLemmas.{unified_none}
use Rattle.solve_model.proofs.bindings.Bindings.unified.Goals as goal

pub returns-then-is_empty : goal.returns-then-is_empty
returns-then-is_empty c =
    ap Some c.in_ok-shared.ensures ∙ unified_none c.args.pairs.now c.args.self.now (sym c.is_empty.ensures ∙ c.if-is_empty.true)
