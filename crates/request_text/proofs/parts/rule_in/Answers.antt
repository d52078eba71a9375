use Rattle.std.proofs.Common.{rules, tests}
use Rattle.std.proofs.lemmas.Iterator.Search.{position_from_yields_List}
use Rattle.std.proofs.lemmas.Iterator.Splits.{YieldsList-from_lines}
use Rattle.request_text.specs.Spelled.{is_rule}
use Rattle.request_text.proofs.parts.rule_in.Goals as goal

pub returns : goal.returns
returns c = position_from_yields_List is_rule _ _ _ c.position.ensures.ran (YieldsList-from_lines c.args.text.now c.lines.ensures.rest) (λ x b q k. search (rules, tests))
