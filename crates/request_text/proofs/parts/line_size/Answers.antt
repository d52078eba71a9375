use Rattle.std.proofs.Common.{sym, ◌∙◌}
use Rattle.request_text.proofs.LineStarts.{size_some, size_none, after_feed}
use Rattle.request_text.proofs.parts.line_size.Goals as goal

pub returns-in-Some-clause-size : goal.returns-in-Some-clause-size
returns-in-Some-clause-size c = size_some c.args.text.now c.in-Some.at (sym c.feed_in.ensures ∙ c.in-Some.is)

pub returns-in-Some-clause-boundary : goal.returns-in-Some-clause-boundary
returns-in-Some-clause-boundary c = after_feed c.args.text.now c.in-Some.at c.utf8.text (sym c.feed_in.ensures ∙ c.in-Some.is)

pub returns-in-None-clause-size : goal.returns-in-None-clause-size
returns-in-None-clause-size c = size_none c.args.text.now (sym c.feed_in.ensures ∙ c.in-None.is)
