use Rattle.std.proofs.Common.{rules, tests, ap, ◌∙◌, position}
use Rattle.std.proofs.lemmas.Iterator.Search.{position_from_yields_List}
use Rattle.std.proofs.lemmas.Iterator.{YieldsList-from_slice}
use Rattle.request_text.specs.Spelled.{is_feed}
use Rattle.request_text.proofs.parts.feed_in.Goals as goal

pub returns : goal.returns
returns c =
    position_from_yields_List is_feed _ _ _ c.position.ensures.ran (YieldsList-from_slice _ c.iter.ensures.rest) (λ x b q k. search (rules, tests))
    ∙ ap (position is_feed) c.as_bytes.ensures.value
