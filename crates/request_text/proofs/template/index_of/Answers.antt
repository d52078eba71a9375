use Rattle.std.proofs.Common.{◌≡◌, string_bytes, ◌∙◌}
use Rattle.std.proofs.lemmas.Map.Text.{btree_map_updates_text}
use Rattle.request_text.proofs.Sharing.{indexed}
use Rattle.request_text.proofs.template.index_of.Goals as goal

pub loop-i-preserved : goal.loop-i-preserved
loop-i-preserved c =
    let key : string_bytes c.in_ok-from_str.field-0 ≡ c.index-names-names.result.0 = c.in_ok-from_str.ensures.ok ∙ c.as_str.ensures in
    let sets = btree_map_updates_text (string_bytes c.in_ok-from_str.field-0) c.loop-i.index c.insert.new.self _ c.in_ok-insert.ensures.updates in
    indexed c.args.names.now c.loop-i.i c.index-names-names.result c.loop-i-test.true c.index-names-names.is c.loop-i.index c.insert.new.self c.loop-i.invariant (rw key at sets)
