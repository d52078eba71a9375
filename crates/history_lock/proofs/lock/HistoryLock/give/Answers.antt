use Rattle.std.proofs.Common.{rules, ◌∙◌, refl, []}
use Rattle.history_lock.proofs.Keeps.{adds_as, leaves_as, added_as, left_as, carried}
use Rattle.history_lock.proofs.lock.HistoryLock.give.Goals as goal

pub fetch_add-requires : goal.fetch_add-requires
fetch_add-requires g c = let m = c.exchange-empty.ensures.3 ∙ carried g.T.History.history g.T.History.closes c.args.pass.now.me c.args.pass.now.me.0 c.args.value _ c.requires.pass.2 in
    (search rules, search rules, adds_as _ _ _ _ _ c.requires.pass.1.0 _ _ c.args.pass.now.me.0 c.args.value [] m c.requires.pass.1.1 c.requires.adds c.requires.length.0 c.requires.length.1)

pub fetch_add-requires-2 : goal.fetch_add-requires-2
fetch_add-requires-2 g c = let m = c.exchange-empty.ensures.3 ∙ carried g.T.History.history g.T.History.closes c.args.pass.now.me c.args.pass.now.me.0 c.args.value _ c.requires.pass.2 in
    let n = added_as g.T.History.history g.T.History.closes c.args.self.now.table.shared.table_id.slots c.args.added c.fetch_add.result _ _ c.args.pass.now.me.0 c.args.value [] m c.fetch_add.ensures.2 in
    (search rules, search rules, leaves_as _ _ _ _ _ c.requires.pass.1.0 _ _ c.args.value [] n c.requires.pass.1.1 refl)

pub returns-clause-left : goal.returns-clause-left
returns-clause-left g c = let m = c.exchange-empty.ensures.3 ∙ carried g.T.History.history g.T.History.closes c.args.pass.now.me c.args.pass.now.me.0 c.args.value _ c.requires.pass.2 in
    let n = added_as g.T.History.history g.T.History.closes c.args.self.now.table.shared.table_id.slots c.args.added c.fetch_add.result _ _ c.args.pass.now.me.0 c.args.value [] m c.fetch_add.ensures.2 in
    left_as g.T.History.history g.T.History.closes c.args.self.now.table.shared.table_id.slots c.fetch_add-2.result _ _ _ c.args.value [] n c.fetch_add-2.ensures.2
