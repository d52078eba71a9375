use Rattle.std.proofs.Common.{sym, ◌∙◌}
use Rattle.sandbox_walk.proofs.Collecting.{read_then, read_else}
use Rattle.sandbox_walk.proofs.texts.read.Goals as goal

pub returns-in_ok-append : goal.returns-in_ok-append
returns-in_ok-append c =
    read_then _ c.args.all.now.items _ c.append.new.self.items c.in_ok-found.found.items (sym c.in_ok-reads.ensures ∙ c.if-branch.true) c.in_ok-append.ensures.items c.in_ok-found.ensures

pub returns-else-branch : goal.returns-else-branch
returns-else-branch c = read_else _ c.args.all.now.items _ (sym c.in_ok-reads.ensures ∙ c.if-branch.false)
