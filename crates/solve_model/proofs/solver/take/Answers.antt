use Rattle.std.proofs.Common.{◌+◌, ap, arith, ◌∙◌}
use Rattle.solve_model.specs.Run.{Failed, ends}
use Rattle.solve_model.specs.Search.{items_of, item_of, place_of, resumed, traced_after, used_of}
use Rattle.solve_model.specs.Trace.{world_of}
use Rattle.tree_results.proofs.Slices.{nothing_kept}
use Rattle.solve_model.proofs.Resume.{answered, spent, stepped, items_pushed}
use Rattle.solve_model.proofs.solver.take.Goals as goal

pub returns-in_default : goal.returns-in_default
returns-in_default c = λ ts.
    answered (world_of c.args.program.now ts c.args.limit) c.args.template.now c.args.search.now.stack.frames.items c.args.search.now.marks (items_of c.args.branch.items.items) (place_of c.args.branch.place) c.args.more (used_of c.args.search.now.steps c.args.search.now.replies) _
    (ap items_of (nothing_kept c.args.branch.items.items _ c.in_default.ensures.cases.0 (omega (arith, c.args.branch.items.ok.0))))
    (ap (λ n. traced_after c.args.template.now c.answer.new.search.marks (resumed (world_of c.args.program.now ts c.args.limit) c.answer.new.search.stack.frames.items (ends Failed (used_of n c.answer.new.search.replies)))) c.in_ok-answer.ensures.steps
    ∙ ap (λ n. traced_after c.args.template.now c.answer.new.search.marks (resumed (world_of c.args.program.now ts c.args.limit) c.answer.new.search.stack.frames.items (ends Failed (used_of c.args.search.now.steps n)))) c.in_ok-answer.ensures.replies
    ∙ c.in_ok-answer.ensures.answer (world_of c.args.program.now ts c.args.limit) (ends Failed (used_of c.args.search.now.steps c.args.search.now.replies)))

pub returns-then-search-limit : goal.returns-then-search-limit
returns-then-search-limit c = λ ts.
    spent (world_of c.args.program.now ts c.args.limit) c.args.template.now c.args.search.now.stack.frames.items c.args.search.now.marks (items_of c.args.branch.items.items) (item_of c.in-Some.item) (items_of c.pop.new.self.items) (place_of c.args.branch.place) c.args.more (used_of c.args.search.now.steps c.args.search.now.replies)
    (items_pushed c.pop.new.self.items c.args.branch.items.items c.in-Some.item c.in-Some.ensures.items) c.if-search-limit.true

pub returns : goal.returns
returns c = λ ts.
    stepped (world_of c.args.program.now ts c.args.limit) c.args.template.now c.args.search.now.stack.frames.items c.args.search.now.marks (items_of c.args.branch.items.items) (item_of c.in-Some.item) (items_of c.pop.new.self.items) (place_of c.args.branch.place) c.args.more c.args.search.now.steps c.args.search.now.replies _
    (items_pushed c.pop.new.self.items c.args.branch.items.items c.in-Some.item c.in-Some.ensures.items) c.if-search-limit.false (c.in_ok-now.ensures ts c.args.limit (used_of (c.args.search.now.steps + 1) c.args.search.now.replies))
