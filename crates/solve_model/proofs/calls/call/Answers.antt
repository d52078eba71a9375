use Rattle.std.proofs.Common.{ap, sym, ◌∙◌}
use Rattle.term_core.specs.declared.app.App.{App}
use Rattle.term_core.specs.declared.pi.Pi.{Pi}
use Rattle.term_core.specs.Parts.{arguments_of}
use Rattle.term_core.specs.Substitution.{apply}
use Rattle.builtin_table.specs.Outside.{outside_in}
use Rattle.builtin_table.specs.Taken.{primitive_in}
use Rattle.program.specs.Clauses.{clauses_of}
use Rattle.solve_model.specs.Goals.{indicator_of}
use Rattle.solve_model.specs.Run.{Ran, after, at_cut, entered, in_order, performed}
use Rattle.solve_model.specs.Search.{items_of, place_of, resumed, runs}
use Rattle.solve_model.specs.Trace.{world_of}
use Rattle.solve_model.proofs.MatchLemmas.{no_clauses, some_clauses}
use Rattle.solve_model.proofs.Resume.{unknown_called, known_called}
use Rattle.solve_model.proofs.calls.call.Goals as goal

pub returns : goal.returns
returns c = λ ts limit u.
    let w = world_of c.args.program.now ts limit in
    let is = items_of c.args.rest.items.items in
    let p = place_of c.args.rest.place in
    let i = indicator_of c.args.goal in
    c.in_ok-now-2.ensures ts limit u
    ∙ c.in_ok-push.ensures w _
    ∙ ap (λ (j : Pi). resumed w c.args.stack.now.frames.items (after (in_order (runs w) (entered (clauses_of j c.args.program.now.clauses) c.args.goal is p c.args.more) c.args.more u) (at_cut p.level))) c.in_ok-pi.ensures
    ∙ ap (resumed w c.args.stack.now.frames.items)
    (known_called w (runs w) (clauses_of i c.args.program.now.clauses) i c.args.goal is p c.args.more u (some_clauses c.clauses.result.now _ (c.clauses.ensures ∙ ap (λ (j : Pi). clauses_of j c.args.program.now.clauses) c.in_ok-pi.ensures) (sym c.is_empty.ensures ∙ c.if-is_empty.false)))

pub returns-then-is_empty : goal.returns-then-is_empty
returns-then-is_empty c = λ ts limit u.
    let w = world_of c.args.program.now ts limit in
    let is = items_of c.args.rest.items.items in
    let p = place_of c.args.rest.place in
    let i = indicator_of c.args.goal in
    let performs : App → Pi → Ran = λ a j. resumed w c.args.stack.now.frames.items (performed (runs w) (primitive_in a j (arguments_of (apply p.subst c.args.goal)) p.next) (outside_in a j) j is p c.args.more u) in
    c.in_ok-now.ensures w u
    ∙ ap (λ (a : App). performs a c.in_ok-pi.pi) c.app.ensures
    ∙ ap (performs c.args.program.now.app) c.in_ok-pi.ensures
    ∙ ap (resumed w c.args.stack.now.frames.items)
    (unknown_called w (runs w) (clauses_of i c.args.program.now.clauses) i c.args.goal is p c.args.more u (no_clauses c.clauses.result.now _ (c.clauses.ensures ∙ ap (λ (j : Pi). clauses_of j c.args.program.now.clauses) c.in_ok-pi.ensures) (sym c.is_empty.ensures ∙ c.if-is_empty.true)))
