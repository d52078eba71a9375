use Rattle.std.proofs.Common.{ℕ, List, ◌++◌, ◌∷◌, [], ap, subst, sym, ◌∙◌}
use Rattle.term_core.specs.Tree.{Tree}
use Rattle.term_core.specs.Substitution.{apply}
use Rattle.solve_model.specs.declared.answers.TraceMark.{TraceMark}
use Rattle.solve_model.specs.declared.answers.TraceMark.TheVariants as shown
use Rattle.solve_model.specs.Dropping.{NoneCollect}
use Rattle.solve_model.specs.Run.{Answered}
use Rattle.solve_model.specs.Search.{resumed, traced_after, used_of}
use Rattle.solve_model.proofs.Gathering.{all_pass}
use Rattle.solve_model.proofs.Resume.{traced_marked}
use Rattle.solve_model.proofs.collecting.answer.Goals as goal

pub returns-in_ok-gather-in-Some-clause-answer : goal.returns-in_ok-gather-in-Some-clause-answer
returns-in_ok-gather-in-Some-clause-answer c = λ w r.
    ap (traced_after c.args.template.now c.args.search.now.marks) (c.in_ok-gather-in-Some.ensures w c.args.more (used_of c.args.search.now.steps c.args.search.now.replies) r)

pub returns-in_ok-push-in-None-clause-answer : goal.returns-in_ok-push-in-None-clause-answer
returns-in_ok-push-in-None-clause-answer c = λ w r.
    let t = c.args.template.now in
    let s = c.args.subst.now in
    let fs = c.args.search.now.stack.frames.items in
    let ms : List (ℕ × TraceMark) = c.args.search.now.marks in
    let n : ℕ = c.args.search.now.steps in
    ap (λ (l : List (ℕ × TraceMark)). traced_after t l (resumed w fs r)) (c.in_ok-push-in-None.ensures.ok ∙ ap (λ (x : Tree). ms ++ (n, shown.Answer x c.args.more) ∷ []) (c.in_ok-term-in-None.ensures ∙ ap (λ (x : List (ℕ × Tree)). apply x t) c.subst.ensures))
    ∙ traced_marked t ms (Answered s c.args.more) (used_of n c.args.search.now.replies) (resumed w fs r)
    ∙ ap (traced_after t ms) (sym (all_pass w fs (subst NoneCollect c.deref.ensures.value (rw c.in-None.is at c.innermost.ensures.none)) s c.args.more (used_of n c.args.search.now.replies) r))
