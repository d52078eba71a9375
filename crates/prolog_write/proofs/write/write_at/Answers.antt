use Rattle.std.proofs.Common.{◌+◌, List, ◌∷◌, drop, ap, ◌∙◌, sym, subst}
use Rattle.std.specs.Prelude.{Option, Some}
use Rattle.term_core.specs.declared.node.Node.{Node}
use Rattle.term_core.specs.Flat.{build}
use Rattle.prolog_write.specs.declared.task.Want.{Want}
use Rattle.prolog_write.specs.declared.task.Want.TheVariants.{Term}
use Rattle.prolog_write.specs.State.{State}
use Rattle.prolog_write.specs.Duties.{EachFits, Owing, take_term}
use Rattle.prolog_write.specs.Total.{total, awaiting}
use Rattle.prolog_write.proofs.Walk.{total_start, fits_of, expanded, done, front}
use Rattle.prolog_write.proofs.write.write_at.Goals.{in-Some+in_ok-expand, in_default}
use Rattle.prolog_write.proofs.write.write_at.Goals as goal

pub loop-node-init : goal.loop-node-init
loop-node-init c =
    let ns = c.nodes-node-items.result.now in
    let e = c.nodes-node-items.ensures.nodes in
    let mode = ap (λ (o : Owing). o.mode) c.in_ok-push.ensures ∙ ap (λ (o : Owing). o.mode) c.new-stack.ensures in
    let duties = ap (λ (o : Owing). o.duties) c.in_ok-push.ensures ∙ ap (λ (o : Owing). take_term (Term c.args.place) ∷ o.duties) c.new-stack.ensures in
    record {
      same =
          total_start c.args.mode c.args.place c.args.t.now ns c.new-out.result c.push.new.self e
          (ap (λ (s : State). s.written) c.new-out.ensures) (ap (λ (s : State). s.ending) c.new-out.ensures) (ap (λ (s : State). s.behind_prefix) c.new-out.ensures) mode duties;
      limit = ap (λ (s : State). s.limit) c.new-out.ensures;
      mode = mode;
      fits = fits_of c.args.t.now ns e c.nodes-node-items.ensures.is_term;
    }

pub loop-node-preserved : goal.loop-node-preserved
loop-node-preserved c =
    let ns = c.nodes-node-items.result.now in
    let i = c.loop-node.node-index in
    let n = c.node-item.result in
    let f = front ns i n c.loop-node-test.true c.node-item.is in
    let p : EachFits (n ∷ drop (i + 1) ns) = subst EachFits f c.loop-node.invariant.fits in
    let out = c.advance.new.out in
    let stack = c.advance.new.stack in
    let before = build (drop i ns) in
    let after = build (drop (i + 1) ns) in
    let so_far = c.in_ok-want.ensures.same before ∙ c.loop-node.invariant.same in
    let limit = c.in_ok-want.ensures.limit ∙ c.loop-node.invariant.limit in
    let mode = c.in_ok-want.ensures.mode ∙ c.loop-node.invariant.mode in
    elim c.match-branch-3.branch [
      | in-Some+in_ok-expand w ↦
          record {
            same =
                ap (λ (o : Owing). total out o after) w.stack-is
                ∙ expanded out stack _ w.in-Some.want n after p.0 w.in_ok-expand.ensures
                ∙ ap (λ (ms : List Node). total out (awaiting (Some w.in-Some.want) stack) (build ms)) (sym f)
                ∙ ap (λ (v : Option Want). total out (awaiting v stack) before) (sym w.in-Some.is)
                ∙ so_far;
            limit = limit;
            mode = ap (λ (o : Owing). o.mode) w.stack-is ∙ ap (λ (o : Owing). o.mode) w.in_ok-expand.ensures ∙ mode;
            fits = p.1;
          }
      | in_default w ↦
          record {
            same =
                ap (λ (o : Owing). total out o after) w.stack-is
                ∙ done out stack after before (c.in_ok-want.ensures.done w.in_default.is)
                ∙ ap (λ (v : Option Want). total out (awaiting v stack) before) (sym w.in_default.is)
                ∙ so_far;
            limit = limit;
            mode = ap (λ (o : Owing). o.mode) w.stack-is ∙ mode;
            fits = p.1;
          }
    ]
