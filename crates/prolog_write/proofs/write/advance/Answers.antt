use Rattle.std.proofs.Common.{◌≡◌, ◌<◌, ◌-◌, List, [], ◌∷◌, length, ap, ◌∙◌, sym, rules, arith}
use Rattle.std.specs.Prelude.{Some}
use Rattle.term_core.specs.Tree.{Tree}
use Rattle.prolog_write.specs.declared.mode.WriteStop.TheVariants.{TooLong}
use Rattle.prolog_write.specs.declared.place.Place.TheVariants.{Argument}
use Rattle.prolog_write.specs.declared.task.Want.TheVariants.{Term}
use Rattle.prolog_write.specs.declared.task.Task.{Task}
use Rattle.prolog_write.specs.Text.{mark}
use Rattle.prolog_write.specs.State.{State, with_piece}
use Rattle.prolog_write.specs.Duties.{Owing, pushed, take_arguments, duty_of, owed}
use Rattle.prolog_write.specs.Total.{total, awaiting}
use Rattle.prolog_write.proofs.Walk.{next_argument, whole_long}
use Rattle.prolog_write.proofs.write.advance.Goals as goal

pub returns-in_err-put-in-Arguments-clause-long : goal.returns-in_err-put-in-Arguments-clause-long
returns-in_err-put-in-Arguments-clause-long c =
    let left = c.in-Arguments.left in
    let some : 0 < left = grind arith in
    let popped : c.loop-task.stack ≡ pushed c.pop.new.self (take_arguments left ∷ []) =
    c.in-Some.ensures.next ∙ ap (λ (t : Task). pushed c.pop.new.self (duty_of c.loop-task.stack.mode t ∷ [])) c.in-Arguments.is in
    let long : c.in_err-put-in-Arguments.field-0.0 ≡ TooLong → (us : List Tree) → c.args.out.now.limit < length (total c.args.out.now c.args.stack.now us) =
    λ t us.
    (let s = with_piece c.loop-task.out (mark ",") in
    let o = awaiting (Some (Term Argument)) (pushed c.pop.new.self (take_arguments (left - 1) ∷ [])) in
    let e : total s o us ≡ total c.args.out.now c.args.stack.now us =
    next_argument c.loop-task.out c.pop.new.self left us some ∙ sym (ap (λ (p : Owing). total c.loop-task.out p us) popped) ∙ c.loop-task.invariant.same us in
    omega (arith, ap length e, whole_long s (owed o.mode o.duties us) c.loop-task.out.limit (c.in_err-put-in-Arguments.ensures.long t), c.loop-task.invariant.limit)) in
    search (rules, long)

pub returns-in-Arguments-clause-same : goal.returns-in-Arguments-clause-same
returns-in-Arguments-clause-same c =
    λ us.
    (let left = c.in-Arguments.left in
    let some : 0 < left = grind arith in
    let popped : c.loop-task.stack ≡ pushed c.pop.new.self (take_arguments left ∷ []) =
    c.in-Some.ensures.next ∙ ap (λ (t : Task). pushed c.pop.new.self (duty_of c.loop-task.stack.mode t ∷ [])) c.in-Arguments.is in
    ap (λ (o : Owing). total c.put-in-Arguments.new.self (awaiting (Some (Term Argument)) o) us) c.in_ok-push-in-Arguments.ensures
    ∙ ap (λ (s : State). total s (awaiting (Some (Term Argument)) (pushed c.pop.new.self (take_arguments (left - 1) ∷ []))) us) c.in_ok-put-in-Arguments.ensures.ok
    ∙ next_argument c.loop-task.out c.pop.new.self left us some
    ∙ sym (ap (λ (o : Owing). total c.loop-task.out o us) popped)
    ∙ c.loop-task.invariant.same us)
