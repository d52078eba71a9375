use Rattle.sandbox_walk.specs.declared.unsafe_goal.Unsafe.TheVariants.{Sandboxed, Uninstantiated, NotCallable}
use Rattle.pengines.proofs.Judging.{passed, said, sandboxed, uninstantiated, not_callable}
use Rattle.pengines.proofs.checking.verdict_on.Goals as goal

pub returns-in-Ok : goal.returns-in-Ok
returns-in-Ok c = passed c.args.program.now.value c.args.goal.now c.in-Ok.ensures.passed

pub returns-in-Err-Sandboxed : goal.returns-in-Err-Sandboxed
returns-in-Err-Sandboxed c = sandboxed c.args.program.now.value c.args.goal.now c.in-Err-Sandboxed.pi (said c.args.program.now.value c.args.goal.now _ _ c.in-Err-Sandboxed.field-0-is c.in-Err-Sandboxed.ensures.refused)

pub returns-in-Err-Uninstantiated : goal.returns-in-Err-Uninstantiated
returns-in-Err-Uninstantiated c = uninstantiated c.args.program.now.value c.args.goal.now (said c.args.program.now.value c.args.goal.now _ _ c.in-Err-Uninstantiated.field-0-is c.in-Err-Uninstantiated.ensures.refused)

pub returns-in-Err-NotCallable : goal.returns-in-Err-NotCallable
returns-in-Err-NotCallable c = not_callable c.args.program.now.value c.args.goal.now c.in-Err-NotCallable.term (said c.args.program.now.value c.args.goal.now _ _ c.in-Err-NotCallable.field-0-is c.in-Err-NotCallable.ensures.refused)
