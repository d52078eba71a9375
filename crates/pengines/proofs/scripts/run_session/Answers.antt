use Rattle.std.proofs.Common.{Err, ap, inr}
use Rattle.pengines.proofs.Reading.{reads_script}
use Rattle.pengines.proofs.scripts.run_session.Goals as goal

pub returns-in-Ok-print_script-clause-done : goal.returns-in-Ok-print_script-clause-done
returns-in-Ok-print_script-clause-done g c = record {
  lines = c.in_ok-printing.printing;
  read = reads_script _ _ _ _ _ _ _ c.in_ok-input.ensures.all c.in_ok-input.ensures.size c.deref.ensures.value c.in-Ok.ensures.script c.in_ok-printing.ensures;
  written = c.in-Ok-print_script.ensures.done;
}

pub returns-in-Err-WriteFault-clause-write_fault : goal.returns-in-Err-WriteFault-clause-write_fault
returns-in-Err-WriteFault-clause-write_fault g c =
    let failed = c.in-Err-WriteFault.ensures.write_fault (ap Err c.in-Err-WriteFault.field-0-is) in
    λ _. (
      failed.0,
      record {
        lines = c.in_ok-printing.printing;
        read = reads_script _ _ _ _ _ _ _ c.in_ok-input.ensures.all c.in_ok-input.ensures.size c.deref.ensures.value c.in-Ok.ensures.script c.in_ok-printing.ensures;
        written = failed.1;
      },
    )

pub returns-clause-memory : goal.returns-clause-memory
returns-clause-memory g c = λ _. inr (record {
  lines = c.in_ok-printing.printing;
  read = reads_script _ _ _ _ _ _ _ c.in_ok-input.ensures.all c.in_ok-input.ensures.size c.deref.ensures.value c.in-Ok.ensures.script c.in_ok-printing.ensures;
  written = c.in-Err-Memory-print_script.ensures.memory (ap Err c.in-Err-Memory-print_script.field-0-is);
})
