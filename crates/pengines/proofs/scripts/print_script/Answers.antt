use Rattle.std.proofs.Common.{Err, ap}
use Rattle.pengines.proofs.Lines.{SaysMemory-of_lines}
use Rattle.pengines.proofs.scripts.print_script.Goals as goal

pub returns-in-Err-Memory-clause-memory : goal.returns-in-Err-Memory-clause-memory
returns-in-Err-Memory-clause-memory g c =
    let lines = c.in-Err-Memory.ensures.memory (ap Err c.in-Err-Memory.field-0-is) in
    λ _. SaysMemory-of_lines _ _ _ _ _ _ lines c.print_lines.ensures.counted c.say.ensures
