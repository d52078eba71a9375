use Rattle.std.proofs.Common.{Err, ap, inl, inr}
use Rattle.pengines.proofs.run.check_status.Goals as goal

pub returns-in-Err-Refused-clause-refused : goal.returns-in-Err-Refused-clause-refused
returns-in-Err-Refused-clause-refused g c =
    let refused = c.in-Err-Refused.ensures.refused c.in-Err-Refused.refusal (ap Err c.in-Err-Refused.field-0-is) in
    λ h. inr (refused.1, inr (record { refusal = c.in-Err-Refused.refusal; refused = refused.0 (c.say_refusal.ensures.not_memory h); said = c.say_refusal.ensures.refused h }))

pub returns-in-Err-Refused-clause-memory : goal.returns-in-Err-Refused-clause-memory
returns-in-Err-Refused-clause-memory g c =
    let refused = c.in-Err-Refused.ensures.refused c.in-Err-Refused.refusal (ap Err c.in-Err-Refused.field-0-is) in
    λ h. (refused.1, c.say_refusal.ensures.memory h)
