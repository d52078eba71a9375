use Rattle.std.proofs.Common.{Err, ap, inl, inr}
use Rattle.pengines.proofs.run.session_status.Goals as goal

pub returns-in-Err-Refused-clause-refused : goal.returns-in-Err-Refused-clause-refused
returns-in-Err-Refused-clause-refused g c =
    let refused = c.in-Err-Refused.ensures.refused c.in-Err-Refused.fault (ap Err c.in-Err-Refused.field-0-is) in
    λ h. (refused.1, inr (record { fault = c.in-Err-Refused.fault; refused = refused.0; said = c.say_refusal.ensures.refused h }))

pub returns-in-Err-Refused-clause-memory : goal.returns-in-Err-Refused-clause-memory
returns-in-Err-Refused-clause-memory g c =
    let refused = c.in-Err-Refused.ensures.refused c.in-Err-Refused.fault (ap Err c.in-Err-Refused.field-0-is) in
    λ h. (inl refused.1, c.say_refusal.ensures.memory h)
