-- The lines that a script prints, line by line.
use Rattle.std.proofs.Common.{◌≡◌, ◌≢◌, List, [], ◌∷◌, refl, ap, sym, ◌∙◌, codes}
use Rattle.event_core.specs.declared.event.Event.TheVariants.{Create}
use Rattle.event_core.specs.Full.{Spec, Place, Free, In, Closed}
use Rattle.event_core.specs.Standing.{spec_of}
use Rattle.request_text.specs.declared.sent.Sent.{Sent}
use Rattle.request_text.specs.declared.sent.Sent.TheVariants.{Request, Abort, Destroy}
use Rattle.request_text.specs.Spelled.{Script}
use Rattle.request_text.specs.Lines.{sent_step, sent_brings, late, lines_with_late, script_lines, lines_left}
use Rattle.request_text.proofs.Acts.{full_is_sent}

-- after the end nothing is brought
pub brings_closed : (spec : Spec) (ss : List Sent) → sent_brings spec ss Closed ≡ []
brings_closed spec [] = refl
brings_closed spec (Request r ∷ ss) = brings_closed spec ss
brings_closed spec (Abort ∷ ss) = brings_closed spec ss
brings_closed spec (Destroy ∷ ss) = brings_closed spec ss

-- a late request prints `ended`
pub lines_left-late : (spec : Spec) (s : Sent) (ss : List Sent) → lines_left spec [] (s ∷ ss) Closed ≡ codes "ended" ∷ lines_left spec [] ss Closed
lines_left-late spec s ss =
    ap (λ es. lines_with_late es (s ∷ ss)) (brings_closed spec (s ∷ ss)) ∙ ap (λ es. codes "ended" ∷ lines_with_late es ss) (sym (brings_closed spec ss))

-- before the end a request brings its events
pub lines_left-step : (spec : Spec) (s : Sent) (ss : List Sent) (p : Place) → p ≢ Closed → lines_left spec [] (s ∷ ss) p ≡ lines_left spec (sent_step spec s p).emitted ss (sent_step spec s p).place
lines_left-step spec s ss Free h = refl
lines_left-step spec s ss (In q g) h = refl
lines_left-step spec s ss Closed h = absurd (h refl)

-- all of them
pub lines_left-script : (s : Script) → lines_left (spec_of s.program s.settings) (Create ∷ []) s.lines Free ≡ script_lines s
lines_left-script s =
    let spec : Spec = spec_of s.program s.settings in
    ap (λ es. lines_with_late es (late spec s.lines Free)) (sym (full_is_sent spec s.lines))
