-- Over a program that keeps to the sandbox no query reaches outside, and its turns start as they are to be.
use Rattle.std.proofs.Common.{◌≡◌, List, [], None, refl}
use Rattle.solve_model.specs.Trace.{world_of}
use Rattle.event_core.specs.declared.request.Ask.{Ask}
use Rattle.event_core.specs.declared.request.Request.{Request}
use Rattle.event_core.specs.Full.{Spec}
use Rattle.event_core.specs.Texts.{quoted}
use Rattle.event_core.specs.Fits.{fits}
use Rattle.event_core.specs.Names.{answer_term}
use Rattle.event_core.specs.Standing.{spec_of, chunk_of, style_of}
use Rattle.event_core.proofs.Refusing.{asked_stay_inside}
use Rattle.session.specs.Laws.{KeptProgramsResolve, TurnsStartWell}
use Rattle.session.proofs.Schedule.{Fitting, allowed, after_next, after_respond}
use Rattle.session.proofs.Starting.{IsOn, running}

pub kept_programs_resolve : KeptProgramsResolve
kept_programs_resolve cs s keeps = record {
  world = world_of cs [] s.limit;
  fits = fits quoted;
  style = style_of s;
  answer = λ a. answer_term s.names a;
  chunk = chunk_of s;
  is_part = λ a rs. refl;
  inside = λ a v rs. asked_stay_inside cs s a keeps v rs;
}

not_refused : {spec : Spec} {a : Ask} {rs : List Request} → Fitting spec a rs → spec.refusal a ≡ None
not_refused (allowed v) = v
not_refused (after_next c f e) = not_refused f
not_refused (after_respond t f e) = not_refused f

pub turns_start_well : TurnsStartWell
turns_start_well cs s keeps es l q e =
    let h : IsOn (spec_of cs s) (kept_programs_resolve cs s keeps) q _ _ = running (spec_of cs s) (kept_programs_resolve cs s keeps) es l q e in
    record { more = h.more; before = h.before; later = h.later; inside = asked_stay_inside cs s q.asked keeps (not_refused h.fitting) q.requests }
