-- What the sandbox says of a goal is the one verdict on it. So a goal that may be asked stays inside.
use Rattle.std.proofs.Common.{◌≡◌, ◌∙◌, Bool, true, false, if◌then◌else◌, Option, Some, None, ap, sym, subst, refl}
use Rattle.std.specs.Option.{option_map}
use Rattle.term_core.specs.Tree.{Tree}
use Rattle.term_core.specs.Variables.{numbered}
use Rattle.builtin_table.specs.Errors.{error_term, no_context}
use Rattle.builtin_table.specs.Table.{rows_of_app}
use Rattle.program.specs.Loaded.{Loaded}
use Rattle.sandbox_walk.specs.declared.unsafe_goal.Unsafe.{Unsafe}
use Rattle.sandbox_walk.specs.declared.unsafe_goal.Unsafe.TheVariants.{Sandboxed, Uninstantiated, NotCallable, Memory}
use Rattle.sandbox_walk.specs.Verdict.{VerdictOver, RefusesOver}
use Rattle.sandbox_walk.specs.Computed.{verdict_over, IsTheVerdict}
use Rattle.sandbox_walk.proofs.Rounds.{is_one}
use Rattle.sandbox_walk.proofs.Sound.{judged_stay_inside}
use Rattle.event_core.specs.declared.request.Ask.{Ask}
use Rattle.event_core.specs.Texts.{quoted}
use Rattle.event_core.specs.Fits.{fits}
use Rattle.event_core.specs.Stops.{resource_error}
use Rattle.event_core.specs.Refusals.{is_verdict, told_error, refused, refusal_of}
use Rattle.event_core.specs.Laws.{AskedGoalsStayInside}
use Rattle.event_core.specs.Names.{answer_term}

module _ (l : Loaded) (a : Ask) where
  the_one : IsTheVerdict (rows_of_app l.app) l.clauses a.goal
  the_one = is_one (rows_of_app l.app) l.clauses a.goal

  said : (v : Option Unsafe) → VerdictOver l a.goal v → option_map refused v ≡ refusal_of l a
  unfolding refusal_of
  said v h = ap (option_map refused) (the_one.only v h)

  pub passes : VerdictOver l a.goal None → None ≡ refusal_of l a
  passes h = said None h

  -- want of memory is no verdict
  pub refuses : (u : Unsafe) → is_verdict u ≡ true → RefusesOver l a.goal u → Some (refused u) ≡ refusal_of l a
  refuses (Sandboxed i) n h = said (Some (Sandboxed i)) h
  refuses Uninstantiated n h = said (Some Uninstantiated) h
  refuses (NotCallable t) n h = said (Some (NotCallable t)) h
  refuses Memory n h = cc

  no_verdict : refusal_of l a ≡ None → verdict_over l a.goal ≡ None
  unfolding refusal_of
  no_verdict h = go (verdict_over l a.goal) h
    where
      go : (v : Option Unsafe) → option_map refused v ≡ None → v ≡ None
      go None e = refl
      go (Some u) e = cc

  pub passed : refusal_of l a ≡ None → VerdictOver l a.goal None
  passed h = subst (VerdictOver l a.goal) (no_verdict h) the_one.stands

pub asked_stay_inside : AskedGoalsStayInside
asked_stay_inside l s a keeps h rs = λ i e. (judged_stay_inside l a.goal (passed l a h) keeps).inside _ (answer_term s.names a) i (record { clauses = refl; outside = refl }) e

-- the term that an event tells in place of an error

pub told_whole : (formal t : Tree) (b : Bool) → t ≡ numbered (error_term formal no_context) → b ≡ fits quoted t → b ≡ true → t ≡ told_error formal
told_whole formal t b e f g =
    e ∙ ap (λ (x : Bool). if x then numbered (error_term formal no_context) else resource_error) (sym g ∙ f ∙ ap (fits quoted) e)

pub told_instead : (formal t : Tree) (b : Bool) → t ≡ numbered (error_term formal no_context) → b ≡ fits quoted t → b ≡ false → resource_error ≡ told_error formal
told_instead formal t b e f g = ap (λ (x : Bool). if x then numbered (error_term formal no_context) else resource_error) (sym g ∙ f ∙ ap (fits quoted) e)
