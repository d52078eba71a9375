-- The fault is at the first token that no continuation allows.
use Rattle.std.specs.Prelude.{◌≡◌, refl, true, false, List, [], ◌∷◌, ◌++◌, Option, Some, None}
use Rattle.std.proofs.Common.{ap, ◌∙◌, sym}
use Rattle.std.proofs.lemmas.Bool.{false≢true}
use Rattle.op_table.specs.declared.op.Op.{Op}
use Rattle.prolog_grammar.specs.declared.grammar.lexeme.Lexeme.{Lexeme}
use Rattle.prolog_grammar.specs.declared.grammar.lexeme.Lexeme.TheVariants.{Variable, Close, CloseList, CloseCurly}
use Rattle.prolog_grammar.specs.Readings.{Bytes, Reading, Unknown, Plain, Call, Round, Curly, Listed, Partial, Before, Between, one, priority}
use Rattle.prolog_grammar.specs.Machine.{filled, Frame, InRound, InCurly, InList, InTail, InCall, BehindPrefix, BehindInfix, most, State, Wants, Named, Has, Stuck, start, is_stuck, run_to}
use Rattle.prolog_grammar.specs.Machine as m
use Rattle.prolog_grammar.specs.Laws.{HasContinuation, LeastFaults}
use Rattle.prolog_grammar.proofs.Complete.{is_direct, none_some, Quiet, passed, no_row, quiet_closer, reduce_prefix, reduce_infix, alone, found}
use Rattle.prolog_grammar.proofs.Sound as sound

module _ (prefix infix_op : Bytes → Option Op) where
  abbrev run : List Lexeme → State → Option Reading
  run = m.run prefix infix_op

  run_after : (front ks : List Lexeme) (S : State) → run (front ++ ks) S ≡ run ks (run_to prefix infix_op front S)
  unfolding run_to m.run
  run_after [] ks S = refl
  run_after (k ∷ front) ks S = run_after front ks (m.step prefix infix_op k S)

  -- what closes the brackets that are open
  closers : List Frame → List Lexeme
  closers [] = []
  closers (InRound d ∷ st) = Close ∷ closers st
  closers (InCurly ∷ st) = CloseCurly ∷ closers st
  closers (InList d ∷ st) = CloseList ∷ closers st
  closers (InTail rs ∷ st) = CloseList ∷ closers st
  closers (InCall w d ∷ st) = Close ∷ closers st
  closers (BehindPrefix w o ∷ st) = closers st
  closers (BehindInfix l k f o ∷ st) = closers st

  quiet_closers : (st : List Frame) (r : Reading) → Quiet prefix infix_op (closers st) r
  unfolding closers Quiet is_direct
  quiet_closers [] r = tt
  quiet_closers (InRound d ∷ st) r = (quiet_closer prefix infix_op Close refl refl r, refl)
  quiet_closers (InCurly ∷ st) r = (quiet_closer prefix infix_op CloseCurly refl refl r, refl)
  quiet_closers (InList d ∷ st) r = (quiet_closer prefix infix_op CloseList refl refl r, refl)
  quiet_closers (InTail rs ∷ st) r = (quiet_closer prefix infix_op CloseList refl refl r, refl)
  quiet_closers (InCall w d ∷ st) r = (quiet_closer prefix infix_op Close refl refl r, refl)
  quiet_closers (BehindPrefix w o ∷ st) r = quiet_closers st r
  quiet_closers (BehindInfix l k f o ∷ st) r = quiet_closers st r

  Reads : List Lexeme → State → Type 0
  Reads ks S = (r : Reading) × (run ks S ≡ Some r)

  closes : (st : List Frame) (r : Reading) → Reads (closers st) (Has st r)
  unfolding closers m.run m.behind Reads
  closes [] r = (r, refl)
  closes (InRound d ∷ st) r =
      let found = closes st (Round d r) in
      (found.0, ap (run (closers st)) (passed prefix infix_op Close (InRound d ∷ st) r _ (no_row prefix infix_op Close refl 1200 (priority r))) ∙ found.1)
  closes (InCurly ∷ st) r =
      let found = closes st (Curly r) in
      (found.0, ap (run (closers st)) (passed prefix infix_op CloseCurly (InCurly ∷ st) r _ (no_row prefix infix_op CloseCurly refl 1200 (priority r))) ∙ found.1)
  closes (InList d ∷ st) r =
      let found = closes st (Listed (filled d (one r))) in
      (found.0, ap (run (closers st)) (passed prefix infix_op CloseList (InList d ∷ st) r _ (no_row prefix infix_op CloseList refl 999 (priority r))) ∙ found.1)
  closes (InTail rs ∷ st) r =
      let found = closes st (Partial rs r) in
      (found.0, ap (run (closers st)) (passed prefix infix_op CloseList (InTail rs ∷ st) r _ (no_row prefix infix_op CloseList refl 999 (priority r))) ∙ found.1)
  closes (InCall w d ∷ st) r =
      let found = closes st (Call w (filled d (one r))) in
      (found.0, ap (run (closers st)) (passed prefix infix_op Close (InCall w d ∷ st) r _ (no_row prefix infix_op Close refl 999 (priority r))) ∙ found.1)
  closes (BehindPrefix w o ∷ st) r =
      let found = closes st (Before w o r) in
      (found.0, reduce_prefix prefix infix_op (closers st) w o st r (quiet_closers st (Before w o r)) ∙ found.1)
  closes (BehindInfix l k f o ∷ st) r =
      let found = closes st (Between l k f o r) in
      (found.0, reduce_infix prefix infix_op (closers st) l k f o st r (quiet_closers st (Between l k f o r)) ∙ found.1)

  -- what completes a state that isn't stuck
  rest : State → List Lexeme
  rest (Wants st) = Variable 0 ∷ closers st
  rest (Named st w) = closers st
  rest (Has st r) = closers st
  rest Stuck = []

  completes : (S : State) → is_stuck S ≡ false → Reads (rest S) S
  unfolding rest m.run Reads
  completes (Wants st) e = closes st (Unknown 0)
  completes (Named st w) e = let found = closes st (Plain w) in (found.0, alone prefix infix_op (closers st) w st (quiet_closers st (Plain w)) ∙ found.1)
  completes (Has st r) e = closes st r
  completes Stuck e = absurd (false≢true (sym e))

  -- each front before a fault has a continuation that is read
  viable : (front : List Lexeme) → is_stuck (run_to prefix infix_op front start) ≡ false → HasContinuation prefix infix_op front
  unfolding Reads
  viable front e =
      let done = completes (run_to prefix infix_op front start) e in
      (rest (run_to prefix infix_op front start), done.0, sound.reads prefix infix_op _ done.0 (run_after front _ start ∙ done.1))

  none_from : (S : State) (ks : List Lexeme) → is_stuck S ≡ true → run ks S ≡ None
  none_from Stuck ks e = sound.stuck prefix infix_op ks
  none_from (Wants st) ks e = absurd (false≢true e)
  none_from (Named st w) ks e = absurd (false≢true e)
  none_from (Has st r) ks e = absurd (false≢true e)

  -- with the token of the fault none has
  refused : (front : List Lexeme) → is_stuck (run_to prefix infix_op front start) ≡ true → HasContinuation prefix infix_op front → ⊥
  refused front e h = none_some _ (run_after front h.0 start ∙ none_from (run_to prefix infix_op front start) h.0 e) (found prefix infix_op (front ++ h.0) h.1 h.2)

  -- the law
  pub least : (front : List Lexeme) → LeastFaults prefix infix_op front
  least front = record { viable = viable front; refused = refused front }
