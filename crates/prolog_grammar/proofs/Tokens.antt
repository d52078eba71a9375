-- A turn of the loop over the tokens.
use Rattle.std.specs.Prelude.{◌≡◌, refl, ℕ, ◌+◌, ◌<◌, ◌≤◌, List, ◌∷◌, length, drop, Option, Some, None, Result, Err}
use Rattle.std.proofs.Common.{ap, ◌∙◌, sym, get_or}
use Rattle.std.proofs.lemmas.List.{at_drop_more, at_drop_all}
use Rattle.term_core.specs.declared.node.Node.{Node}
use Rattle.op_table.specs.declared.op.Op.{Op}
use Rattle.prolog_grammar.specs.declared.grammar.fault.Fault.{Fault}
use Rattle.prolog_grammar.specs.declared.grammar.fault.Fault.TheVariants.{Syntax, Nesting, IntRange, Memory}
use Rattle.prolog_grammar.specs.declared.grammar.lexeme.Placed.{Placed}
use Rattle.prolog_grammar.specs.Readings.{Bytes}
use Rattle.prolog_grammar.specs.Read.{refusal, unless, ok_or, Tells}
use Rattle.prolog_grammar.specs.Stack.{Outcome, step, finish, reading, is_stuck, is_sized}

pub tells : {A : Type 0} (r : Result A Fault) (e : Fault) → r ≡ Err e → Tells r e
tells r (Syntax at) h = h
tells r (Nesting at) h = h
tells r (IntRange at) h = h
tells r Memory h = tt

module _ (prefix infix_op : Bytes → Option Op) (end : ℕ) where
  at_token : (ps : List Placed) (i : ℕ) (p : Placed) (y : Outcome) → i < length ps → p ≡ get_or ps i p → reading prefix infix_op end (drop i ps) y ≡ reading prefix infix_op end (p ∷ drop (i + 1) ps) y
  at_token ps i p y h e = ap (λ l. reading prefix infix_op end l y) (at_drop_more (λ l. l) ps i p h ∙ ap (λ q. q ∷ drop (i + 1) ps) (sym e))

  one_step : (p : Placed) (ps : List Placed) (y z : Outcome) → z ≡ step prefix infix_op p.lexeme y → reading prefix infix_op end (p ∷ ps) y ≡ unless (refusal p (is_stuck z.0) (is_sized z.0)) (reading prefix infix_op end ps z)
  unfolding reading
  one_step p ps y z e = rw e refl

  pub refused : (ps : List Placed) (i : ℕ) (p : Placed) (y z : Outcome) (fault : Fault) → i < length ps → p ≡ get_or ps i p → z ≡ step prefix infix_op p.lexeme y → refusal p (is_stuck z.0) (is_sized z.0) ≡ Some fault →
      reading prefix infix_op end (drop i ps) y ≡ Err fault
  refused ps i p y z fault h e s r = at_token ps i p y h e ∙ one_step p (drop (i + 1) ps) y z s ∙ ap (λ o. unless o (reading prefix infix_op end (drop (i + 1) ps) z)) r

  pub goes_on : (ps : List Placed) (i : ℕ) (p : Placed) (y z : Outcome) → i < length ps → p ≡ get_or ps i p → z ≡ step prefix infix_op p.lexeme y → refusal p (is_stuck z.0) (is_sized z.0) ≡ None →
      reading prefix infix_op end (drop i ps) y ≡ reading prefix infix_op end (drop (i + 1) ps) z
  goes_on ps i p y z h e s r = at_token ps i p y h e ∙ one_step p (drop (i + 1) ps) y z s ∙ ap (λ o. unless o (reading prefix infix_op end (drop (i + 1) ps) z)) r

  pub at_end : (ps : List Placed) (i : ℕ) (y : Outcome) (o : Option (List Node)) → length ps ≤ i → finish y ≡ o → reading prefix infix_op end (drop i ps) y ≡ ok_or o (Syntax end)
  unfolding reading
  at_end ps i y o h e = at_drop_all (λ l. reading prefix infix_op end l y) ps i h ∙ ap (λ o. ok_or o (Syntax end)) e
