-- Each reading that the rules allow is what the machine reads.
use Rattle.std.specs.Prelude.{◌≡◌, refl, ℕ, Bool, true, false, not, ◌&&◌, ◌||◌, nat_le, List, [], ◌∷◌, Option, Some, None, is_some}
use Rattle.std.proofs.Common.{arith, ap, ◌∙◌, sym}
use Rattle.std.proofs.lemmas.Bool.{false≢true}
use Rattle.op_table.specs.declared.op.Op.{Op}
use Rattle.op_table.specs.declared.op.OpKind.{OpKind}
use Rattle.op_table.specs.declared.op.OpKind.TheVariants.{Xfx, Xfy, Yfx, Fx, Fy}
use Rattle.op_table.specs.Table.{left_of, right_of}
use Rattle.prolog_grammar.specs.declared.grammar.lexeme.Word.{Word}
use Rattle.prolog_grammar.specs.declared.grammar.lexeme.Lexeme.{Lexeme}
use Rattle.prolog_grammar.specs.declared.grammar.lexeme.Lexeme.TheVariants.{Name, Integer, Variable, Text, Open, Close, OpenList, CloseList, OpenCurly, CloseCurly, Comma, Bar}
use Rattle.prolog_grammar.specs.Readings.{Bytes, Reading, Unknown, Digits, Negative, Letters, Plain, Call, Round, Curly, Listed, Partial, Before, Between, Readings, one, and, yield, elements, priority, ends, joins, joins_front, IsReading}
use Rattle.prolog_grammar.specs.Readings as g
use Rattle.prolog_grammar.specs.Machine.{Done, nothing, after, filled, Frame, InRound, InCurly, InList, InTail, InCall, BehindPrefix, BehindInfix, most, State, Wants, Named, Has, Stuck, start}
use Rattle.prolog_grammar.specs.Machine as m

pub both : (a b : Bool) → (a && b) ≡ true → (a ≡ true) × (b ≡ true)
both true b e = (refl, e)
both false b e = absurd (false≢true e)

pub not-true : {b : Bool} → not b ≡ true → b ≡ false
not-true {b = true} e = absurd (false≢true e)
not-true {b = false} e = refl

pub negated : (a : Bool) → a ≡ false → not a ≡ true
negated a e = rw e refl

pub pair : (a b : Bool) → a ≡ true → b ≡ true → (a && b) ≡ true
pair a b e f = rw (e, f) refl

or_right : (a : Bool) → (a || true) ≡ true
or_right true = refl
or_right false = refl

le_trans : (a b c : ℕ) → nat_le a b ≡ true → nat_le b c ≡ true → nat_le a c ≡ true
le_trans a b c e f = grind (arith, e, f)

beyond : (n : ℕ) → nat_le n 999 ≡ true → nat_le 1000 n ≡ false
beyond n e = grind (arith, e)

rights : (p : ℕ) (k : OpKind) → nat_le (right_of (record { priority = p; kind = k })) p ≡ true
rights p Xfx = grind arith
rights p Xfy = grind arith
rights p Yfx = grind arith
rights p Fx = grind arith
rights p Fy = grind arith

left_below : (p : ℕ) (k : OpKind) → nat_le (left_of (record { priority = p; kind = k })) p ≡ true
left_below p Xfx = grind arith
left_below p Xfy = grind arith
left_below p Yfx = grind arith
left_below p Fx = grind arith
left_below p Fy = grind arith

some_operator : {A : Type 0} {x : A} → (o : Option A) (b : Bool) → o ≡ Some x → (is_some o || b) ≡ true
some_operator o b e = rw e refl

-- a token that stands directly behind the one before and belongs to it
unfoldable pub is_direct : Lexeme → Bool
is_direct (Open d) = d
is_direct (Integer n d) = d
is_direct _ = false

no_direct : (a b : Bool) → a ≡ false → (a && b) ≡ false
no_direct a b e = rw e refl

pub not_joined : (w : Word) (k : Lexeme) → is_direct k ≡ false → joins w k ≡ false
unfolding is_direct
not_joined w (Open d) e = e
not_joined w (Integer n d) e = no_direct d w.is_minus e
not_joined w (Name v) e = refl
not_joined w (Variable v) e = refl
not_joined w (Text cs) e = refl
not_joined w Close e = refl
not_joined w OpenList e = refl
not_joined w CloseList e = refl
not_joined w OpenCurly e = refl
not_joined w CloseCurly e = refl
not_joined w Comma e = refl
not_joined w Bar e = refl

is_none : {A : Type 0} → Option A → Bool
is_none None = true
is_none (Some x) = false

pub none_some : {A : Type 0} {x : A} → (o : Option A) → o ≡ None → o ≡ Some x → ⊥
unfolding is_none
none_some o e f = false≢true (sym (ap is_none (sym e ∙ f)))

module _ (prefix infix_op : Bytes → Option Op) where
  abbrev pub run : List Lexeme → State → Option Reading
  run = m.run prefix infix_op

  -- an infix operator is no such token
  pub not_direct : (k : Lexeme) (x : Bytes × Op) → g.row prefix infix_op k ≡ Some x → is_direct k ≡ false
  unfolding is_direct
  not_direct (Name w) x e = refl
  not_direct Comma x e = refl
  not_direct (Integer n d) x e = absurd (none_some _ refl e)
  not_direct (Variable v) x e = refl
  not_direct (Text cs) x e = refl
  not_direct (Open d) x e = absurd (none_some _ refl e)
  not_direct Close x e = refl
  not_direct OpenList x e = refl
  not_direct CloseList x e = refl
  not_direct OpenCurly x e = refl
  not_direct CloseCurly x e = refl
  not_direct Bar x e = refl

  -- what comes next goes on with nothing at the right edge
  unfoldable pub Quiet : List Lexeme → Reading → Type 0
  Quiet [] r = Unit {0}
  Quiet (k ∷ ks) r = (g.quiet prefix infix_op k r ≡ true) × (is_direct k ≡ false)

  -- the token behind the operand, and what the state was before
  pub passed : (k : Lexeme) (st : List Frame) (r : Reading) (other : State) → g.goes_on prefix infix_op (most st) (priority r) k ≡ false → m.or_else prefix infix_op k st r other ≡ other
  passed k st r other e = rw e refl

  pub reduce_prefix : (ks : List Lexeme) (w : Word) (o : Op) (st : List Frame) (r : Reading) → Quiet ks (Before w o r) → run ks (Has (BehindPrefix w o ∷ st) r) ≡ run ks (Has st (Before w o r))
  unfolding Quiet m.run m.behind g.quiet
  reduce_prefix [] w o st r q = refl
  reduce_prefix (k ∷ ks) w o st r q = ap (run ks) (passed k (BehindPrefix w o ∷ st) r _ (not-true (both _ _ q.0).0))

  pub reduce_infix : (ks : List Lexeme) (l : Reading) (j : Lexeme) (f : Bytes) (o : Op) (st : List Frame) (r : Reading) → Quiet ks (Between l j f o r) → run ks (Has (BehindInfix l j f o ∷ st) r) ≡ run ks (Has st (Between l j f o r))
  unfolding Quiet m.run m.behind g.quiet
  reduce_infix [] l j f o st r q = refl
  reduce_infix (k ∷ ks) l j f o st r q = ap (run ks) (passed k (BehindInfix l j f o ∷ st) r _ (not-true (both _ _ q.0).0))

  -- a reading's first token doesn't belong to the name before it, and ends no operand
  Begins : Word → List Lexeme → Type 0
  Begins w [] = ⊥
  Begins w (k ∷ ks) = (joins w k ≡ false) × (ends k ≡ false)

  begins : (w : Word) (r : Reading) (ks : List Lexeme) → joins_front w r ≡ false → Begins w (yield r ks)
  unfolding Begins yield
  begins w (Unknown v) ks e = (refl, refl)
  begins w (Digits n d) ks e = (e, refl)
  begins w (Negative v n) ks e = (refl, refl)
  begins w (Letters cs) ks e = (refl, refl)
  begins w (Plain v) ks e = (refl, refl)
  begins w (Call v rs) ks e = (refl, refl)
  begins w (Round d r) ks e = (e, refl)
  begins w (Curly r) ks e = (refl, refl)
  begins w (Listed rs) ks e = (refl, refl)
  begins w (Partial rs r) ks e = (refl, refl)
  begins w (Before v o r) ks e = (refl, refl)
  begins w (Between l k f o r) ks e = begins w l (k ∷ yield r ks) e

  enter : (ks : List Lexeme) (w : Word) (o : Op) (st : List Frame) → Begins w ks → prefix w.text ≡ Some o → nat_le o.priority (most st) ≡ true → run ks (Named st w) ≡ run ks (Wants (BehindPrefix w o ∷ st))
  unfolding Begins m.run m.named g.is_operator
  enter [] w o st b p e = absurd b
  enter (k ∷ ks) w o st b p e = rw (b.0, b.1, p, e) refl

  pub alone : (ks : List Lexeme) (w : Word) (st : List Frame) → Quiet ks (Plain w) → run ks (Named st w) ≡ run ks (Has st (Plain w))
  unfolding Quiet m.run m.named g.quiet
  alone [] w st q = refl
  alone (k ∷ ks) w st q = rw (not_joined w k q.1, q.0) refl

  -- a functor's bracket, a minus's digits
  enter_call : (ks : List Lexeme) (w : Word) (st : List Frame) → run (Open true ∷ ks) (Named st w) ≡ run ks (Wants (InCall w nothing ∷ st))
  unfolding m.run m.named
  enter_call ks w st = refl

  enter_digits : (ks : List Lexeme) (w : Word) (n : ℕ) (st : List Frame) → w.is_minus ≡ true → run (Integer n true ∷ ks) (Named st w) ≡ run ks (Has st (Negative w n))
  unfolding m.run m.named
  enter_digits ks w n st e = rw e refl

  -- a token that is no operator and ends an operand is quiet
  pub quiet_closer : (k : Lexeme) → g.row prefix infix_op k ≡ None → ends k ≡ true → (r : Reading) → g.quiet prefix infix_op k r ≡ true
  unfolding g.quiet g.goes_on
  quiet_closer k n e (Unknown v) = refl
  quiet_closer k n e (Digits i d) = refl
  quiet_closer k n e (Negative w i) = refl
  quiet_closer k n e (Letters cs) = refl
  quiet_closer k n e (Plain w) = rw e (or_right _)
  quiet_closer k n e (Call w rs) = refl
  quiet_closer k n e (Round d r) = refl
  quiet_closer k n e (Curly r) = refl
  quiet_closer k n e (Listed rs) = refl
  quiet_closer k n e (Partial rs r) = refl
  quiet_closer k n e (Before w o r) = pair _ _ (negated _ (rw n refl)) (quiet_closer k n e r)
  quiet_closer k n e (Between l j f o r) = pair _ _ (negated _ (rw n refl)) (quiet_closer k n e r)

  -- it doesn't go on with an operand either
  pub no_row : (k : Lexeme) → g.row prefix infix_op k ≡ None → (n p : ℕ) → g.goes_on prefix infix_op n p k ≡ false
  unfolding g.goes_on
  no_row k e n p = rw e refl

  -- a comma doesn't go on where the place allows 999 at most
  no_comma : (n p : ℕ) → nat_le n 999 ≡ true → g.goes_on prefix infix_op n p Comma ≡ false
  unfolding g.goes_on
  no_comma n p e = rw (beyond n e) refl

  right_below : (o : Op) → nat_le o.priority 999 ≡ true → nat_le (right_of o) 999 ≡ true
  right_below o e = le_trans (right_of o) o.priority 999 (rights o.priority o.kind) e

  pub quiet_comma : (r : Reading) → g.Fits prefix infix_op r → nat_le (priority r) 999 ≡ true → g.quiet prefix infix_op Comma r ≡ true
  unfolding g.quiet g.Fits
  quiet_comma (Unknown v) w e = refl
  quiet_comma (Digits i d) w e = refl
  quiet_comma (Negative v i) w e = refl
  quiet_comma (Letters cs) w e = refl
  quiet_comma (Plain v) w e = or_right _
  quiet_comma (Call v rs) w e = refl
  quiet_comma (Round d r) w e = refl
  quiet_comma (Curly r) w e = refl
  quiet_comma (Listed rs) w e = refl
  quiet_comma (Partial rs r) w e = refl
  quiet_comma (Before v o r) w e = pair _ _ (negated _ (no_comma (right_of o) (priority r) (right_below o e))) (quiet_comma r w.0 (le_trans (priority r) (right_of o) 999 w.2 (right_below o e)))
  quiet_comma (Between l k f o r) w e = pair _ _ (negated _ (no_comma (right_of o) (priority r) (right_below o e))) (quiet_comma r w.1 (le_trans (priority r) (right_of o) 999 w.4 (right_below o e)))

  quiet_prefix : (ks : List Lexeme) (w : Word) (o : Op) (r : Reading) → Quiet ks (Before w o r) → Quiet ks r
  unfolding Quiet g.quiet
  quiet_prefix [] w o r q = tt
  quiet_prefix (k ∷ ks) w o r q = ((both _ _ q.0).1, q.1)

  quiet_infix : (ks : List Lexeme) (l : Reading) (j : Lexeme) (f : Bytes) (o : Op) (r : Reading) → Quiet ks (Between l j f o r) → Quiet ks r
  unfolding Quiet g.quiet
  quiet_infix [] l j f o r q = tt
  quiet_infix (k ∷ ks) l j f o r q = ((both _ _ q.0).1, q.1)

  shifts : (k : Lexeme) (st : List Frame) (l : Reading) (f : Bytes) (o : Op) (other : State) → g.row prefix infix_op k ≡ Some (f, o) → nat_le o.priority (most st) ≡ true → nat_le (priority l) (left_of o) ≡ true → m.or_else prefix infix_op k st l other ≡ Wants (BehindInfix l k f o ∷ st)
  unfolding g.goes_on
  shifts k st l f o other r e h = rw (r, e, h) refl

  goes : (k : Lexeme) (st : List Frame) (l : Reading) (f : Bytes) (o : Op) → g.row prefix infix_op k ≡ Some (f, o) → nat_le o.priority (most st) ≡ true → nat_le (priority l) (left_of o) ≡ true → m.behind prefix infix_op k st l ≡ Wants (BehindInfix l k f o ∷ st)
  unfolding m.behind
  goes k [] l f o r e h = shifts k [] l f o _ r e h
  goes k (InRound d ∷ st) l f o r e h = shifts k (InRound d ∷ st) l f o _ r e h
  goes k (InCurly ∷ st) l f o r e h = shifts k (InCurly ∷ st) l f o _ r e h
  goes k (InList d ∷ st) l f o r e h = shifts k (InList d ∷ st) l f o _ r e h
  goes k (InTail rs ∷ st) l f o r e h = shifts k (InTail rs ∷ st) l f o _ r e h
  goes k (InCall w d ∷ st) l f o r e h = shifts k (InCall w d ∷ st) l f o _ r e h
  goes k (BehindPrefix w p ∷ st) l f o r e h = shifts k (BehindPrefix w p ∷ st) l f o _ r e h
  goes k (BehindInfix j i n p ∷ st) l f o r e h = shifts k (BehindInfix j i n p ∷ st) l f o _ r e h

  left_fits : (n p : ℕ) (o : Op) → nat_le p (left_of o) ≡ true → nat_le o.priority n ≡ true → nat_le p n ≡ true
  left_fits n p o e h = le_trans p o.priority n (le_trans p (left_of o) o.priority e (left_below o.priority o.kind)) h

  mutual
    unfolding m.run g.quiet yield g.Fits Quiet m.named m.behind is_direct

    pub complete : (r : Reading) (st : List Frame) (ks : List Lexeme) → g.Fits prefix infix_op r → nat_le (priority r) (most st) ≡ true → Quiet ks r → run (yield r ks) (Wants st) ≡ run ks (Has st r)
    complete (Unknown v) st ks w e q = refl
    complete (Digits n d) st ks w e q = refl
    complete (Negative v n) st ks w e q = enter_digits ks v n st w
    complete (Letters cs) st ks w e q = refl
    complete (Plain v) st ks w e q = alone ks v st q
    complete (Call v rs) st ks w e q = enter_call (elements rs (Close ∷ ks)) v st ∙ complete_call rs v nothing st ks w
    complete (Round d r) st ks w e q =
        complete r (InRound d ∷ st) (Close ∷ ks) w.0 w.1 (quiet_closer Close refl refl r, refl) ∙ ap (run ks) (passed Close (InRound d ∷ st) r _ (no_row Close refl 1200 (priority r)))
    complete (Curly r) st ks w e q =
        complete r (InCurly ∷ st) (CloseCurly ∷ ks) w.0 w.1 (quiet_closer CloseCurly refl refl r, refl) ∙ ap (run ks) (passed CloseCurly (InCurly ∷ st) r _ (no_row CloseCurly refl 1200 (priority r)))
    complete (Listed rs) st ks w e q = complete_list rs nothing st ks w
    complete (Partial rs r) st ks w e q =
        complete_front rs nothing st (yield r (CloseList ∷ ks)) w.0
        ∙ complete r (InTail rs ∷ st) (CloseList ∷ ks) w.1 w.2 (quiet_closer CloseList refl refl r, refl) ∙ ap (run ks) (passed CloseList (InTail rs ∷ st) r _ (no_row CloseList refl 999 (priority r)))
    complete (Before v o r) st ks w e q =
        enter (yield r ks) v o st (begins v r ks w.3) w.1 e ∙ complete r (BehindPrefix v o ∷ st) ks w.0 w.2 (quiet_prefix ks v o r q) ∙ reduce_prefix ks v o st r q
    complete (Between l k f o r) st ks w e q =
        complete l st (k ∷ yield r ks) w.0 (left_fits (most st) (priority l) o w.3 e) (w.5, not_direct k (f, o) w.2)
        ∙ ap (run (yield r ks)) (goes k st l f o w.2 e w.3)
        ∙ complete r (BehindInfix l k f o ∷ st) ks w.1 w.4 (quiet_infix ks l k f o r q) ∙ reduce_infix ks l k f o st r q

    complete_call : (rs : Readings) (v : Word) (d : Done) (st : List Frame) (ks : List Lexeme) → g.FitAll prefix infix_op rs → run (elements rs (Close ∷ ks)) (Wants (InCall v d ∷ st)) ≡ run ks (Has st (Call v (filled d rs)))
    complete_call (one r) v d st ks w = complete r (InCall v d ∷ st) (Close ∷ ks) w.0 w.1 (quiet_closer Close refl refl r, refl) ∙ ap (run ks) (passed Close (InCall v d ∷ st) r _ (no_row Close refl 999 (priority r)))
    complete_call (and r rs) v d st ks w =
        complete r (InCall v d ∷ st) (Comma ∷ elements rs (Close ∷ ks)) w.0 w.1 (quiet_comma r w.0 w.1, refl) ∙ ap (run (elements rs (Close ∷ ks))) (passed Comma (InCall v d ∷ st) r _ (no_comma 999 (priority r) refl))
        ∙ complete_call rs v (after d r) st ks w.2

    complete_list : (rs : Readings) (d : Done) (st : List Frame) (ks : List Lexeme) → g.FitAll prefix infix_op rs → run (elements rs (CloseList ∷ ks)) (Wants (InList d ∷ st)) ≡ run ks (Has st (Listed (filled d rs)))
    complete_list (one r) d st ks w = complete r (InList d ∷ st) (CloseList ∷ ks) w.0 w.1 (quiet_closer CloseList refl refl r, refl) ∙ ap (run ks) (passed CloseList (InList d ∷ st) r _ (no_row CloseList refl 999 (priority r)))
    complete_list (and r rs) d st ks w =
        complete r (InList d ∷ st) (Comma ∷ elements rs (CloseList ∷ ks)) w.0 w.1 (quiet_comma r w.0 w.1, refl) ∙ ap (run (elements rs (CloseList ∷ ks))) (passed Comma (InList d ∷ st) r _ (no_comma 999 (priority r) refl))
        ∙ complete_list rs (after d r) st ks w.2

    complete_front : (rs : Readings) (d : Done) (st : List Frame) (ks : List Lexeme) → g.FitAll prefix infix_op rs → run (elements rs (Bar ∷ ks)) (Wants (InList d ∷ st)) ≡ run ks (Wants (InTail (filled d rs) ∷ st))
    complete_front (one r) d st ks w = complete r (InList d ∷ st) (Bar ∷ ks) w.0 w.1 (quiet_closer Bar refl refl r, refl) ∙ ap (run ks) (passed Bar (InList d ∷ st) r _ (no_row Bar refl 999 (priority r)))
    complete_front (and r rs) d st ks w =
        complete r (InList d ∷ st) (Comma ∷ elements rs (Bar ∷ ks)) w.0 w.1 (quiet_comma r w.0 w.1, refl) ∙ ap (run (elements rs (Bar ∷ ks))) (passed Comma (InList d ∷ st) r _ (no_comma 999 (priority r) refl))
        ∙ complete_front rs (after d r) st ks w.2

  -- the law
  pub found : (ks : List Lexeme) (r : Reading) → IsReading prefix infix_op ks r → run ks start ≡ Some r
  unfolding m.run Quiet
  found ks r h = ap (λ ks. run ks start) (sym h.tokens) ∙ complete r [] [] h.fits h.priority tt
