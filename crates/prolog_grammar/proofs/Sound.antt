-- What the machine reads is a reading that the rules allow, of just those tokens.
use Rattle.std.specs.Prelude.{◌≡◌, refl, Bool, true, false, not, ◌||◌, nat_le, List, [], ◌∷◌, Option, Some, None, if◌then◌else◌}
use Rattle.std.proofs.Common.{ap, ◌∙◌, subst}
use Rattle.std.proofs.lemmas.Bool.{false≢true}
use Rattle.std.proofs.Math.Dec.{leb-zero}
use Rattle.op_table.specs.declared.op.Op.{Op}
use Rattle.op_table.specs.Table.{left_of, right_of}
use Rattle.prolog_grammar.specs.declared.grammar.lexeme.Word.{Word}
use Rattle.prolog_grammar.specs.declared.grammar.lexeme.Lexeme.{Lexeme}
use Rattle.prolog_grammar.specs.declared.grammar.lexeme.Lexeme.TheVariants.{Name, Integer, Variable, Text, Open, Close, OpenList, CloseList, OpenCurly, CloseCurly, Comma, Bar}
use Rattle.prolog_grammar.specs.Readings.{Bytes, Reading, Unknown, Digits, Negative, Letters, Plain, Call, Round, Curly, Listed, Partial, Before, Between, Readings, one, and, yield, elements, priority, ends, joins, joins_front, IsReading}
use Rattle.prolog_grammar.specs.Readings as g
use Rattle.prolog_grammar.specs.Machine.{Done, nothing, after, filled, Frame, InRound, InCurly, InList, InTail, InCall, BehindPrefix, BehindInfix, most, State, Wants, Named, Has, Stuck, start}
use Rattle.prolog_grammar.specs.Machine as m
use Rattle.prolog_grammar.proofs.Complete.{both, pair, negated, none_some}

or_this : {A : Type 0} → A → Option A → A
or_this a None = a
or_this a (Some b) = b

pub some_same : {A : Type 0} (a b : A) → Some a ≡ Some b → a ≡ b
unfolding or_this
some_same a b e = ap (or_this a) e

-- a choice, by either way
choose : (P : State → Type 0) (b : Bool) (x y : State) → (b ≡ true → P x) → (b ≡ false → P y) → P (if b then x else y)
choose P true x y f h = f refl
choose P false x y f h = h refl

-- the tokens that a state stands for, before some others
given : Done → List Lexeme → List Lexeme
given nothing ks = ks
given (after d r) ks = given d (yield r (Comma ∷ ks))

under : List Frame → List Lexeme → List Lexeme
under [] ks = ks
under (InRound d ∷ st) ks = under st (Open d ∷ ks)
under (InCurly ∷ st) ks = under st (OpenCurly ∷ ks)
under (InList d ∷ st) ks = under st (OpenList ∷ given d ks)
under (InTail rs ∷ st) ks = under st (OpenList ∷ elements rs (Bar ∷ ks))
under (InCall w d ∷ st) ks = under st (Name w ∷ Open true ∷ given d ks)
under (BehindPrefix w o ∷ st) ks = under st (Name w ∷ ks)
under (BehindInfix l k f o ∷ st) ks = under st (yield l (k ∷ ks))

module _ (prefix infix_op : Bytes → Option Op) where
  abbrev run : List Lexeme → State → Option Reading
  run = m.run prefix infix_op

  Fits : Reading → Type 0
  unfolding g.Fits
  Fits = g.Fits prefix infix_op

  quiet : Lexeme → Reading → Bool
  quiet = g.quiet prefix infix_op

  FitDone : Done → Type 0
  FitDone nothing = Unit {0}
  FitDone (after d r) = FitDone d × Fits r × (nat_le (priority r) 999 ≡ true)

  -- the frames, below what begins with a token that belongs to these names
  Good : List Frame → (Word → Bool) → Type 0
  Good [] d = Unit {0}
  Good (InRound b ∷ st) d = Good st (λ w. b)
  Good (InCurly ∷ st) d = Good st (λ w. false)
  Good (InList done ∷ st) d = Good st (λ w. false) × FitDone done
  Good (InTail rs ∷ st) d = Good st (λ w. false) × g.FitAll prefix infix_op rs
  Good (InCall v done ∷ st) d = Good st (λ w. false) × FitDone done
  Good (BehindPrefix v o ∷ st) d = Good st (λ w. false) × (d v ≡ false) × (prefix v.text ≡ Some o) × (nat_le o.priority (most st) ≡ true)
  Good (BehindInfix l k f o ∷ st) d = Good st (λ w. joins_front w l) × Fits l × (g.row prefix infix_op k ≡ Some (f, o)) × (nat_le (priority l) (left_of o) ≡ true) × (quiet k l ≡ true) × (nat_le o.priority (most st) ≡ true)

  Right : State → Type 0
  Right (Wants st) = (d : Word → Bool) → Good st d
  Right (Named st v) = Good st (λ w. false)
  Right (Has st r) = Good st (λ w. joins_front w r) × Fits r × (nat_le (priority r) (most st) ≡ true) × ((k : Lexeme) → quiet k r ≡ true)
  Right Stuck = Unit {0}

  -- the state is right, and stands for these tokens before any others
  Means : (List Lexeme → List Lexeme) → State → Type 0
  Means before Stuck = Unit {0}
  Means before (Wants st) = Right (Wants st) × ((ks : List Lexeme) → under st ks ≡ before ks)
  Means before (Named st w) = Right (Named st w) × ((ks : List Lexeme) → under st (Name w ∷ ks) ≡ before ks)
  Means before (Has st r) = Right (Has st r) × ((ks : List Lexeme) → under st (yield r ks) ≡ before ks)

  shifted : (k : Lexeme) (st : List Frame) (r : Reading) → Good st (λ w. joins_front w r) → Fits r → quiet k r ≡ true → g.goes_on prefix infix_op (most st) (priority r) k ≡ true → Means (λ ks. under st (yield r (k ∷ ks))) (m.shift prefix infix_op k (g.row prefix infix_op k) st r)
  unfolding Means Right Good g.goes_on yield under
  shifted k st r h w q e = by (g.row prefix infix_op k) refl e
    where
      by : (x : Option (Bytes × Op)) → g.row prefix infix_op k ≡ x → g.row_fits prefix infix_op (most st) (priority r) x ≡ true → Means (λ ks. under st (yield r (k ∷ ks))) (m.shift prefix infix_op k x st r)
      by None i e = tt
      by (Some x) i e = (λ d. (h, w, i, (both _ _ e).1, q, (both _ _ e).0), λ ks. refl)

  fit_filled : (d : Done) (rs : Readings) → FitDone d → g.FitAll prefix infix_op rs → g.FitAll prefix infix_op (filled d rs)
  unfolding FitDone g.Fits Fits
  fit_filled nothing rs h w = w
  fit_filled (after d r) rs h w = fit_filled d (and r rs) h.0 (h.1, h.2, w)

  elements_filled : (d : Done) (rs : Readings) (ks : List Lexeme) → elements (filled d rs) ks ≡ given d (elements rs ks)
  unfolding yield given
  elements_filled nothing rs ks = refl
  elements_filled (after d r) rs ks = elements_filled d (and r rs) ks

  Behind : Lexeme → List Frame → Reading → State → Type 0
  unfolding Means
  Behind k st r = Means (λ ks. under st (yield r (k ∷ ks)))

  closes_group : (k : Lexeme) (b : Bool) (st : List Frame) (r : Reading) → Good st (λ w. b) → Fits r → nat_le (priority r) 1200 ≡ true → Behind k (InRound b ∷ st) r (m.group k b st r)
  unfolding Behind Means Right Good Fits g.Fits quiet g.quiet yield under
  closes_group Close b st r h w p = ((h, (w, p), leb-zero _, λ _. refl), λ _. refl)
  closes_group _ b st r h w p = tt

  closes_curly : (k : Lexeme) (st : List Frame) (r : Reading) → Good st (λ w. false) → Fits r → nat_le (priority r) 1200 ≡ true → Behind k (InCurly ∷ st) r (m.in_curly k st r)
  unfolding Behind Means Right Good Fits g.Fits quiet g.quiet yield under
  closes_curly CloseCurly st r h w p = ((h, (w, p), leb-zero _, λ _. refl), λ _. refl)
  closes_curly _ st r h w p = tt

  closes_list : (k : Lexeme) (d : Done) (st : List Frame) (r : Reading) → Good st (λ w. false) → FitDone d → Fits r → nat_le (priority r) 999 ≡ true → Behind k (InList d ∷ st) r (m.in_list k d st r)
  unfolding Behind Means Right Good Fits g.Fits quiet g.quiet yield under FitDone given
  closes_list Comma d st r h f w p = (λ _. (h, (f, w, p)), λ _. refl)
  closes_list CloseList d st r h f w p = ((h, fit_filled d (one r) f (w, p), leb-zero _, λ _. refl), λ ks. ap (λ l. under st (OpenList ∷ l)) (elements_filled d (one r) (CloseList ∷ ks)))
  closes_list Bar d st r h f w p = (λ _. (h, fit_filled d (one r) f (w, p)), λ ks. ap (λ l. under st (OpenList ∷ l)) (elements_filled d (one r) (Bar ∷ ks)))
  closes_list _ d st r h f w p = tt

  closes_tail : (k : Lexeme) (rs : Readings) (st : List Frame) (r : Reading) → Good st (λ w. false) → g.FitAll prefix infix_op rs → Fits r → nat_le (priority r) 999 ≡ true → Behind k (InTail rs ∷ st) r (m.in_tail k rs st r)
  unfolding Behind Means Right Good Fits g.Fits quiet g.quiet yield under
  closes_tail CloseList rs st r h f w p = ((h, (f, w, p), leb-zero _, λ _. refl), λ _. refl)
  closes_tail _ rs st r h f w p = tt

  closes_call : (k : Lexeme) (v : Word) (d : Done) (st : List Frame) (r : Reading) → Good st (λ w. false) → FitDone d → Fits r → nat_le (priority r) 999 ≡ true → Behind k (InCall v d ∷ st) r (m.argument k v d st r)
  unfolding Behind Means Right Good Fits g.Fits quiet g.quiet yield under FitDone given
  closes_call Close v d st r h f w p = ((h, fit_filled d (one r) f (w, p), leb-zero _, λ _. refl), λ ks. ap (λ l. under st (Name v ∷ Open true ∷ l)) (elements_filled d (one r) (Close ∷ ks)))
  closes_call Comma v d st r h f w p = (λ _. (h, (f, w, p)), λ _. refl)
  closes_call _ v d st r h f w p = tt

  sound : (k : Lexeme) (st : List Frame) (r : Reading) → Good st (λ w. joins_front w r) → Fits r → nat_le (priority r) (most st) ≡ true → quiet k r ≡ true → Behind k st r (m.behind prefix infix_op k st r)
  unfolding Behind Means Right Good m.behind Fits g.Fits quiet g.quiet yield under
  sound k [] r h w p q = choose (Behind k [] r) (g.goes_on prefix infix_op 1200 (priority r) k) _ Stuck (shifted k [] r h w q) (λ _. tt)
  sound k (InRound b ∷ st) r h w p q = choose (Behind k (InRound b ∷ st) r) (g.goes_on prefix infix_op 1200 (priority r) k) _ (m.group k b st r) (shifted k (InRound b ∷ st) r h w q) (λ _. closes_group k b st r h w p)
  sound k (InCurly ∷ st) r h w p q = choose (Behind k (InCurly ∷ st) r) (g.goes_on prefix infix_op 1200 (priority r) k) _ (m.in_curly k st r) (shifted k (InCurly ∷ st) r h w q) (λ _. closes_curly k st r h w p)
  sound k (InList d ∷ st) r h w p q = choose (Behind k (InList d ∷ st) r) (g.goes_on prefix infix_op 999 (priority r) k) _ (m.in_list k d st r) (shifted k (InList d ∷ st) r h w q) (λ _. closes_list k d st r h.0 h.1 w p)
  sound k (InTail rs ∷ st) r h w p q = choose (Behind k (InTail rs ∷ st) r) (g.goes_on prefix infix_op 999 (priority r) k) _ (m.in_tail k rs st r) (shifted k (InTail rs ∷ st) r h w q) (λ _. closes_tail k rs st r h.0 h.1 w p)
  sound k (InCall v d ∷ st) r h w p q = choose (Behind k (InCall v d ∷ st) r) (g.goes_on prefix infix_op 999 (priority r) k) _ (m.argument k v d st r) (shifted k (InCall v d ∷ st) r h w q) (λ _. closes_call k v d st r h.0 h.1 w p)
  sound k (BehindPrefix v o ∷ st) r h w p q = choose (Behind k (BehindPrefix v o ∷ st) r) (g.goes_on prefix infix_op (right_of o) (priority r) k) _ (m.behind prefix infix_op k st (Before v o r)) (shifted k (BehindPrefix v o ∷ st) r h w q)
      (λ n. sound k st (Before v o r) h.0 (w, h.2, p, h.1) h.3 (pair _ _ (negated _ n) q))
  sound k (BehindInfix l j f o ∷ st) r h w p q = choose (Behind k (BehindInfix l j f o ∷ st) r) (g.goes_on prefix infix_op (right_of o) (priority r) k) _ (m.behind prefix infix_op k st (Between l j f o r)) (shifted k (BehindInfix l j f o ∷ st) r h w q)
      (λ n. sound k st (Between l j f o r) h.0 (h.1, w, h.2, h.3, p, h.4) h.5 (pair _ _ (negated _ n) q))

  moved : (S : State) (a b : List Lexeme → List Lexeme) → ((ks : List Lexeme) → a ks ≡ b ks) → Means a S → Means b S
  unfolding Means
  moved (Wants st) a b e w = (w.0, λ ks. w.1 ks ∙ e ks)
  moved (Named st v) a b e w = (w.0, λ ks. w.1 ks ∙ e ks)
  moved (Has st r) a b e w = (w.0, λ ks. w.1 ks ∙ e ks)
  moved Stuck a b e w = tt

  sound_begins : (k : Lexeme) (st : List Frame) → Good st (λ w. joins w k) → Means (λ l. under st (k ∷ l)) (m.begins k st)
  unfolding Means Right Good Fits g.Fits quiet g.quiet yield FitDone under given
  sound_begins (Name v) st h = (h, λ _. refl)
  sound_begins (Integer n d) st h = ((h, tt, leb-zero _, λ _. refl), λ _. refl)
  sound_begins (Variable v) st h = ((h, tt, leb-zero _, λ _. refl), λ _. refl)
  sound_begins (Text cs) st h = ((h, tt, leb-zero _, λ _. refl), λ _. refl)
  sound_begins (Open d) st h = (λ _. h, λ _. refl)
  sound_begins OpenList st h = (λ _. (h, tt), λ _. refl)
  sound_begins OpenCurly st h = (λ _. h, λ _. refl)
  sound_begins Close st h = tt
  sound_begins Comma st h = tt
  sound_begins CloseList st h = tt
  sound_begins CloseCurly st h = tt
  sound_begins Bar st h = tt

  sound_prefix : (k : Lexeme) (st : List Frame) (v : Word) → Good st (λ w. false) → joins v k ≡ false → Means (λ l. under st (Name v ∷ k ∷ l)) (m.by_prefix prefix infix_op k (prefix v.text) st v)
  unfolding Means Good under
  sound_prefix k st v h e = by (prefix v.text) refl
    where
      by : (o : Option Op) → prefix v.text ≡ o → Means (λ l. under st (Name v ∷ k ∷ l)) (m.by_prefix prefix infix_op k o st v)
      by None i = tt
      by (Some o) i = choose (Means (λ l. under st (Name v ∷ k ∷ l))) (nat_le o.priority (most st)) _ Stuck (λ p. sound_begins k (BehindPrefix v o ∷ st) (h, e, i, p)) (λ _. tt)

  sound_joined : (k : Lexeme) (st : List Frame) (v : Word) → Good st (λ w. false) → joins v k ≡ true → Means (λ l. under st (Name v ∷ k ∷ l)) (m.joined k st v)
  unfolding Means Right Good Fits g.Fits quiet g.quiet yield FitDone under given
  sound_joined (Open true) st v h e = (λ _. (h, tt), λ _. refl)
  sound_joined (Open false) st v h e = absurd (false≢true e)
  sound_joined (Integer n true) st v h e = ((h, e, leb-zero _, λ _. refl), λ _. refl)
  sound_joined (Integer n false) st v h e = absurd (false≢true e)
  sound_joined (Name w) st v h e = absurd (false≢true e)
  sound_joined (Variable w) st v h e = absurd (false≢true e)
  sound_joined (Text cs) st v h e = absurd (false≢true e)
  sound_joined Close st v h e = absurd (false≢true e)
  sound_joined OpenList st v h e = absurd (false≢true e)
  sound_joined CloseList st v h e = absurd (false≢true e)
  sound_joined OpenCurly st v h e = absurd (false≢true e)
  sound_joined CloseCurly st v h e = absurd (false≢true e)
  sound_joined Comma st v h e = absurd (false≢true e)
  sound_joined Bar st v h e = absurd (false≢true e)

  sound_named : (k : Lexeme) (st : List Frame) (v : Word) → Good st (λ w. false) → Means (λ l. under st (Name v ∷ k ∷ l)) (m.named prefix infix_op k st v)
  unfolding m.named Behind yield Fits g.Fits quiet g.quiet Means Right Good FitDone under
  sound_named k st v h = choose (Means (λ l. under st (Name v ∷ k ∷ l))) (joins v k) _ _ (sound_joined k st v h)
      (λ e. choose (Means (λ l. under st (Name v ∷ k ∷ l))) (not (g.is_operator prefix infix_op v.text) || ends k) _ _ (λ i. sound k st (Plain v) h tt (leb-zero _) i) (λ _. sound_prefix k st v h e))

  sound_end : (st : List Frame) (r s : Reading) → Good st (λ w. joins_front w r) → Fits r → nat_le (priority r) (most st) ≡ true → m.ended prefix infix_op st r ≡ Some s → IsReading prefix infix_op (under st (yield r [])) s
  unfolding Good Fits g.Fits yield g.quiet quiet under
  sound_end [] r s h w p e = subst (λ x. IsReading prefix infix_op (yield r []) x) (some_same r s e) (record { fits = w; priority = p; tokens = refl })
  sound_end (InRound b ∷ st) r s h w p e = absurd (none_some _ refl e)
  sound_end (InCurly ∷ st) r s h w p e = absurd (none_some _ refl e)
  sound_end (InList d ∷ st) r s h w p e = absurd (none_some _ refl e)
  sound_end (InTail rs ∷ st) r s h w p e = absurd (none_some _ refl e)
  sound_end (InCall v d ∷ st) r s h w p e = absurd (none_some _ refl e)
  sound_end (BehindPrefix v o ∷ st) r s h w p e = sound_end st (Before v o r) s h.0 (w, h.2, p, h.1) h.3 e
  sound_end (BehindInfix l j f o ∷ st) r s h w p e = sound_end st (Between l j f o r) s h.0 (h.1, w, h.2, h.3, p, h.4) h.5 e

  pub stuck : (ks : List Lexeme) → run ks Stuck ≡ None
  unfolding m.run
  stuck [] = refl
  stuck (k ∷ ks) = stuck ks

  sound_run : (ks : List Lexeme) (S : State) (before : List Lexeme → List Lexeme) (r : Reading) → Means before S → run ks S ≡ Some r → IsReading prefix infix_op (before ks) r
  unfolding Means Right m.run Good Fits g.Fits yield g.quiet quiet Behind m.behind under
  sound_run [] (Wants st) before r w e = absurd (none_some _ refl e)
  sound_run [] Stuck before r w e = absurd (none_some _ refl e)
  sound_run [] (Named st v) before r w e = subst (λ l. IsReading prefix infix_op l r) (w.1 []) (sound_end st (Plain v) r w.0 tt (leb-zero _) e)
  sound_run [] (Has st s) before r w e = subst (λ l. IsReading prefix infix_op l r) (w.1 []) (sound_end st s r w.0.0 w.0.1 w.0.2 e)
  sound_run (k ∷ ks) (Wants st) before r w e = sound_run ks _ (λ l. before (k ∷ l)) r (moved _ _ _ (λ l. w.1 (k ∷ l)) (sound_begins k st (w.0 (λ v. joins v k)))) e
  sound_run (k ∷ ks) (Named st v) before r w e = sound_run ks _ (λ l. before (k ∷ l)) r (moved _ _ _ (λ l. w.1 (k ∷ l)) (sound_named k st v w.0)) e
  sound_run (k ∷ ks) (Has st s) before r w e = sound_run ks _ (λ l. before (k ∷ l)) r (moved _ _ _ (λ l. w.1 (k ∷ l)) (sound k st s w.0.0 w.0.1 w.0.2 (w.0.3 k))) e
  sound_run (k ∷ ks) Stuck before r w e = absurd (none_some _ (stuck ks) e)

  -- the law
  pub reads : (ks : List Lexeme) (r : Reading) → run ks start ≡ Some r → IsReading prefix infix_op ks r
  unfolding Means Right Good under
  reads ks r e = sound_run ks start (λ l. l) r (λ _. tt, λ _. refl) e
