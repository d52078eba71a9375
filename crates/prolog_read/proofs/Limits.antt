-- Integers and open brackets within their limits: what the machine checks at each token is what holds of the term.
use Rattle.std.proofs.Common.{◌≡◌, ◌∙◌, ℕ, zero, suc, ◌≤◌, ◌^◌, Bool, true, false, ◌&&◌, nat_lt, nat_le, pos, neg_ℤ, List, [], ◌∷◌, Option, Some, None, Result, Ok, if◌then◌else◌, refl, ap, sym, subst, arith}
use Rattle.std.specs.List.{list_all}
use Rattle.std.proofs.Math.Bool.{and_assoc, and_comm, and-true}
use Rattle.std.proofs.lemmas.Bool.{false≢true}
use Rattle.std.proofs.lemmas.List.Elements.{All-cons}
use Rattle.std.proofs.lemmas.List.Folds.{list_all-append}
use Rattle.term_core.specs.Tree.{Tree, tree, no_trees, atom}
use Rattle.term_core.specs.declared.node.Node.TheVariants.{Int}
use Rattle.term_core.specs.Flat.{flatten, flatten_all}
use Rattle.op_table.specs.declared.op.Op.{Op}
use Rattle.prolog_grammar.specs.declared.grammar.fault.Fault.{Fault}
use Rattle.prolog_grammar.specs.declared.grammar.fault.Fault.TheVariants.{Syntax, Nesting}
use Rattle.prolog_grammar.specs.declared.grammar.lexeme.Word.{Word}
use Rattle.prolog_grammar.specs.declared.grammar.lexeme.Placed.{Placed}
use Rattle.prolog_grammar.specs.declared.grammar.lexeme.Lexeme.{Lexeme}
use Rattle.prolog_grammar.specs.declared.grammar.lexeme.Lexeme.TheVariants.{Name, Integer, Variable, Text, Open, Close, OpenList, CloseList, OpenCurly, CloseCurly, Comma, Bar}
use Rattle.prolog_grammar.specs.Readings.{Bytes, Reading, Unknown, Digits, Negative, Letters, Plain, Call, Round, Curly, Listed, Partial, Before, Between, Readings, one, and, letters, priority, ends, joins, meaning, meanings, cells}
use Rattle.prolog_grammar.specs.Readings as g
use Rattle.prolog_grammar.specs.Machine.{Done, nothing, after, filled, Frame, InRound, InCurly, InList, InTail, InCall, BehindPrefix, BehindInfix, most, State, Wants, Named, Has, Stuck, start, is_stuck}
use Rattle.prolog_grammar.specs.Machine as m
use Rattle.prolog_grammar.specs.Read.{is_sized, has_sized, refusal, unless, ok_or, reading}
use Rattle.prolog_grammar.proofs.Complete.{both, pair, none_some}
use Rattle.prolog_grammar.proofs.Sound.{some_same, stuck}
use Rattle.prolog_read.specs.Lexemes.{lexemes_of}
use Rattle.prolog_read.specs.Reads.{has_range, IsShallow}
use Rattle.prolog_read.proofs.Faults.{ok_err, ok_same}

-- ---- integers of a reading

-- the integers of a reading are in range
unfoldable mutual
  pub sized : Reading → Bool
  sized (Unknown v) = true
  sized (Digits n d) = nat_lt n (2 ^ 127)
  sized (Negative w n) = nat_le n (2 ^ 127)
  sized (Letters cs) = true
  sized (Plain w) = true
  sized (Call w rs) = sized_all rs
  sized (Round d r) = sized r
  sized (Curly r) = sized r
  sized (Listed rs) = sized_all rs
  sized (Partial rs r) = sized_all rs && sized r
  sized (Before w o r) = sized r
  sized (Between l k f o r) = sized l && sized r

  pub sized_all : Readings → Bool
  sized_all (one r) = sized r
  sized_all (and r rs) = sized r && sized_all rs

digits_range : (n : ℕ) → nat_lt n (2 ^ 127) ≡ (nat_lt n (2 ^ 127) && true)
digits_range n = sym (and-true _)

negative_range : (n : ℕ) → nat_le n (2 ^ 127) ≡ list_all has_range (Int (neg_ℤ (pos n)) ∷ [])
negative_range zero = refl
negative_range (suc n) = grind arith

letters_range : (cs : List ℕ) → list_all has_range (flatten (letters cs)) ≡ true
letters_range [] = refl
letters_range (c ∷ cs) = list_all-append has_range (flatten (letters cs)) [] ∙ and-true _ ∙ letters_range cs

-- the nodes of one argument, and of two
one_range : (t : Tree) → list_all has_range (flatten_all (tree t no_trees)) ≡ list_all has_range (flatten t)
one_range t = list_all-append has_range (flatten t) [] ∙ and-true _

two_range : (t u : Tree) → list_all has_range (flatten_all (tree t (tree u no_trees))) ≡ (list_all has_range (flatten t) && list_all has_range (flatten u))
two_range t u = list_all-append has_range (flatten t) (flatten_all (tree u no_trees)) ∙ ap (λ b. list_all has_range (flatten t) && b) (one_range u)

both_same : {a b c d : Bool} → a ≡ c → b ≡ d → (a && b) ≡ (c && d)
both_same e f = rw (e, f) refl

mutual
  unfolding sized meaning

  pub sized_range : (r : Reading) → sized r ≡ list_all has_range (flatten (meaning r))
  sized_range (Unknown v) = refl
  sized_range (Digits n d) = digits_range n
  sized_range (Negative w n) = negative_range n
  sized_range (Letters cs) = sym (letters_range cs)
  sized_range (Plain w) = refl
  sized_range (Call w rs) = sized_ranges rs
  sized_range (Round d r) = sized_range r
  sized_range (Curly r) = sized_range r ∙ sym (one_range (meaning r))
  sized_range (Listed rs) = sym (and-true _) ∙ sized_cells rs (atom g.nil)
  sized_range (Partial rs r) = ap (λ b. sized_all rs && b) (sized_range r) ∙ sized_cells rs (meaning r)
  sized_range (Before w o r) = sized_range r ∙ sym (one_range (meaning r))
  sized_range (Between l k f o r) = both_same (sized_range l) (sized_range r) ∙ sym (two_range (meaning l) (meaning r))

  sized_ranges : (rs : Readings) → sized_all rs ≡ list_all has_range (flatten_all (meanings rs))
  sized_ranges (one r) = sized_range r ∙ sym (one_range (meaning r))
  sized_ranges (and r rs) = both_same (sized_range r) (sized_ranges rs) ∙ sym (list_all-append has_range (flatten (meaning r)) (flatten_all (meanings rs)))

  sized_cells : (rs : Readings) (tail : Tree) → (sized_all rs && list_all has_range (flatten tail)) ≡ list_all has_range (flatten (cells rs tail))
  sized_cells (one r) tail = ap (λ b. b && list_all has_range (flatten tail)) (sized_range r) ∙ sym (two_range (meaning r) tail)
  sized_cells (and r rs) tail =
      and_assoc (sized r) (sized_all rs) (list_all has_range (flatten tail))
      ∙ both_same (sized_range r) (sized_cells rs tail) ∙ sym (two_range (meaning r) (cells rs tail))

-- ---- integers of a state

unfoldable pub sized_done : Done → Bool
sized_done nothing = true
sized_done (after d r) = sized_done d && sized r

sized_filled : (d : Done) (rs : Readings) → sized_all (filled d rs) ≡ (sized_done d && sized_all rs)
unfolding sized sized_done
sized_filled nothing rs = refl
sized_filled (after d r) rs = sized_filled d (and r rs) ∙ sym (and_assoc (sized_done d) (sized r) (sized_all rs))

unfoldable pub sized_stack : List Frame → Bool
sized_stack [] = true
sized_stack (InRound d ∷ st) = sized_stack st
sized_stack (InCurly ∷ st) = sized_stack st
sized_stack (InList d ∷ st) = sized_stack st && sized_done d
sized_stack (InTail rs ∷ st) = sized_stack st && sized_all rs
sized_stack (InCall w d ∷ st) = sized_stack st && sized_done d
sized_stack (BehindPrefix w o ∷ st) = sized_stack st
sized_stack (BehindInfix l k f o ∷ st) = sized_stack st && sized l

unfoldable pub sized_state : State → Bool
sized_state (Wants st) = sized_stack st
sized_state (Named st w) = sized_stack st
sized_state (Has st r) = sized_stack st && sized r
sized_state Stuck = true

-- the state's integers are in range where those before it are, and its own
unfoldable Keeps : Bool → State → Type 0
Keeps b (Wants st) = sized_stack st ≡ b
Keeps b (Named st w) = sized_stack st ≡ b
Keeps b (Has st r) = (sized_stack st && sized r) ≡ (is_sized r && b)
Keeps b Stuck = Unit {0}

keeps_stuck : (b : Bool) → Keeps b Stuck
unfolding Keeps
keeps_stuck b = tt

choose : (P : State → Type 0) (b : Bool) (x y : State) → P x → P y → P (if b then x else y)
choose P true x y f h = f
choose P false x y f h = h

listed : (st : List Frame) (d : Done) (r : Reading) → (sized_stack st && sized_all (filled d (one r))) ≡ ((sized_stack st && sized_done d) && sized r)
unfolding sized
listed st d r = ap (λ b. sized_stack st && b) (sized_filled d (one r)) ∙ sym (and_assoc (sized_stack st) (sized_done d) (sized r))

keeps_begins : (k : Lexeme) (st : List Frame) → Keeps (sized_stack st) (m.begins k st)
unfolding Keeps sized_stack sized sized_done
keeps_begins (Name w) st = refl
keeps_begins (Integer n d) st = and_comm (sized_stack st) (nat_lt n (2 ^ 127))
keeps_begins (Variable v) st = and-true _
keeps_begins (Text cs) st = and-true _
keeps_begins (Open d) st = refl
keeps_begins OpenList st = and-true _
keeps_begins OpenCurly st = refl
keeps_begins _ st = tt

keeps_joined : (k : Lexeme) (st : List Frame) (w : Word) → Keeps (sized_stack st) (m.joined k st w)
unfolding Keeps sized_stack sized sized_done
keeps_joined (Integer n d) st w = and_comm (sized_stack st) (nat_le n (2 ^ 127))
keeps_joined _ st w = and-true _

keeps_group : (k : Lexeme) (d : Bool) (st : List Frame) (r : Reading) → Keeps (sized_stack st && sized r) (m.group k d st r)
unfolding Keeps sized_stack sized
keeps_group Close d st r = refl
keeps_group _ d st r = tt

keeps_curly : (k : Lexeme) (st : List Frame) (r : Reading) → Keeps (sized_stack st && sized r) (m.in_curly k st r)
unfolding Keeps sized_stack sized
keeps_curly CloseCurly st r = refl
keeps_curly _ st r = tt

keeps_list : (k : Lexeme) (d : Done) (st : List Frame) (r : Reading) → Keeps ((sized_stack st && sized_done d) && sized r) (m.in_list k d st r)
unfolding Keeps sized_stack sized sized_done
keeps_list CloseList d st r = listed st d r
keeps_list Bar d st r = listed st d r
keeps_list Comma d st r = sym (and_assoc (sized_stack st) (sized_done d) (sized r))
keeps_list _ d st r = tt

keeps_tail : (k : Lexeme) (rs : Readings) (st : List Frame) (r : Reading) → Keeps ((sized_stack st && sized_all rs) && sized r) (m.in_tail k rs st r)
unfolding Keeps sized_stack sized
keeps_tail CloseList rs st r = sym (and_assoc (sized_stack st) (sized_all rs) (sized r))
keeps_tail _ rs st r = tt

keeps_argument : (k : Lexeme) (w : Word) (d : Done) (st : List Frame) (r : Reading) → Keeps ((sized_stack st && sized_done d) && sized r) (m.argument k w d st r)
unfolding Keeps sized_stack sized sized_done
keeps_argument Close w d st r = listed st d r
keeps_argument Comma w d st r = sym (and_assoc (sized_stack st) (sized_done d) (sized r))
keeps_argument _ w d st r = tt

module _ (prefix infix_op : Bytes → Option Op) where
  keeps_shift : (k : Lexeme) (x : Option (Bytes × Op)) (st : List Frame) (r : Reading) → Keeps (sized_stack st && sized r) (m.shift prefix infix_op k x st r)
  unfolding Keeps sized_stack
  keeps_shift k None st r = tt
  keeps_shift k (Some x) st r = refl

  abbrev Kept : Lexeme → List Frame → Reading → State → Type 0
  Kept k st r S = Keeps (sized_stack st && sized r) S

  keeps_behind : (k : Lexeme) (st : List Frame) (r : Reading) → Keeps (sized_stack st && sized r) (m.behind prefix infix_op k st r)
  unfolding m.behind sized_stack sized
  keeps_behind k [] r = choose (Keeps (sized r)) _ _ Stuck (keeps_shift k _ [] r) (keeps_stuck _)
  keeps_behind k (InRound d ∷ st) r = choose (Keeps (sized_stack st && sized r)) _ _ _ (keeps_shift k _ (InRound d ∷ st) r) (keeps_group k d st r)
  keeps_behind k (InCurly ∷ st) r = choose (Keeps (sized_stack st && sized r)) _ _ _ (keeps_shift k _ (InCurly ∷ st) r) (keeps_curly k st r)
  keeps_behind k (InList d ∷ st) r = choose (Keeps ((sized_stack st && sized_done d) && sized r)) _ _ _ (keeps_shift k _ (InList d ∷ st) r) (keeps_list k d st r)
  keeps_behind k (InTail rs ∷ st) r = choose (Keeps ((sized_stack st && sized_all rs) && sized r)) _ _ _ (keeps_shift k _ (InTail rs ∷ st) r) (keeps_tail k rs st r)
  keeps_behind k (InCall w d ∷ st) r = choose (Keeps ((sized_stack st && sized_done d) && sized r)) _ _ _ (keeps_shift k _ (InCall w d ∷ st) r) (keeps_argument k w d st r)
  keeps_behind k (BehindPrefix w o ∷ st) r = choose (Keeps (sized_stack st && sized r)) _ _ _ (keeps_shift k _ (BehindPrefix w o ∷ st) r) (keeps_behind k st (Before w o r))
  keeps_behind k (BehindInfix l j f o ∷ st) r =
      choose (Keeps ((sized_stack st && sized l) && sized r)) _ _ _ (keeps_shift k _ (BehindInfix l j f o ∷ st) r)
      (subst (λ b. Keeps b (m.behind prefix infix_op k st (Between l j f o r))) (sym (and_assoc (sized_stack st) (sized l) (sized r))) (keeps_behind k st (Between l j f o r)))

  keeps_prefix : (k : Lexeme) (o : Option Op) (st : List Frame) (w : Word) → Keeps (sized_stack st) (m.by_prefix prefix infix_op k o st w)
  unfolding sized_stack
  keeps_prefix k None st w = keeps_stuck _
  keeps_prefix k (Some o) st w = choose (Keeps (sized_stack st)) _ _ Stuck (keeps_begins k (BehindPrefix w o ∷ st)) (keeps_stuck _)

  keeps_named : (k : Lexeme) (st : List Frame) (w : Word) → Keeps (sized_stack st) (m.named prefix infix_op k st w)
  unfolding m.named sized
  keeps_named k st w =
      choose (Keeps (sized_stack st)) _ _ _ (keeps_joined k st w)
      (choose (Keeps (sized_stack st)) _ _ _ (subst (λ b. Keeps b (m.behind prefix infix_op k st (Plain w))) (and-true (sized_stack st)) (keeps_behind k st (Plain w))) (keeps_prefix k (prefix w.text) st w))

  keeps_step : (k : Lexeme) (S : State) → Keeps (sized_state S) (m.step prefix infix_op k S)
  unfolding sized_state
  keeps_step k (Wants st) = keeps_begins k st
  keeps_step k (Named st w) = keeps_named k st w
  keeps_step k (Has st r) = keeps_behind k st r
  keeps_step k Stuck = keeps_stuck _

  -- ---- a state and the next one

  forward : (b : Bool) (T : State) → Keeps b T → b ≡ true → has_sized T ≡ true → sized_state T ≡ true
  unfolding Keeps sized_state
  forward b (Wants st) h e s = h ∙ e
  forward b (Named st w) h e s = h ∙ e
  forward b (Has st r) h e s = h ∙ pair (is_sized r) b s e
  forward b Stuck h e s = refl

  backward : (b : Bool) (T : State) → Keeps b T → is_stuck T ≡ false → sized_state T ≡ true → (b ≡ true) × (has_sized T ≡ true)
  unfolding Keeps sized_state
  backward b (Wants st) h n e = (sym h ∙ e, refl)
  backward b (Named st w) h n e = (sym h ∙ e, refl)
  backward b (Has st r) h n e = let p = both (is_sized r) b (sym h ∙ e) in (p.1, p.0)
  backward b Stuck h n e = absurd (false≢true (sym n))

  ends_sized : (st : List Frame) (r s : Reading) → m.ended prefix infix_op st r ≡ Some s → (sized_stack st && sized r) ≡ sized s
  unfolding sized_stack sized
  ends_sized [] r s e = ap sized (some_same r s e)
  ends_sized (InRound d ∷ st) r s e = absurd (none_some _ refl e)
  ends_sized (InCurly ∷ st) r s e = absurd (none_some _ refl e)
  ends_sized (InList d ∷ st) r s e = absurd (none_some _ refl e)
  ends_sized (InTail rs ∷ st) r s e = absurd (none_some _ refl e)
  ends_sized (InCall w d ∷ st) r s e = absurd (none_some _ refl e)
  ends_sized (BehindPrefix w o ∷ st) r s e = ends_sized st (Before w o r) s e
  ends_sized (BehindInfix l k f o ∷ st) r s e = and_assoc (sized_stack st) (sized l) (sized r) ∙ ends_sized st (Between l k f o r) s e

  finished_sized : (S : State) (r : Reading) → m.finish prefix infix_op S ≡ Some r → sized_state S ≡ sized r
  unfolding sized_state sized
  finished_sized (Has st r) s e = ends_sized st r s e
  finished_sized (Named st w) s e = sym (and-true _) ∙ ends_sized st (Plain w) s e
  finished_sized (Wants st) s e = absurd (none_some _ refl e)
  finished_sized Stuck s e = absurd (none_some _ refl e)

  -- what is read of a state that isn't stuck
  not_stuck : (ks : List Lexeme) (T : State) (r : Reading) → m.run prefix infix_op ks T ≡ Some r → is_stuck T ≡ false
  not_stuck ks (Wants st) r e = refl
  not_stuck ks (Named st w) r e = refl
  not_stuck ks (Has st s) r e = refl
  not_stuck ks Stuck r e = absurd (none_some _ (stuck prefix infix_op ks) e)

  run_sized : (ks : List Lexeme) (S : State) (r : Reading) → m.run prefix infix_op ks S ≡ Some r → sized r ≡ true → sized_state S ≡ true
  unfolding m.run
  run_sized [] S r e s = finished_sized S r e ∙ s
  run_sized (k ∷ ks) S r e s =
      let T = m.step prefix infix_op k S in
      (backward (sized_state S) T (keeps_step k S) (not_stuck ks T r e) (run_sized ks T r e s)).0

  -- ---- the reading of placed tokens

  -- a token that isn't refused
  pub record Accepted (p : Placed) (T : State) : Type 0 where
    pub goes_on : is_stuck T ≡ false
    pub fits : has_sized T ≡ true
    pub shallow : p.open ≤ 4000

  accepted : {A : Type 0} (p : Placed) (T : State) (rest : Result A Fault) (a : A) → unless (refusal p (is_stuck T) (has_sized T)) rest ≡ Ok a → Accepted p T × (rest ≡ Ok a)
  accepted {A} p T rest a e = by (is_stuck T) (has_sized T) refl refl e
    where
      within : is_stuck T ≡ false → has_sized T ≡ true → (d : Bool) → nat_le p.open 4000 ≡ d → unless (if d then None else Some (Nesting p.from)) rest ≡ Ok a → Accepted p T × (rest ≡ Ok a)
      within g h true i e = (record { goes_on = g; fits = h; shallow = grind (arith, i) }, e)
      within g h false i e = absurd (ok_err a _ (sym e))

      by : (b c : Bool) → is_stuck T ≡ b → has_sized T ≡ c → unless (refusal p b c) rest ≡ Ok a → Accepted p T × (rest ≡ Ok a)
      by true c g h e = absurd (ok_err a _ (sym e))
      by false false g h e = absurd (ok_err a _ (sym e))
      by false true g h e = within g h (nat_le p.open 4000) refl e

  not_refused : {A : Type 0} (p : Placed) (T : State) (rest : Result A Fault) → Accepted p T → unless (refusal p (is_stuck T) (has_sized T)) rest ≡ rest
  not_refused p T rest h = let i : nat_le p.open 4000 ≡ true = grind (arith, h.shallow) in rw (h.goes_on, h.fits, i) refl

  pub reading_run : (end : ℕ) (ps : List Placed) (S : State) (r : Reading) → sized_state S ≡ true → reading prefix infix_op end ps S ≡ Ok r →
      (m.run prefix infix_op (lexemes_of ps) S ≡ Some r) × IsShallow ps × (sized r ≡ true)
  unfolding reading m.run
  reading_run end [] S r s e = let f = finish_ok (m.finish prefix infix_op S) e in (f, (λ k d l. absurd (omega (arith, l))), sym (finished_sized S r f) ∙ s)
    where
      finish_ok : (o : Option Reading) → ok_or o (Syntax end) ≡ Ok r → o ≡ Some r
      finish_ok None e = absurd (ok_err r _ (sym e))
      finish_ok (Some q) e = ap Some (ok_same q r e)
  reading_run end (p ∷ ps) S r s e =
      let T = m.step prefix infix_op p.lexeme S in
      let here = accepted p T _ r e in
      let next = reading_run end ps T r (forward (sized_state S) T (keeps_step p.lexeme S) s here.0.fits) here.1 in
      (next.0, All-cons (λ q. q.open ≤ 4000) p ps here.0.shallow next.1, next.2)

  pub run_reading : (end : ℕ) (ps : List Placed) (S : State) (r : Reading) → m.run prefix infix_op (lexemes_of ps) S ≡ Some r → IsShallow ps → sized r ≡ true → reading prefix infix_op end ps S ≡ Ok r
  unfolding reading m.run
  run_reading end [] S r e h s = ap (λ o. ok_or o (Syntax end)) e
  run_reading end (p ∷ ps) S r e h s =
      let T = m.step prefix infix_op p.lexeme S in
      let n = not_stuck (lexemes_of ps) T r e in
      let fits = (backward (sized_state S) T (keeps_step p.lexeme S) n (run_sized (lexemes_of ps) T r e s)).1 in
      not_refused p T _ (record { goes_on = n; fits = fits; shallow = h 0 p (omega arith) })
      ∙ run_reading end ps T r e (λ k d l. h (suc k) d (omega (arith, l))) s

  pub start_sized : sized_state start ≡ true
  unfolding sized_state sized_stack
  start_sized = refl
