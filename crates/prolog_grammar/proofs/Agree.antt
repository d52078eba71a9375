-- The machine over what the code keeps is the machine over readings.
use Rattle.std.specs.Prelude.{◌≡◌, refl, ℕ, ◌+◌, ◌^◌, Bool, true, false, not, ◌||◌, nat_lt, nat_le, List, [], ◌∷◌, ◌++◌, map, length, replicate, Option, Some, None, Result, Ok, Err, if◌then◌else◌}
use Rattle.std.proofs.Common.{arith, ap, ◌∙◌, sym, append_assoc, append-nil}
use Rattle.std.proofs.lemmas.Bool.{false≢true}
use Rattle.std.proofs.lemmas.Grind.{replicate_next}
use Rattle.term_core.specs.declared.node.Node.{Node}
use Rattle.term_core.specs.declared.node.Node.TheVariants.{Atom, Comp}
use Rattle.term_core.specs.Tree.{Tree, atom, arity}
use Rattle.op_table.specs.Table.{right_of}
use Rattle.op_table.specs.declared.op.Op.{Op}
use Rattle.prolog_grammar.specs.declared.grammar.fault.Fault.{Fault}
use Rattle.prolog_grammar.specs.declared.grammar.fault.Fault.TheVariants.{Syntax, Nesting}
use Rattle.prolog_grammar.specs.declared.grammar.lexeme.Word.{Word}
use Rattle.prolog_grammar.specs.declared.grammar.lexeme.Placed.{Placed}
use Rattle.prolog_grammar.specs.declared.grammar.lexeme.Lexeme.{Lexeme}
use Rattle.prolog_grammar.specs.declared.grammar.lexeme.Lexeme.TheVariants.{Name, Integer, Variable, Text, Open, Close, OpenList, CloseList, OpenCurly, CloseCurly, Comma, Bar}
use Rattle.prolog_grammar.specs.declared.grammar.frame.Frame.{Frame}
use Rattle.prolog_grammar.specs.declared.grammar.frame.Frame.TheVariants.{Bracket, Prefix, Infix}
use Rattle.prolog_grammar.specs.declared.grammar.frame.Bracket.TheVariants as bracket
use Rattle.prolog_grammar.specs.declared.grammar.frame.Now.{Now}
use Rattle.prolog_grammar.specs.declared.grammar.frame.Now.TheVariants as now
use Rattle.prolog_grammar.specs.Readings.{Bytes, Reading, Unknown, Digits, Negative, Letters, Plain, Call, Round, Curly, Listed, Partial, Before, Between, Readings, one, and, priority, meaning, joins, letters, nil, curly, ends}
use Rattle.prolog_grammar.specs.Readings as g
use Rattle.prolog_grammar.specs.Machine.{Done, nothing, after, filled, InRound, InCurly, InList, InTail, InCall, BehindPrefix, BehindInfix, State, Wants, Named, Has, Stuck, is_stuck, start}
use Rattle.prolog_grammar.specs.Machine as m
use Rattle.prolog_grammar.specs.Read.{is_sized, has_sized, refusal, unless, ok_or}
use Rattle.prolog_grammar.specs.Read as read
use Rattle.prolog_grammar.specs.Stack.{postorder, Outcome, cell, letter_node, going_on, closed, chosen, at_bottom, behind, infix_row, infix_name, begins, named, by_prefix, finished}
use Rattle.prolog_grammar.specs.Stack as stack

-- ---- what the code keeps of a state

unfoldable pub nodes : Reading → List Node
nodes r = postorder (meaning r)

unfoldable pub told : Result Reading Fault → Result (List Node) Fault
told (Err e) = Err e
told (Ok r) = Ok (nodes r)

nodes_of : Readings → List Node
nodes_of (one r) = nodes r
nodes_of (and r rs) = nodes r ++ nodes_of rs

nodes_in : Done → List Node
nodes_in nothing = []
nodes_in (after d r) = nodes_in d ++ nodes r

number : Readings → ℕ
number (one r) = 1
number (and r rs) = number rs + 1

count : Done → ℕ
count nothing = 0
count (after d r) = count d + 1

shape : m.Frame → Frame
shape (InRound d) = Bracket bracket.Round
shape InCurly = Bracket bracket.Curly
shape (InList d) = Bracket (bracket.List (count d))
shape (InTail rs) = Bracket (bracket.Tail (number rs))
shape (InCall w d) = Bracket (bracket.Call w.text (count d))
shape (BehindPrefix w o) = Prefix w.text o
shape (BehindInfix l k f o) = Infix f o

shapes : List m.Frame → List Frame
shapes [] = []
shapes (x ∷ st) = shape x ∷ shapes st

below : List m.Frame → List Node
below [] = []
below (InRound d ∷ st) = below st
below (InCurly ∷ st) = below st
below (InList d ∷ st) = below st ++ nodes_in d
below (InTail rs ∷ st) = below st ++ nodes_of rs
below (InCall w d ∷ st) = below st ++ nodes_in d
below (BehindPrefix w o ∷ st) = below st
below (BehindInfix l k f o ∷ st) = below st ++ nodes l

AgreesHas : Bool → List m.Frame → Reading → Outcome → Type 0
AgreesHas true st r y = y ≡ (now.Has (priority r), shapes st, below st ++ nodes r)
AgreesHas false st r y = y.0 ≡ now.TooLarge

Agrees : State → Outcome → Type 0
Agrees (Wants st) y = y ≡ (now.Wants, shapes st, below st)
Agrees (Named st w) y = y ≡ (now.Named w, shapes st, below st)
Agrees (Has st r) y = AgreesHas (is_sized r) st r y
Agrees Stuck y = y.0 ≡ now.Stuck

-- ---- nodes

number_filled : (d : Done) (rs : Readings) → number (filled d rs) ≡ count d + number rs
unfolding number count
number_filled nothing rs = omega arith
number_filled (after d r) rs = number_filled d (and r rs) ∙ omega arith

nodes_filled : (d : Done) (rs : Readings) → nodes_of (filled d rs) ≡ nodes_in d ++ nodes_of rs
unfolding nodes_of nodes_in
nodes_filled nothing rs = refl
nodes_filled (after d r) rs = nodes_filled d (and r rs) ∙ sym (append_assoc (nodes_in d) (nodes r) (nodes_of rs))

arity_number : (rs : Readings) → arity (g.meanings rs) ≡ number rs
unfolding number meaning
arity_number (one r) = refl
arity_number (and r rs) = omega (arith, arity_number rs)

nodes_all : (rs : Readings) → stack.postorder_all (g.meanings rs) ≡ nodes_of rs
unfolding nodes_of nodes meaning postorder
nodes_all (one r) = append-nil (nodes r)
nodes_all (and r rs) = ap (λ l. nodes r ++ l) (nodes_all rs)

-- two arguments and their functor
two : (a b : List Node) (n : Node) → (a ++ (b ++ [])) ++ n ∷ [] ≡ a ++ (b ++ n ∷ [])
two a b n = rw (append-nil b, append_assoc a b (n ∷ [])) refl

nodes_cells : (rs : Readings) (t : Tree) → postorder (g.cells rs t) ≡ (nodes_of rs ++ postorder t) ++ replicate (number rs) cell
unfolding nodes_of nodes number meaning postorder
nodes_cells (one r) t = two (nodes r) (postorder t) cell ∙ sym (append_assoc (nodes r) (postorder t) (cell ∷ []))
nodes_cells (and r rs) t =
    two (nodes r) (postorder (g.cells rs t)) cell
    ∙ rw (nodes_cells rs t, append_assoc (nodes_of rs ++ postorder t) (replicate (number rs) cell) (cell ∷ []), ← replicate_next (number rs) cell, append_assoc (nodes r) (nodes_of rs) (postorder t), append_assoc (nodes r) (nodes_of rs ++ postorder t) (replicate (number rs + 1) cell)) refl

nodes_letters : (cs : List ℕ) → postorder (letters cs) ≡ (map letter_node cs ++ Atom nil ∷ []) ++ replicate (length cs) cell
unfolding postorder
nodes_letters [] = refl
nodes_letters (c ∷ cs) =
    two (letter_node c ∷ []) (postorder (letters cs)) cell
    ∙ rw (nodes_letters cs, append_assoc (map letter_node cs ++ Atom nil ∷ []) (replicate (length cs) cell) (cell ∷ []), ← replicate_next (length cs) cell)
    (ap (λ n. (map letter_node (c ∷ cs) ++ Atom nil ∷ []) ++ replicate n cell) (let e : length cs + 1 ≡ length (c ∷ cs) = omega arith in e))

-- behind what stands below
on_curly : (a : List Node) (r : Reading) → (a ++ nodes r) ++ Comp curly 1 ∷ [] ≡ a ++ nodes (Curly r)
unfolding nodes meaning postorder
on_curly a r = rw (append-nil (nodes r), append_assoc a (nodes r) (Comp curly 1 ∷ [])) refl

on_prefix : (a : List Node) (w : Word) (o : Op) (r : Reading) → (a ++ nodes r) ++ Comp w.text 1 ∷ [] ≡ a ++ nodes (Before w o r)
unfolding nodes meaning postorder
on_prefix a w o r = rw (append-nil (nodes r), append_assoc a (nodes r) (Comp w.text 1 ∷ [])) refl

on_infix : (a : List Node) (l : Reading) (k : Lexeme) (f : Bytes) (o : Op) (r : Reading) → ((a ++ nodes l) ++ nodes r) ++ Comp f 2 ∷ [] ≡ a ++ nodes (Between l k f o r)
unfolding nodes meaning postorder
on_infix a l k f o r = rw (append_assoc (a ++ nodes l) (nodes r) (Comp f 2 ∷ []), append_assoc a (nodes l) (nodes r ++ Comp f 2 ∷ []), two (nodes l) (nodes r) (Comp f 2)) refl

on_comma : (a : List Node) (d : Done) (r : Reading) → (a ++ nodes_in d) ++ nodes r ≡ a ++ nodes_in (after d r)
unfolding nodes_in
on_comma a d r = append_assoc a (nodes_in d) (nodes r)

on_bar : (a : List Node) (d : Done) (r : Reading) → (a ++ nodes_in d) ++ nodes r ≡ a ++ nodes_of (filled d (one r))
unfolding nodes_of
on_bar a d r = append_assoc a (nodes_in d) (nodes r) ∙ ap (λ l. a ++ l) (sym (nodes_filled d (one r)))

one_more : (d : Done) (r : Reading) → count d + 1 ≡ number (filled d (one r))
unfolding number
one_more d r = sym (number_filled d (one r))

on_call : (a : List Node) (w : Word) (d : Done) (r : Reading) → ((a ++ nodes_in d) ++ nodes r) ++ Comp w.text (count d + 1) ∷ [] ≡ a ++ nodes (Call w (filled d (one r)))
unfolding nodes meaning postorder
on_call a w d r =
    rw (on_bar a d r, one_more d r, nodes_all (filled d (one r)), arity_number (filled d (one r)), append_assoc a (nodes_of (filled d (one r))) (Comp w.text (number (filled d (one r))) ∷ [])) refl

on_list : (a : List Node) (d : Done) (r : Reading) → (((a ++ nodes_in d) ++ nodes r) ++ Atom nil ∷ []) ++ replicate (count d + 1) cell ≡ a ++ nodes (Listed (filled d (one r)))
unfolding nodes meaning postorder
on_list a d r =
    let rs = filled d (one r) in
    rw (on_bar a d r, one_more d r, nodes_cells rs (atom nil), append_assoc a (nodes_of rs) (Atom nil ∷ []), append_assoc a (nodes_of rs ++ Atom nil ∷ []) (replicate (number rs) cell)) refl

on_tail : (a : List Node) (rs : Readings) (r : Reading) → ((a ++ nodes_of rs) ++ nodes r) ++ replicate (number rs) cell ≡ a ++ nodes (Partial rs r)
unfolding nodes meaning postorder
on_tail a rs r = rw (nodes_cells rs (meaning r), append_assoc a (nodes_of rs) (nodes r), append_assoc a (nodes_of rs ++ nodes r) (replicate (number rs) cell)) refl

on_text : (a : List Node) (cs : List ℕ) → ((a ++ map letter_node cs) ++ Atom nil ∷ []) ++ replicate (length cs) cell ≡ a ++ nodes (Letters cs)
unfolding nodes meaning
on_text a cs = rw (nodes_letters cs, append_assoc a (map letter_node cs) (Atom nil ∷ []), append_assoc a (map letter_node cs ++ Atom nil ∷ []) (replicate (length cs) cell)) refl

-- an outcome whose nodes are written otherwise
same_nodes : {x y : List Node} (n : Now) (st : List Frame) → x ≡ y → ◌≡◌ {A = Outcome} (n, st, x) (n, st, y)
same_nodes n st e = ap (λ l. (n, st, l)) e

module _ (prefix infix_op : Bytes → Option Op) where
  -- ---- a token behind an operand

  rows : (k : Lexeme) → g.row prefix infix_op k ≡ g.named prefix infix_op (infix_name k) (infix_row prefix infix_op k)
  rows (Name w) = refl
  rows Comma = refl
  rows _ = refl

  picked : Option Op → Lexeme → List m.Frame → Reading → State → State
  picked None k st r other = other
  picked (Some o) k st r other = Wants (BehindInfix r k (infix_name k) o ∷ st)

  or_else_as : (k : Lexeme) (st : List m.Frame) (r : Reading) (other : State) → m.or_else prefix infix_op k st r other ≡ picked (going_on (m.most st) (priority r) (infix_row prefix infix_op k)) k st r other
  unfolding g.goes_on picked
  or_else_as k st r other = by (infix_row prefix infix_op k) (rows k)
    where
      on : (b : Bool) (o : Op) → (if b then Wants (BehindInfix r k (infix_name k) o ∷ st) else other) ≡ picked (if b then Some o else None) k st r other
      on true o = refl
      on false o = refl

      by : (x : Option Op) → g.row prefix infix_op k ≡ g.named prefix infix_op (infix_name k) x → m.or_else prefix infix_op k st r other ≡ picked (going_on (m.most st) (priority r) x) k st r other
      by None e = rw e refl
      by (Some o) e = rw e (on (g.fits (m.most st) (priority r) o) o)

  agrees : (k : Lexeme) (st : List m.Frame) (r : Reading) → Agrees (m.behind prefix infix_op k st r) (behind k (infix_row prefix infix_op k) (shapes st) (below st ++ nodes r) (priority r))
  unfolding m.behind behind Agrees AgreesHas shapes shape below picked nodes meaning count number
  agrees k [] r = rw (or_else_as k [] r Stuck) (by (going_on 1200 (priority r) (infix_row prefix infix_op k)))
    where
      by : (y : Option Op) → Agrees (picked y k [] r Stuck) (at_bottom y k (nodes r))
      by None = refl
      by (Some o) = refl
  agrees k (InRound d ∷ st) r = rw (or_else_as k (InRound d ∷ st) r (m.group k d st r)) (by (going_on 1200 (priority r) (infix_row prefix infix_op k)) k)
    where
      by : (y : Option Op) (k : Lexeme) → Agrees (picked y k (InRound d ∷ st) r (m.group k d st r)) (chosen y k (Bracket bracket.Round) (shapes st) (below st ++ nodes r) (λ n q. behind k (infix_row prefix infix_op k) (shapes st) ((below st ++ nodes r) ++ n ∷ []) q))
      by (Some o) k = refl
      by None Close = refl
      by None _ = refl
  agrees k (InCurly ∷ st) r = rw (or_else_as k (InCurly ∷ st) r (m.in_curly k st r)) (by (going_on 1200 (priority r) (infix_row prefix infix_op k)) k)
    where
      by : (y : Option Op) (k : Lexeme) → Agrees (picked y k (InCurly ∷ st) r (m.in_curly k st r)) (chosen y k (Bracket bracket.Curly) (shapes st) (below st ++ nodes r) (λ n q. behind k (infix_row prefix infix_op k) (shapes st) ((below st ++ nodes r) ++ n ∷ []) q))
      by (Some o) k = refl
      by None CloseCurly = same_nodes _ _ (on_curly (below st) r)
      by None _ = refl
  agrees k (InList d ∷ st) r = rw (or_else_as k (InList d ∷ st) r (m.in_list k d st r)) (by (going_on 999 (priority r) (infix_row prefix infix_op k)) k)
    where
      by : (y : Option Op) (k : Lexeme) → Agrees (picked y k (InList d ∷ st) r (m.in_list k d st r)) (chosen y k (Bracket (bracket.List (count d))) (shapes st) ((below st ++ nodes_in d) ++ nodes r) (λ n q. behind k (infix_row prefix infix_op k) (shapes st) (((below st ++ nodes_in d) ++ nodes r) ++ n ∷ []) q))
      by (Some o) k = refl
      by None Comma = same_nodes _ _ (on_comma (below st) d r)
      by None CloseList = same_nodes _ _ (on_list (below st) d r)
      by None Bar = rw (one_more d r, on_bar (below st) d r) refl
      by None _ = refl
  agrees k (InTail rs ∷ st) r = rw (or_else_as k (InTail rs ∷ st) r (m.in_tail k rs st r)) (by (going_on 999 (priority r) (infix_row prefix infix_op k)) k)
    where
      by : (y : Option Op) (k : Lexeme) → Agrees (picked y k (InTail rs ∷ st) r (m.in_tail k rs st r)) (chosen y k (Bracket (bracket.Tail (number rs))) (shapes st) ((below st ++ nodes_of rs) ++ nodes r) (λ n q. behind k (infix_row prefix infix_op k) (shapes st) (((below st ++ nodes_of rs) ++ nodes r) ++ n ∷ []) q))
      by (Some o) k = refl
      by None CloseList = same_nodes _ _ (on_tail (below st) rs r)
      by None _ = refl
  agrees k (InCall w d ∷ st) r = rw (or_else_as k (InCall w d ∷ st) r (m.argument k w d st r)) (by (going_on 999 (priority r) (infix_row prefix infix_op k)) k)
    where
      by : (y : Option Op) (k : Lexeme) → Agrees (picked y k (InCall w d ∷ st) r (m.argument k w d st r)) (chosen y k (Bracket (bracket.Call w.text (count d))) (shapes st) ((below st ++ nodes_in d) ++ nodes r) (λ n q. behind k (infix_row prefix infix_op k) (shapes st) (((below st ++ nodes_in d) ++ nodes r) ++ n ∷ []) q))
      by (Some o) k = refl
      by None Comma = same_nodes _ _ (on_comma (below st) d r)
      by None Close = same_nodes _ _ (on_call (below st) w d r)
      by None _ = refl
  agrees k (BehindPrefix w o ∷ st) r = rw (or_else_as k (BehindPrefix w o ∷ st) r (m.behind prefix infix_op k st (Before w o r))) (by (agrees k st (Before w o r)) (going_on (right_of o) (priority r) (infix_row prefix infix_op k)))
    where
      by : Agrees (m.behind prefix infix_op k st (Before w o r)) (behind k (infix_row prefix infix_op k) (shapes st) (below st ++ nodes (Before w o r)) o.priority) → (y : Option Op) →
          Agrees (picked y k (BehindPrefix w o ∷ st) r (m.behind prefix infix_op k st (Before w o r))) (chosen y k (Prefix w.text o) (shapes st) (below st ++ nodes r) (λ n q. behind k (infix_row prefix infix_op k) (shapes st) ((below st ++ nodes r) ++ n ∷ []) q))
      by h (Some p) = refl
      by h None = rw (on_prefix (below st) w o r) h
  agrees k (BehindInfix l j f o ∷ st) r = rw (or_else_as k (BehindInfix l j f o ∷ st) r (m.behind prefix infix_op k st (Between l j f o r))) (by (agrees k st (Between l j f o r)) (going_on (right_of o) (priority r) (infix_row prefix infix_op k)))
    where
      by : Agrees (m.behind prefix infix_op k st (Between l j f o r)) (behind k (infix_row prefix infix_op k) (shapes st) (below st ++ nodes (Between l j f o r)) o.priority) → (y : Option Op) →
          Agrees (picked y k (BehindInfix l j f o ∷ st) r (m.behind prefix infix_op k st (Between l j f o r))) (chosen y k (Infix f o) (shapes st) ((below st ++ nodes l) ++ nodes r) (λ n q. behind k (infix_row prefix infix_op k) (shapes st) (((below st ++ nodes l) ++ nodes r) ++ n ∷ []) q))
      by h (Some p) = refl
      by h None = rw (on_infix (below st) l j f o r) h

  -- ---- a token in the place of an operand

  agrees_digits : (n : ℕ) (d : Bool) (st : List m.Frame) (b : Bool) → AgreesHas b st (Digits n d) (stack.number b n (shapes st) (below st))
  unfolding AgreesHas nodes meaning postorder
  agrees_digits n d st true = refl
  agrees_digits n d st false = refl

  agrees_negative : (w : Word) (n : ℕ) (st : List m.Frame) (b : Bool) → AgreesHas b st (Negative w n) (stack.negative b n (shapes st) (below st))
  unfolding AgreesHas nodes meaning postorder
  agrees_negative w n st true = refl
  agrees_negative w n st false = refl

  agrees_begins : (k : Lexeme) (st : List m.Frame) → Agrees (m.begins k st) (begins k (shapes st) (below st))
  unfolding Agrees AgreesHas shapes shape below nodes meaning postorder count nodes_in
  agrees_begins (Name w) st = refl
  agrees_begins (Integer n d) st = agrees_digits n d st (nat_lt n (2 ^ 127))
  agrees_begins (Variable v) st = refl
  agrees_begins (Text cs) st = same_nodes _ _ (on_text (below st) cs)
  agrees_begins (Open d) st = refl
  agrees_begins OpenList st = ap (λ l. (now.Wants, Bracket (bracket.List 0) ∷ shapes st, l)) (sym (append-nil (below st)))
  agrees_begins OpenCurly st = refl
  agrees_begins _ st = refl

  most_as : (st : List m.Frame) → stack.most (shapes st) ≡ m.most st
  unfolding shapes shape
  most_as [] = refl
  most_as (InRound d ∷ st) = refl
  most_as (InCurly ∷ st) = refl
  most_as (InList d ∷ st) = refl
  most_as (InTail rs ∷ st) = refl
  most_as (InCall w d ∷ st) = refl
  most_as (BehindPrefix w o ∷ st) = refl
  most_as (BehindInfix l k f o ∷ st) = refl

  agrees_joined : (k : Lexeme) (st : List m.Frame) (w : Word) → Agrees (m.joined k st w) (stack.joined k w (shapes st) (below st))
  unfolding Agrees AgreesHas shapes shape below nodes_in count
  agrees_joined (Integer n d) st w = agrees_negative w n st (nat_le n (2 ^ 127))
  agrees_joined _ st w = ap (λ l. (now.Wants, Bracket (bracket.Call w.text 0) ∷ shapes st, l)) (sym (append-nil (below st)))

  either : (b : Bool) (S T : State) (y z : Outcome) → Agrees S y → Agrees T z → Agrees (if b then S else T) (if b then y else z)
  either true S T y z h i = h
  either false S T y z h i = i

  agrees_prefix : (k : Lexeme) (st : List m.Frame) (w : Word) (o : Option Op) → Agrees (m.by_prefix prefix infix_op k o st w) (by_prefix prefix infix_op k o w (shapes st) (below st))
  unfolding Agrees shapes shape below
  agrees_prefix k st w None = refl
  agrees_prefix k st w (Some o) = rw (most_as st) (either (nat_le o.priority (m.most st)) _ Stuck _ _ (agrees_begins k (BehindPrefix w o ∷ st)) refl)

  agrees_named : (k : Lexeme) (st : List m.Frame) (w : Word) → Agrees (m.named prefix infix_op k st w) (named prefix infix_op k w (shapes st) (below st))
  unfolding m.named named nodes meaning postorder
  agrees_named k st w =
      either (joins w k) _ _ _ _ (agrees_joined k st w)
      (either (not (g.is_operator prefix infix_op w.text) || ends k) _ _ _ _ (agrees k st (Plain w)) (agrees_prefix k st w (prefix w.text)))

  -- ---- a step, the end, and all tokens

  agrees_has : (k : Lexeme) (st : List m.Frame) (r : Reading) (y : Outcome) (b : Bool) → is_sized r ≡ b → b ≡ true → AgreesHas b st r y → Agrees (m.behind prefix infix_op k st r) (stack.step prefix infix_op k y)
  unfolding AgreesHas
  agrees_has k st r y true s e h = rw h (agrees k st r)
  agrees_has k st r y false s e h = absurd (false≢true e)

  agrees_step : (k : Lexeme) (S : State) (y : Outcome) → is_stuck S ≡ false → has_sized S ≡ true → Agrees S y → Agrees (m.step prefix infix_op k S) (stack.step prefix infix_op k y)
  unfolding Agrees
  agrees_step k (Wants st) y e s h = rw h (agrees_begins k st)
  agrees_step k (Named st w) y e s h = rw h (agrees_named k st w)
  agrees_step k (Has st r) y e s h = agrees_has k st r y (is_sized r) refl s h
  agrees_step k Stuck y e s h = absurd (false≢true (sym e))

  mapped : Option Reading → Option (List Node)
  mapped None = None
  mapped (Some r) = Some (nodes r)

  agrees_ended : (st : List m.Frame) (r : Reading) → finished (shapes st) (below st ++ nodes r) ≡ mapped (m.ended prefix infix_op st r)
  unfolding mapped shapes shape below
  agrees_ended [] r = refl
  agrees_ended (InRound d ∷ st) r = refl
  agrees_ended (InCurly ∷ st) r = refl
  agrees_ended (InList d ∷ st) r = refl
  agrees_ended (InTail rs ∷ st) r = refl
  agrees_ended (InCall w d ∷ st) r = refl
  agrees_ended (BehindPrefix w o ∷ st) r = ap (finished (shapes st)) (on_prefix (below st) w o r) ∙ agrees_ended st (Before w o r)
  agrees_ended (BehindInfix l k f o ∷ st) r = ap (finished (shapes st)) (on_infix (below st) l k f o r) ∙ agrees_ended st (Between l k f o r)

  finish_has : (st : List m.Frame) (r : Reading) (y : Outcome) (b : Bool) → b ≡ true → AgreesHas b st r y → stack.finish y ≡ mapped (m.ended prefix infix_op st r)
  unfolding AgreesHas
  finish_has st r y true e h = rw h (agrees_ended st r)
  finish_has st r y false e h = absurd (false≢true e)

  agrees_finish : (S : State) (y : Outcome) → is_stuck S ≡ false → has_sized S ≡ true → Agrees S y → stack.finish y ≡ mapped (m.finish prefix infix_op S)
  unfolding Agrees mapped nodes meaning postorder
  agrees_finish (Wants st) y e s h = rw h refl
  agrees_finish (Named st w) y e s h = rw h (agrees_ended st (Plain w))
  agrees_finish (Has st r) y e s h = finish_has st r y (is_sized r) s h
  agrees_finish Stuck y e s h = absurd (false≢true (sym e))

  told_ok : (o : Option Reading) (e : Fault) → ok_or (mapped o) e ≡ told (ok_or o e)
  unfolding mapped told
  told_ok None e = refl
  told_ok (Some r) e = refl

  refusal_has : (p : Placed) (st : List m.Frame) (r : Reading) (y : Outcome) (b : Bool) → AgreesHas b st r y → refusal p (stack.is_stuck y.0) (stack.is_sized y.0) ≡ refusal p false b
  unfolding AgreesHas
  refusal_has p st r y true h = rw h refl
  refusal_has p st r y false h = rw h refl

  same_refusal : (p : Placed) (S : State) (y : Outcome) → Agrees S y → refusal p (stack.is_stuck y.0) (stack.is_sized y.0) ≡ refusal p (is_stuck S) (has_sized S)
  unfolding Agrees
  same_refusal p (Wants st) y h = rw h refl
  same_refusal p (Named st w) y h = rw h refl
  same_refusal p (Has st r) y h = refusal_has p st r y (is_sized r) h
  same_refusal p Stuck y h = rw h refl

  told_unless : (p : Placed) (stuck sized : Bool) (a : Result (List Node) Fault) (b : Result Reading Fault) → (stuck ≡ false → sized ≡ true → a ≡ told b) → unless (refusal p stuck sized) a ≡ told (unless (refusal p stuck sized) b)
  unfolding told
  told_unless p true sized a b h = refl
  told_unless p false false a b h = refl
  told_unless p false true a b h = by (nat_le p.open 4000)
    where
      by : (c : Bool) → unless (if c then None else Some (Nesting p.from)) a ≡ told (unless (if c then None else Some (Nesting p.from)) b)
      by true = h refl refl
      by false = refl

  agrees_reading : (end : ℕ) (ps : List Placed) (S : State) (y : Outcome) → is_stuck S ≡ false → has_sized S ≡ true → Agrees S y → stack.reading prefix infix_op end ps y ≡ told (read.reading prefix infix_op end ps S)
  unfolding stack.reading read.reading
  agrees_reading end [] S y e s h = rw (agrees_finish S y e s h) (told_ok (m.finish prefix infix_op S) (Syntax end))
  agrees_reading end (p ∷ ps) S y e s h =
      let next = agrees_step p.lexeme S y e s h in
      rw (same_refusal p (m.step prefix infix_op p.lexeme S) (stack.step prefix infix_op p.lexeme y) next)
      (told_unless p _ _ _ _ (λ e s. agrees_reading end ps (m.step prefix infix_op p.lexeme S) (stack.step prefix infix_op p.lexeme y) e s next))

  -- the law
  pub reads_as : (end : ℕ) (ps : List Placed) → stack.reading prefix infix_op end ps (now.Wants, [], []) ≡ told (read.reading prefix infix_op end ps start)
  unfolding Agrees shapes below
  reads_as end ps = agrees_reading end ps start (now.Wants, [], []) refl refl refl
