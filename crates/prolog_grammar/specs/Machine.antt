-- The machine that reads a token at a time: what is open, and the operand that was read last.
use Rattle.std.specs.Prelude.{ℕ, Bool, true, false, not, ◌||◌, nat_le, List, [], ◌∷◌, Option, Some, None, if◌then◌else◌}
use Rattle.op_table.specs.declared.op.Op.{Op}
use Rattle.op_table.specs.Table.{right_of}
use Rattle.prolog_grammar.specs.declared.grammar.lexeme.Word.{Word}
use Rattle.prolog_grammar.specs.declared.grammar.lexeme.Lexeme.{Lexeme}
use Rattle.prolog_grammar.specs.declared.grammar.lexeme.Lexeme.TheVariants.{Name, Integer, Variable, Text, Open, Close, OpenList, CloseList, OpenCurly, CloseCurly, Comma, Bar}
use Rattle.prolog_grammar.specs.Readings.{Bytes, Reading, Unknown, Digits, Negative, Letters, Plain, Call, Round, Curly, Listed, Partial, Before, Between, Readings, one, and, priority, ends, joins}
use Rattle.prolog_grammar.specs.Readings as grammar

-- the arguments before the one that is read
pub data Done : Type 0 where
  nothing : Done
  after : Done → Reading → Done

abbrev pub filled : Done → Readings → Readings
filled nothing rs = rs
filled (after d r) rs = filled d (and r rs)

-- What is open: a bracket, or an operator that wants its operand.
pub data Frame : Type 0 where
  InRound : Bool → Frame
  InCurly : Frame
  InList : Done → Frame
  InTail : Readings → Frame
  InCall : Word → Done → Frame
  BehindPrefix : Word → Op → Frame
  BehindInfix : Reading → Lexeme → Bytes → Op → Frame

-- the greatest priority that the innermost place allows
abbrev pub most : List Frame → ℕ
most [] = 1200
most (InRound d ∷ st) = 1200
most (InCurly ∷ st) = 1200
most (InList d ∷ st) = 999
most (InTail rs ∷ st) = 999
most (InCall w d ∷ st) = 999
most (BehindPrefix w o ∷ st) = right_of o
most (BehindInfix l k f o ∷ st) = right_of o

pub data State : Type 0 where
  -- an operand is to come
  Wants : List Frame → State
  -- a name was read where an operand is to come; the next token says what it is
  Named : List Frame → Word → State
  Has : List Frame → Reading → State
  -- no continuation allows the token
  Stuck : State

abbrev pub group : Lexeme → Bool → List Frame → Reading → State
group Close d st r = Has st (Round d r)
group _ d st r = Stuck

abbrev pub in_curly : Lexeme → List Frame → Reading → State
in_curly CloseCurly st r = Has st (Curly r)
in_curly _ st r = Stuck

abbrev pub in_list : Lexeme → Done → List Frame → Reading → State
in_list CloseList d st r = Has st (Listed (filled d (one r)))
in_list Bar d st r = Wants (InTail (filled d (one r)) ∷ st)
in_list Comma d st r = Wants (InList (after d r) ∷ st)
in_list _ d st r = Stuck

abbrev pub in_tail : Lexeme → Readings → List Frame → Reading → State
in_tail CloseList rs st r = Has st (Partial rs r)
in_tail _ rs st r = Stuck

abbrev pub argument : Lexeme → Word → Done → List Frame → Reading → State
argument Close w d st r = Has st (Call w (filled d (one r)))
argument Comma w d st r = Wants (InCall w (after d r) ∷ st)
argument _ w d st r = Stuck

-- a token in the place of an operand
abbrev pub begins : Lexeme → List Frame → State
begins (Name w) st = Named st w
begins (Integer n d) st = Has st (Digits n d)
begins (Variable v) st = Has st (Unknown v)
begins (Text cs) st = Has st (Letters cs)
begins (Open d) st = Wants (InRound d ∷ st)
begins OpenList st = Wants (InList nothing ∷ st)
begins OpenCurly st = Wants (InCurly ∷ st)
begins _ st = Stuck

-- what belongs to the name before it
abbrev pub joined : Lexeme → List Frame → Word → State
joined (Integer n d) st w = Has st (Negative w n)
joined _ st w = Wants (InCall w nothing ∷ st)

module _ (prefix infix_op : Bytes → Option Op) where
  abbrev pub shift : Lexeme → Option (Bytes × Op) → List Frame → Reading → State
  shift k None st r = Stuck
  shift k (Some x) st r = Wants (BehindInfix r k x.0 x.1 ∷ st)

  abbrev pub or_else : Lexeme → List Frame → Reading → State → State
  or_else k st r other = if grammar.goes_on prefix infix_op (most st) (priority r) k then shift k (grammar.row prefix infix_op k) st r else other

  -- A token behind an operand: an infix operator goes on with the innermost operand whose place allows it; all else closes operators up to the innermost bracket.
  unfoldable pub behind : Lexeme → List Frame → Reading → State
  behind k [] r = or_else k [] r Stuck
  behind k (InRound d ∷ st) r = or_else k (InRound d ∷ st) r (group k d st r)
  behind k (InCurly ∷ st) r = or_else k (InCurly ∷ st) r (in_curly k st r)
  behind k (InList d ∷ st) r = or_else k (InList d ∷ st) r (in_list k d st r)
  behind k (InTail rs ∷ st) r = or_else k (InTail rs ∷ st) r (in_tail k rs st r)
  behind k (InCall w d ∷ st) r = or_else k (InCall w d ∷ st) r (argument k w d st r)
  behind k (BehindPrefix w o ∷ st) r = or_else k (BehindPrefix w o ∷ st) r (behind k st (Before w o r))
  behind k (BehindInfix l j f o ∷ st) r = or_else k (BehindInfix l j f o ∷ st) r (behind k st (Between l j f o r))

  abbrev pub by_prefix : Lexeme → Option Op → List Frame → Word → State
  by_prefix k None st w = Stuck
  by_prefix k (Some o) st w = if nat_le o.priority (most st) then begins k (BehindPrefix w o ∷ st) else Stuck

  -- a token behind a name in the place of an operand, by the first rule that fits
  unfoldable pub named : Lexeme → List Frame → Word → State
  named k st w =
      if joins w k then joined k st w
      else if not (grammar.is_operator prefix infix_op w.text) || ends k then behind k st (Plain w)
      else by_prefix k (prefix w.text) st w

  abbrev pub step : Lexeme → State → State
  step k (Wants st) = begins k st
  step k (Named st w) = named k st w
  step k (Has st r) = behind k st r
  step k Stuck = Stuck

  -- at the end of the tokens
  abbrev pub ended : List Frame → Reading → Option Reading
  ended [] r = Some r
  ended (BehindPrefix w o ∷ st) r = ended st (Before w o r)
  ended (BehindInfix l k f o ∷ st) r = ended st (Between l k f o r)
  ended _ r = None

  abbrev pub finish : State → Option Reading
  finish (Has st r) = ended st r
  finish (Named st w) = ended st (Plain w)
  finish _ = None

  -- what is read from a state on
  unfoldable pub run : List Lexeme → State → Option Reading
  run [] S = finish S
  run (k ∷ ks) S = run ks (step k S)

  -- the state behind these tokens
  unfoldable pub run_to : List Lexeme → State → State
  run_to [] S = S
  run_to (k ∷ ks) S = run_to ks (step k S)

-- where no token was read
abbrev pub start : State
start = Wants []

abbrev pub is_stuck : State → Bool
is_stuck Stuck = true
is_stuck _ = false
