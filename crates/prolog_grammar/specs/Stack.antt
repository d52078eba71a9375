-- The machine over what the code keeps: names, operators and counts of what is open, the innermost first, and the nodes of what was read, arguments before their functor.
use Rattle.std.specs.Prelude.{ℕ, ◌+◌, ◌^◌, Bool, true, false, not, ◌||◌, nat_lt, nat_le, pos, neg_ℤ, List, [], ◌∷◌, ◌++◌, Option, Some, None, Result, if◌then◌else◌, codes, replicate, map, length, reverse, encode_utf8}
use Rattle.term_core.specs.declared.node.Node.{Node}
use Rattle.term_core.specs.declared.node.Node.TheVariants.{Var, Int, Atom, Comp}
use Rattle.term_core.specs.Tree.{Tree, variable, integer, atom, compound, Trees, no_trees, tree, arity}
use Rattle.op_table.specs.declared.op.Op.{Op}
use Rattle.op_table.specs.Table.{right_of}
use Rattle.prolog_grammar.specs.declared.grammar.lexeme.Word.{Word}
use Rattle.prolog_grammar.specs.declared.grammar.lexeme.Placed.{Placed}
use Rattle.prolog_grammar.specs.declared.grammar.lexeme.Lexeme.{Lexeme}
use Rattle.prolog_grammar.specs.declared.grammar.lexeme.Lexeme.TheVariants.{Name, Integer, Variable, Text, Open, Close, OpenList, CloseList, OpenCurly, CloseCurly, Comma, Bar}
use Rattle.prolog_grammar.specs.declared.grammar.fault.Fault.{Fault}
use Rattle.prolog_grammar.specs.declared.grammar.fault.Fault.TheVariants.{Syntax}
use Rattle.prolog_grammar.specs.declared.grammar.frame.Frame.{Frame}
use Rattle.prolog_grammar.specs.declared.grammar.frame.Frame.TheVariants.{Bracket as InBracket, Prefix, Infix}
use Rattle.prolog_grammar.specs.declared.grammar.frame.Bracket.{Bracket}
use Rattle.prolog_grammar.specs.declared.grammar.frame.Bracket.TheVariants.{Round, Curly, List as InList, Tail, Call}
use Rattle.prolog_grammar.specs.declared.grammar.frame.Now.{Now}
use Rattle.prolog_grammar.specs.declared.grammar.frame.Now.TheVariants.{Wants, Named, Has, Stuck, TooLarge}
use Rattle.prolog_grammar.specs.Readings.{Bytes, ends, joins, nil, curly, dot, comma, fits, is_operator}
use Rattle.prolog_grammar.specs.Read.{refusal, unless, ok_or}

-- a tree's nodes, arguments before their functor
unfoldable mutual
  pub postorder : Tree → List Node
  postorder (variable n) = Var n ∷ []
  postorder (integer z) = Int z ∷ []
  postorder (atom a) = Atom a ∷ []
  postorder (compound f ts) = postorder_all ts ++ Comp f (arity ts) ∷ []

  pub postorder_all : Trees → List Node
  postorder_all no_trees = []
  postorder_all (tree t ts) = postorder t ++ postorder_all ts

abbrev pub Outcome : Type 0
Outcome = Now × List Frame × List Node

-- what the code keeps; the innermost frame of a vector is its last
abbrev pub kept : Now → List Frame → List Node → Outcome
kept now frames nodes = (now, reverse frames, nodes)

-- the greatest priority that a place allows
abbrev pub most_at : Frame → ℕ
most_at (InBracket Round) = 1200
most_at (InBracket Curly) = 1200
most_at (InBracket b) = 999
most_at (Prefix f o) = right_of o
most_at (Infix f o) = right_of o

abbrev pub most : List Frame → ℕ
most [] = 1200
most (x ∷ st) = most_at x

abbrev pub cell : Node
cell = Comp dot 2

-- the operator, where it goes on with an operand of this priority at a place that allows `most`
abbrev pub going_on : ℕ → ℕ → Option Op → Option Op
going_on most left None = None
going_on most left (Some o) = if fits most left o then Some o else None

-- a token behind the last element of a bracket
abbrev pub closed : Lexeme → Bracket → List Frame → List Node → Outcome
closed Close Round st out = (Has 0, st, out)
closed CloseCurly Curly st out = (Has 0, st, out ++ Comp curly 1 ∷ [])
closed CloseList (InList n) st out = (Has 0, st, (out ++ Atom nil ∷ []) ++ replicate (n + 1) cell)
closed Comma (InList n) st out = (Wants, InBracket (InList (n + 1)) ∷ st, out)
closed Bar (InList n) st out = (Wants, InBracket (Tail (n + 1)) ∷ st, out)
closed CloseList (Tail n) st out = (Has 0, st, out ++ replicate n cell)
closed Close (Call f n) st out = (Has 0, st, out ++ Comp f (n + 1) ∷ [])
closed Comma (Call f n) st out = (Wants, InBracket (Call f (n + 1)) ∷ st, out)
closed _ _ st out = (Stuck, st, out)

-- the name that an infix operator's token stands for
abbrev pub infix_name : Lexeme → Bytes
infix_name (Name w) = w.text
infix_name _ = codes ","

-- by the operator that goes on, or else by the innermost frame
abbrev pub chosen : Option Op → Lexeme → Frame → List Frame → List Node → (Node → ℕ → Outcome) → Outcome
chosen (Some o) k x st out rest = (Wants, Infix (infix_name k) o ∷ x ∷ st, out)
chosen None k (Prefix f o) st out rest = rest (Comp f 1) o.priority
chosen None k (Infix f o) st out rest = rest (Comp f 2) o.priority
chosen None k (InBracket b) st out rest = closed k b st out

abbrev pub at_bottom : Option Op → Lexeme → List Node → Outcome
at_bottom (Some o) k out = (Wants, Infix (infix_name k) o ∷ [], out)
at_bottom None k out = (Stuck, [], out)

-- a token behind an operand of priority p, where x is its row as an infix operator
unfoldable pub behind : Lexeme → Option Op → List Frame → List Node → ℕ → Outcome
behind k x [] out p = at_bottom (going_on 1200 p x) k out
behind k x (f ∷ st) out p = chosen (going_on (most_at f) p x) k f st out (λ n q. behind k x st (out ++ n ∷ []) q)

abbrev pub number : Bool → ℕ → List Frame → List Node → Outcome
number true n st out = (Has 0, st, out ++ Int (pos n) ∷ [])
number false n st out = (TooLarge, st, out)

abbrev pub negative : Bool → ℕ → List Frame → List Node → Outcome
negative true n st out = (Has 0, st, out ++ Int (neg_ℤ (pos n)) ∷ [])
negative false n st out = (TooLarge, st, out)

abbrev pub letter_node : ℕ → Node
letter_node c = Atom (encode_utf8 c)

-- a token in the place of an operand
abbrev pub begins : Lexeme → List Frame → List Node → Outcome
begins (Name w) st out = (Named w, st, out)
begins (Integer n d) st out = number (nat_lt n (2 ^ 127)) n st out
begins (Variable v) st out = (Has 0, st, out ++ Var v ∷ [])
begins (Text cs) st out = (Has 0, st, ((out ++ map letter_node cs) ++ Atom nil ∷ []) ++ replicate (length cs) cell)
begins (Open d) st out = (Wants, InBracket Round ∷ st, out)
begins OpenList st out = (Wants, InBracket (InList 0) ∷ st, out)
begins OpenCurly st out = (Wants, InBracket Curly ∷ st, out)
begins _ st out = (Stuck, st, out)

-- what belongs to the name before it
abbrev pub joined : Lexeme → Word → List Frame → List Node → Outcome
joined (Integer n d) w st out = negative (nat_le n (2 ^ 127)) n st out
joined _ w st out = (Wants, InBracket (Call w.text 0) ∷ st, out)

abbrev pub finished : List Frame → List Node → Option (List Node)
finished [] out = Some out
finished (Prefix f o ∷ st) out = finished st (out ++ Comp f 1 ∷ [])
finished (Infix f o ∷ st) out = finished st (out ++ Comp f 2 ∷ [])
finished _ out = None

abbrev pub finish : Outcome → Option (List Node)
finish (Has p, st, out) = finished st out
finish (Named w, st, out) = finished st (out ++ Atom w.text ∷ [])
finish _ = None

abbrev pub is_stuck : Now → Bool
is_stuck Stuck = true
is_stuck _ = false

abbrev pub is_sized : Now → Bool
is_sized TooLarge = false
is_sized _ = true

module _ (prefix infix_op : Bytes → Option Op) where
  -- the row of a token as an infix operator
  abbrev pub infix_row : Lexeme → Option Op
  infix_row (Name w) = infix_op w.text
  infix_row Comma = Some comma
  infix_row _ = None

  abbrev pub by_prefix : Lexeme → Option Op → Word → List Frame → List Node → Outcome
  by_prefix k None w st out = (Stuck, st, out)
  by_prefix k (Some o) w st out = if nat_le o.priority (most st) then begins k (Prefix w.text o ∷ st) out else (Stuck, st, out)

  -- a name before the token is an atom
  abbrev pub stands_alone : Bytes → Lexeme → Bool
  stands_alone f k = not (is_operator prefix infix_op f) || ends k

  unfoldable pub named : Lexeme → Word → List Frame → List Node → Outcome
  named k w st out =
      if joins w k then joined k w st out
      else if stands_alone w.text k then behind k (infix_row k) st (out ++ Atom w.text ∷ []) 0
      else by_prefix k (prefix w.text) w st out

  abbrev pub step : Lexeme → Outcome → Outcome
  step k (Wants, st, out) = begins k st out
  step k (Named w, st, out) = named k w st out
  step k (Has p, st, out) = behind k (infix_row k) st out p
  step k (Stuck, st, out) = (Stuck, st, out)
  step k (TooLarge, st, out) = (TooLarge, st, out)

  unfoldable pub reading : ℕ → List Placed → Outcome → Result (List Node) Fault
  reading end [] y = ok_or (finish y) (Syntax end)
  reading end (p ∷ ps) y =
      let next = step p.lexeme y in
      unless (refusal p (is_stuck next.0) (is_sized next.0)) (reading end ps next)
