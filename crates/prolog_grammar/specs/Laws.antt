-- The laws of the grammar and the machine.
use Rattle.std.specs.Prelude.{◌≡◌, true, false, List, ◌++◌, Option, Some}
use Rattle.op_table.specs.declared.op.Op.{Op}
use Rattle.prolog_grammar.specs.declared.grammar.lexeme.Lexeme.{Lexeme}
use Rattle.prolog_grammar.specs.Readings.{Bytes, Reading, IsReading}
use Rattle.prolog_grammar.specs.Machine.{run, run_to, start, is_stuck}

-- each reading of the tokens is the one that the machine finds
abbrev pub EveryReadingIsFound : Type 0
EveryReadingIsFound = (prefix infix_op : Bytes → Option Op) (ks : List Lexeme) (r : Reading) → IsReading prefix infix_op ks r → run prefix infix_op ks start ≡ Some r

abbrev pub FoundIsReading : Type 0
FoundIsReading = (prefix infix_op : Bytes → Option Op) (ks : List Lexeme) (r : Reading) → run prefix infix_op ks start ≡ Some r → IsReading prefix infix_op ks r

-- some continuation of the tokens has a reading
abbrev pub HasContinuation : (Bytes → Option Op) → (Bytes → Option Op) → List Lexeme → Type 0
HasContinuation prefix infix_op front = (rest : List Lexeme) × (r : Reading) × IsReading prefix infix_op (front ++ rest) r

-- where the machine isn't stuck there is a continuation, and where it is there is none
pub record LeastFaults (prefix infix_op : Bytes → Option Op) (front : List Lexeme) : Type 0 where
  pub viable : is_stuck (run_to prefix infix_op front start) ≡ false → HasContinuation prefix infix_op front
  pub refused : is_stuck (run_to prefix infix_op front start) ≡ true → HasContinuation prefix infix_op front → ⊥

abbrev pub FaultsAreLeast : Type 0
FaultsAreLeast = (prefix infix_op : Bytes → Option Op) (front : List Lexeme) → LeastFaults prefix infix_op front
