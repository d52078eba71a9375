-- What is still to be written when a term's nodes are walked from the left.
use Rattle.std.specs.Prelude.{ℕ, zero, suc, ◌-◌, ◌≤◌, Bool, true, false, cond, ◌&&◌, nat_lt, bytes_eq, codes, List, [], ◌∷◌, ◌++◌, map, reverse, length, ⊤}
use Rattle.std.specs.Fmt.{signed_decimal}
use Rattle.term_core.specs.declared.node.Node.{Node}
use Rattle.term_core.specs.declared.node.Node.TheVariants.{Var, Int, Atom, Comp}
use Rattle.term_core.specs.Tree.{Tree}
use Rattle.term_core.specs.Flat.{build}
use Rattle.op_table.specs.Table.{left_of, right_of}
use Rattle.prolog_write.specs.declared.mode.Mode.{Mode}
use Rattle.prolog_write.specs.declared.place.Place.{Place}
use Rattle.prolog_write.specs.declared.place.Place.TheVariants.{Whole, Argument, Operand}
use Rattle.prolog_write.specs.declared.form.Form.{Form}
use Rattle.prolog_write.specs.declared.form.Form.TheVariants.{Curly, Cell, Prefix, Infix, Call}
use Rattle.prolog_write.specs.declared.lexeme.Lexeme.{Lexeme}
use Rattle.prolog_write.specs.declared.lexeme.Lexeme.TheVariants as lexeme
use Rattle.prolog_write.specs.declared.task.Task.{Task}
use Rattle.prolog_write.specs.declared.task.Task.TheVariants.{Write, Take, Arguments}
use Rattle.prolog_write.specs.declared.task.Want.{Want}
use Rattle.prolog_write.specs.declared.task.Want.TheVariants.{Term, Rest}
use Rattle.prolog_write.specs.Text.{Piece, piece, mark, variable_piece, prefix_piece, infix_piece, atom_text, is_operator, is_operand, most, form, pieces, rest_of_list}

-- a piece; the next term; or so many arguments behind others, and the closing bracket
pub data Duty : Type 0 where
  write : Piece → Duty
  take_term : Want → Duty
  take_arguments : ℕ → Duty

-- ---- what duties write, where these trees come

abbrev pub wanted : Mode → Want → Tree → List Piece
wanted m (Term at) t = pieces m t at
wanted m Rest t = rest_of_list m t (pieces m t)

module _ (m : Mode) where
  abbrev pub owed_arguments : ℕ → (List Tree → List Piece) → List Tree → List Piece
  owed_arguments zero then us = mark ")" ∷ then us
  owed_arguments (suc k) then [] = mark "," ∷ []
  owed_arguments (suc k) then (u ∷ us) = mark "," ∷ (pieces m u Argument ++ owed_arguments k then us)

  abbrev pub owed_term : Want → (List Tree → List Piece) → List Tree → List Piece
  owed_term w then [] = []
  owed_term w then (u ∷ us) = wanted m w u ++ then us

  abbrev pub owed : List Duty → List Tree → List Piece
  owed [] us = []
  owed (write p ∷ ds) us = p ∷ owed ds us
  owed (take_term w ∷ ds) us = owed_term w (owed ds) us
  owed (take_arguments k ∷ ds) us = owed_arguments k (owed ds) us

-- ---- the duties of a node where a term is wanted

abbrev pub bracketed : Bool → List Duty → List Duty
bracketed b ds = cond b (write (mark "(") ∷ (ds ++ write (mark ")") ∷ [])) ds

abbrev pub operand : ℕ → Duty
operand p = take_term (Term (Operand p))

abbrev pub compound_duties : Mode → Place → List ℕ → ℕ → Form → List Duty
compound_duties m at f k Curly = write (mark "{") ∷ take_term (Term Whole) ∷ write (mark "}") ∷ []
compound_duties m at f k Cell = write (mark "[") ∷ take_term (Term Argument) ∷ take_term Rest ∷ []
compound_duties m at f k (Prefix o) = bracketed (nat_lt (most at) o.priority) (write (prefix_piece f) ∷ operand (right_of o) ∷ [])
compound_duties m at f k (Infix o) =
    bracketed (nat_lt (most at) o.priority) (operand (left_of o) ∷ write (infix_piece f) ∷ operand (right_of o) ∷ [])
compound_duties m at f k Call =
    write (piece (atom_text m f)) ∷ write (mark "(") ∷ take_term (Term Argument) ∷ take_arguments (k - 1) ∷ []

abbrev pub term_duties : Mode → Place → Node → List Duty
term_duties m at (Var n) = write (variable_piece n) ∷ []
term_duties m at (Int z) = write (piece (signed_decimal z)) ∷ []
term_duties m at (Atom f) = bracketed (is_operand at && is_operator f) (write (piece (atom_text m f)) ∷ [])
term_duties m at (Comp f k) = compound_duties m at f k (form m f k)

abbrev pub bar_duties : Mode → Node → List Duty
bar_duties m n = write (mark "|") ∷ (term_duties m Argument n ++ write (mark "]") ∷ [])

abbrev pub is_cell_form : Form → Bool
is_cell_form Cell = true
is_cell_form Curly = false
is_cell_form (Prefix o) = false
is_cell_form (Infix o) = false
is_cell_form Call = false

abbrev pub rest_duties : Mode → Node → List Duty
rest_duties m (Var n) = bar_duties m (Var n)
rest_duties m (Int z) = bar_duties m (Int z)
rest_duties m (Atom f) = cond (bytes_eq f (codes "[]")) (write (mark "]") ∷ []) (bar_duties m (Atom f))
rest_duties m (Comp f k) =
    cond (is_cell_form (form m f k)) (write (mark ",") ∷ take_term (Term Argument) ∷ take_term Rest ∷ []) (bar_duties m (Comp f k))

abbrev pub duties : Mode → Want → Node → List Duty
duties m (Term at) n = term_duties m at n
duties m Rest n = rest_duties m n

-- ---- the tasks of the code

abbrev pub piece_of : Mode → Lexeme → Piece
piece_of m (lexeme.Mark c) = piece (c ∷ [])
piece_of m (lexeme.Variable n) = variable_piece n
piece_of m (lexeme.Integer z) = piece (signed_decimal z)
piece_of m (lexeme.Atom f) = piece (atom_text m f.now)
piece_of m (lexeme.Prefix f) = prefix_piece f.now
piece_of m (lexeme.Infix f) = infix_piece f.now

abbrev pub duty_of : Mode → Task → Duty
duty_of m (Write l) = write (piece_of m l)
duty_of m (Take w) = take_term w
duty_of m (Arguments k) = take_arguments k

-- the duties of tasks, whose last is the next
abbrev pub stacked : Mode → List Task → List Duty
stacked m ts = map (duty_of m) (reverse ts)

-- what is still to be written, and how
pub record Owing : Type 0 where
  pub mode : Mode
  pub duties : List Duty

-- these duties before the others
abbrev pub pushed : Owing → List Duty → Owing
pushed o ds = record o { duties = ds ++ o.duties }

-- ---- nodes that have their arguments

abbrev pub HasArguments : Node → Type 0
HasArguments (Var n) = ⊤
HasArguments (Int z) = ⊤
HasArguments (Atom f) = ⊤
HasArguments (Comp f k) = 1 ≤ k

-- a compound has at least one argument, and the trees that follow it are enough
abbrev pub FitsBefore : Node → List Tree → Type 0
FitsBefore (Var n) us = ⊤
FitsBefore (Int z) us = ⊤
FitsBefore (Atom f) us = ⊤
FitsBefore (Comp f k) us = (1 ≤ k) × (k ≤ length us)

abbrev pub EachFits : List Node → Type 0
EachFits [] = ⊤
EachFits (n ∷ ns) = FitsBefore n (build ns) × EachFits ns
