-- How the writer lays a term out: as calls, lists, curly terms and operators, with the brackets that they need.
use Rattle.std.specs.Prelude.{ℕ, suc, ℤ, pos, negsuc, Bool, true, false, ◌&&◌, nat_lt, cond, List, ◌∷◌, codes, bytes_eq}
use Rattle.term_core.specs.Tree.{Tree, variable, integer, atom, compound, Trees, no_trees, tree, arity}
use Rattle.op_table.specs.declared.op.Op.{Op}
use Rattle.op_table.specs.Table.{left_of, right_of}
use Rattle.prolog_write.specs.declared.mode.Mode.{Mode}
use Rattle.prolog_write.specs.declared.place.Place.{Place}
use Rattle.prolog_write.specs.declared.place.Place.TheVariants.{Whole, Argument, Operand}
use Rattle.prolog_write.specs.declared.form.Form.{Form}
use Rattle.prolog_write.specs.declared.form.Form.TheVariants.{Curly, Cell, Prefix, Infix, Call}
use Rattle.prolog_write.specs.Text.{form, is_operand, is_operator, most}
use Rattle.prolog_grammar.specs.Readings.{Reading, Readings}
use Rattle.prolog_grammar.specs.Readings as reading
use Rattle.read_back.proofs.Spelled.{Item, variable_item, integer_item, name_item, mark_item, prefix_item, infix_item, open_round, close_round, open_square, close_square, open_curly, close_curly, comma, bar, word, infix_lexeme, is_tight}

mutual
  pub data Layout : Type 0 where
    unknown : ℕ → Layout
    number : ℤ → Layout
    plain : List ℕ → Layout
    call : List ℕ → Layouts → Layout
    round : Layout → Layout
    curly : Layout → Layout
    listed : Layouts → Layout
    -- elements, and what stands behind the bar
    partial : Layouts → Layout → Layout
    before : List ℕ → Op → Layout → Layout
    between : Layout → List ℕ → Op → Layout → Layout

  pub data Layouts : Type 0 where
    one : Layout → Layouts
    and : Layout → Layouts → Layouts

-- ---- of a term

abbrev pub in_brackets : Bool → Layout → Layout
in_brackets b l = cond b (round l) l

-- an element and the rest of its list, which has no brackets of its own where it is a list
abbrev pub with_element : Layout → Layout → Layout
with_element e (plain f) = cond (bytes_eq f (codes "[]")) (listed (one e)) (partial (one e) (plain f))
with_element e (listed ls) = listed (and e ls)
with_element e (partial ls l) = partial (and e ls) l
with_element e l = partial (one e) l

unfoldable mutual
  pub layout : Mode → Tree → Place → Layout
  layout m (variable n) at = unknown n
  layout m (integer z) at = number z
  layout m (atom f) at = in_brackets (is_operand at && is_operator f) (plain f)
  layout m (compound f ts) at = by_form m (form m f (arity ts)) f ts at

  -- a form has as many arguments as it needs; the last line is for none
  pub by_form : Mode → Form → List ℕ → Trees → Place → Layout
  by_form m Call f (tree t ts) at = call f (arguments m (layout m t Argument) ts)
  by_form m Curly f (tree t ts) at = curly (layout m t Whole)
  by_form m Cell f (tree t (tree u us)) at = with_element (layout m t Argument) (layout m u Argument)
  by_form m (Prefix o) f (tree t ts) at = in_brackets (nat_lt (most at) o.priority) (before f o (layout m t (Operand (right_of o))))
  by_form m (Infix o) f (tree t (tree u us)) at =
      in_brackets (nat_lt (most at) o.priority) (between (layout m t (Operand (left_of o))) f o (layout m u (Operand (right_of o))))
  by_form m _ f _ at = round (plain f)

  -- an argument and those behind it
  pub arguments : Mode → Layout → Trees → Layouts
  arguments m l no_trees = one l
  arguments m l (tree t ts) = and l (arguments m (layout m t Argument) ts)

-- ---- its items, before some others

unfoldable mutual
  pub items : Layout → List Item → List Item
  items (unknown n) xs = variable_item n ∷ xs
  items (number z) xs = integer_item z ∷ xs
  items (plain f) xs = name_item f ∷ xs
  items (call f ls) xs = name_item f ∷ mark_item open_round ∷ all_items ls (mark_item close_round ∷ xs)
  items (round l) xs = mark_item open_round ∷ items l (mark_item close_round ∷ xs)
  items (curly l) xs = mark_item open_curly ∷ items l (mark_item close_curly ∷ xs)
  items (listed ls) xs = mark_item open_square ∷ all_items ls (mark_item close_square ∷ xs)
  items (partial ls l) xs = mark_item open_square ∷ all_items ls (mark_item bar ∷ items l (mark_item close_square ∷ xs))
  items (before f o l) xs = prefix_item f ∷ items l xs
  items (between l f o r) xs = items l (infix_item f ∷ items r xs)

  -- with commas between them
  pub all_items : Layouts → List Item → List Item
  all_items (one l) xs = items l xs
  all_items (and l ls) xs = items l (mark_item comma ∷ all_items ls xs)

-- ---- its reading

-- a negative integer is an unquoted minus and its digits
abbrev pub integer_reading : Bool → ℤ → Reading
integer_reading d (pos n) = reading.Digits n d
integer_reading d (negsuc n) = reading.Negative (word (codes "-")) (suc n)

-- the key of each variable, and whether the first token stands directly behind the token before it
module _ (key : ℕ → ℕ) where
  unfoldable mutual
    pub read_as : Bool → Layout → Reading
    read_as d (unknown n) = reading.Unknown (key n)
    read_as d (number z) = integer_reading d z
    read_as d (plain f) = reading.Plain (word f)
    read_as d (call f ls) = reading.Call (word f) (all_read_as ls)
    read_as d (round l) = reading.Round d (read_as true l)
    read_as d (curly l) = reading.Curly (read_as true l)
    read_as d (listed ls) = reading.Listed (all_read_as ls)
    read_as d (partial ls l) = reading.Partial (all_read_as ls) (read_as true l)
    read_as d (before f o l) = reading.Before (word f) o (read_as false l)
    read_as d (between l f o r) = reading.Between (read_as d l) (infix_lexeme f) f o (read_as (is_tight (infix_item f)) r)

    -- arguments and elements stand directly behind a bracket or a comma
    pub all_read_as : Layouts → Readings
    all_read_as (one l) = reading.one (read_as true l)
    all_read_as (and l ls) = reading.and (read_as true l) (all_read_as ls)
