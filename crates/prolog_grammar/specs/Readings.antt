-- The grammar of terms (ISO 13211-1, 6.3) as a type of readings: how a term is written, by its cases.
use Rattle.std.specs.Prelude.{◌≡◌, ℕ, Bool, true, false, not, ◌&&◌, ◌||◌, nat_le, pos, neg_ℤ, List, [], ◌∷◌, is_some, Option, Some, None, codes, ⊤, encode_utf8}
use Rattle.term_core.specs.Tree.{Tree, variable, integer, atom, compound, Trees, no_trees, tree}
use Rattle.op_table.specs.declared.op.Op.{Op}
use Rattle.op_table.specs.declared.op.OpKind.TheVariants.{Xfy}
use Rattle.op_table.specs.Table.{left_of, right_of}
use Rattle.prolog_grammar.specs.declared.grammar.lexeme.Word.{Word}
use Rattle.prolog_grammar.specs.declared.grammar.lexeme.Lexeme.{Lexeme}
use Rattle.prolog_grammar.specs.declared.grammar.lexeme.Lexeme.TheVariants.{Name, Integer, Variable, Text, Open, Close, OpenList, CloseList, OpenCurly, CloseCurly, Comma, Bar}

-- a name as its bytes
abbrev pub Bytes : Type 0
Bytes = List ℕ

-- How a term is written, which keeps brackets and the operators' rows.
mutual
  pub data Reading : Type 0 where
    Unknown : ℕ → Reading
    Digits : ℕ → Bool → Reading
    -- an unquoted `-` and the digits directly behind it
    Negative : Word → ℕ → Reading
    Letters : List ℕ → Reading
    Plain : Word → Reading
    Call : Word → Readings → Reading
    Round : Bool → Reading → Reading
    Curly : Reading → Reading
    Listed : Readings → Reading
    -- elements, and what stands behind the bar
    Partial : Readings → Reading → Reading
    Before : Word → Op → Reading → Reading
    -- an infix operator between its operands: its token, its name and its row
    Between : Reading → Lexeme → Bytes → Op → Reading → Reading

  pub data Readings : Type 0 where
    one : Reading → Readings
    and : Reading → Readings → Readings

-- ---- its tokens

-- the tokens of a reading, before some others
unfoldable mutual
  pub yield : Reading → List Lexeme → List Lexeme
  yield (Unknown v) ks = Variable v ∷ ks
  yield (Digits n d) ks = Integer n d ∷ ks
  yield (Negative w n) ks = Name w ∷ Integer n true ∷ ks
  yield (Letters cs) ks = Text cs ∷ ks
  yield (Plain w) ks = Name w ∷ ks
  yield (Call w rs) ks = Name w ∷ Open true ∷ elements rs (Close ∷ ks)
  yield (Round d r) ks = Open d ∷ yield r (Close ∷ ks)
  yield (Curly r) ks = OpenCurly ∷ yield r (CloseCurly ∷ ks)
  yield (Listed rs) ks = OpenList ∷ elements rs (CloseList ∷ ks)
  yield (Partial rs r) ks = OpenList ∷ elements rs (Bar ∷ yield r (CloseList ∷ ks))
  yield (Before w o r) ks = Name w ∷ yield r ks
  yield (Between l k f o r) ks = yield l (k ∷ yield r ks)

  -- with commas between them
  pub elements : Readings → List Lexeme → List Lexeme
  elements (one r) ks = yield r ks
  elements (and r rs) ks = yield r (Comma ∷ elements rs ks)

-- ---- its term

abbrev pub nil : Bytes
nil = codes "[]"

abbrev pub curly : Bytes
curly = codes "{}"

abbrev pub dot : Bytes
dot = codes "."

abbrev pub pair : Bytes → Tree → Tree → Tree
pair f t u = compound f (tree t (tree u no_trees))

-- a list of one-character atoms
abbrev pub letters : List ℕ → Tree
letters [] = atom nil
letters (c ∷ cs) = pair dot (atom (encode_utf8 c)) (letters cs)

unfoldable mutual
  pub meaning : Reading → Tree
  meaning (Unknown v) = variable v
  meaning (Digits n d) = integer (pos n)
  meaning (Negative w n) = integer (neg_ℤ (pos n))
  meaning (Letters cs) = letters cs
  meaning (Plain w) = atom w.text
  meaning (Call w rs) = compound w.text (meanings rs)
  meaning (Round d r) = meaning r
  meaning (Curly r) = compound curly (tree (meaning r) no_trees)
  meaning (Listed rs) = cells rs (atom nil)
  meaning (Partial rs r) = cells rs (meaning r)
  meaning (Before w o r) = compound w.text (tree (meaning r) no_trees)
  meaning (Between l k f o r) = pair f (meaning l) (meaning r)

  pub meanings : Readings → Trees
  meanings (one r) = tree (meaning r) no_trees
  meanings (and r rs) = tree (meaning r) (meanings rs)

  -- the list cells of these elements, before a tail
  pub cells : Readings → Tree → Tree
  cells (one r) tail = pair dot (meaning r) tail
  cells (and r rs) tail = pair dot (meaning r) (cells rs tail)

-- ---- its rules

abbrev pub priority : Reading → ℕ
priority (Before w o r) = o.priority
priority (Between l k f o r) = o.priority
priority _ = 0

-- what may follow an operator that stands for itself
abbrev pub ends : Lexeme → Bool
ends Close = true
ends CloseList = true
ends CloseCurly = true
ends Bar = true
ends Comma = true
ends _ = false

-- a name and what stands directly behind it are one: a functor and its bracket, a minus and its digits
abbrev pub joins : Word → Lexeme → Bool
joins w (Open d) = d
joins w (Integer n d) = d && w.is_minus
joins w _ = false

-- the first token of a reading is such a one
abbrev pub joins_front : Word → Reading → Bool
joins_front w (Round d r) = d
joins_front w (Digits n d) = d && w.is_minus
joins_front w (Between l k f o r) = joins_front w l
joins_front w _ = false

-- the comma between operands
abbrev pub comma : Op
comma = record { priority = 1000; kind = Xfy }

abbrev pub fits : ℕ → ℕ → Op → Bool
fits most left o = nat_le o.priority most && nat_le left (left_of o)

module _ (prefix infix_op : Bytes → Option Op) where
  unfoldable pub is_operator : Bytes → Bool
  is_operator f = is_some (prefix f) || is_some (infix_op f)

  abbrev pub named : Bytes → Option Op → Option (Bytes × Op)
  named f None = None
  named f (Some o) = Some (f, o)

  -- the infix operator that a token is
  abbrev pub row : Lexeme → Option (Bytes × Op)
  row (Name w) = named w.text (infix_op w.text)
  row Comma = Some (codes ",", comma)
  row _ = None

  abbrev pub row_fits : ℕ → ℕ → Option (Bytes × Op) → Bool
  row_fits most left None = false
  row_fits most left (Some x) = fits most left x.1

  -- the token goes on with an operand of this priority, where the place allows `most`
  unfoldable pub goes_on : ℕ → ℕ → Lexeme → Bool
  goes_on most left k = row_fits most left (row k)

  -- the token goes on with no operand at the right edge of a reading, so that it comes after the whole of it
  unfoldable pub quiet : Lexeme → Reading → Bool
  quiet k (Plain w) = not (is_operator w.text) || ends k
  quiet k (Before w o r) = not (goes_on (right_of o) (priority r) k) && quiet k r
  quiet k (Between l j f o r) = not (goes_on (right_of o) (priority r) k) && quiet k r
  quiet k _ = true

  -- The rules of the grammar: priorities, the operators' rows, and what belongs to an operator on the left.
  unfoldable mutual
    pub Fits : Reading → Type 0
    Fits (Negative w n) = w.is_minus ≡ true
    Fits (Call w rs) = FitAll rs
    Fits (Round d r) = Fits r × (nat_le (priority r) 1200 ≡ true)
    Fits (Curly r) = Fits r × (nat_le (priority r) 1200 ≡ true)
    Fits (Listed rs) = FitAll rs
    Fits (Partial rs r) = FitAll rs × Fits r × (nat_le (priority r) 999 ≡ true)
    Fits (Before w o r) = Fits r × (prefix w.text ≡ Some o) × (nat_le (priority r) (right_of o) ≡ true) × (joins_front w r ≡ false)
    Fits (Between l k f o r) = Fits l × Fits r × (row k ≡ Some (f, o)) × (nat_le (priority l) (left_of o) ≡ true) × (nat_le (priority r) (right_of o) ≡ true) × (quiet k l ≡ true)
    Fits _ = ⊤

    -- arguments and list elements
    pub FitAll : Readings → Type 0
    FitAll (one r) = Fits r × (nat_le (priority r) 999 ≡ true)
    FitAll (and r rs) = Fits r × (nat_le (priority r) 999 ≡ true) × FitAll rs

  -- these tokens are read so
  pub record IsReading (ks : List Lexeme) (r : Reading) : Type 0 where
    pub fits : Fits r
    pub priority : nat_le (priority r) 1200 ≡ true
    pub tokens : yield r [] ≡ ks
