-- The table of operators (ISO 13211-1, 6.3.4.4).
use Rattle.std.specs.Prelude.{ℕ, ◌-◌, ◌==◌, ◌&&◌, ◌||◌, not, Bool, true, false, Result, Ok, Err, ℤ, pos, int_le, nat_abs, List, [], ◌∷◌, ◌++◌, map, filter, cond, Option, Some, None, codes, bytes_eq}
use Rattle.op_table.specs.declared.op.Op.{Op}
use Rattle.op_table.specs.declared.op.OpFault.{OpFault}
use Rattle.op_table.specs.declared.op.OpFault.TheVariants.{BadPriority, BadKind, Clash}
use Rattle.op_table.specs.declared.op.OpKind.{OpKind}
use Rattle.op_table.specs.declared.op.OpKind.TheVariants.{Xfx, Xfy, Yfx, Fx, Fy}
use denote.Bor.{Bor}
use Prim.Native.String.{String}

-- rows of a name and its operator
abbrev pub Rows : Type 0
Rows = List (List ℕ × Op)

-- the operators that stand before their operand, and those that stand between two
pub record Table : Type 0 where
  pub before : Rows
  pub between : Rows

-- the operator of the first row with this name
abbrev pub row : List ℕ → Rows → Option Op
row f [] = None
row f (r ∷ rs) = cond (bytes_eq r.0 f) (Some r.1) (row f rs)

-- the greatest priority of the operand on the left, and of the one on the right
abbrev left_by : ℕ → OpKind → ℕ
left_by p Yfx = p
left_by p _ = p - 1

abbrev right_by : ℕ → OpKind → ℕ
right_by p Xfy = p
right_by p Fy = p
right_by p _ = p - 1

abbrev pub left_of : Op → ℕ
left_of o = left_by o.priority o.kind

abbrev pub right_of : Op → ℕ
right_of o = right_by o.priority o.kind

-- the rows of a table of literals
abbrev pub rows_of : List (Bor (List ℕ) × ℕ × OpKind) → Rows
rows_of rs = map (λ r. (r.0.now, record { priority = r.1; kind = r.2 })) rs

-- the operators of one row of the standard's table
abbrev ops : ℕ → OpKind → List String → Rows
ops p k names = map (λ s. (codes s, record { priority = p; kind = k })) names

unfoldable pub iso_prefix : Rows
iso_prefix =
    ops 1200 Fx (":-" ∷ "?-" ∷ []) ++ ops 900 Fy ("\\+" ∷ []) ++ ops 200 Fy ("-" ∷ "+" ∷ "\\" ∷ [])

unfoldable pub iso_infix : Rows
iso_infix =
    ops 1200 Xfx (":-" ∷ "-->" ∷ []) ++ ops 1100 Xfy (";" ∷ []) ++ ops 1050 Xfy ("->" ∷ []) ++ ops 1000 Xfy ("," ∷ [])
    ++ ops 700 Xfx ("=" ∷ "\\=" ∷ "==" ∷ "\\==" ∷ "@<" ∷ "@=<" ∷ "@>" ∷ "@>=" ∷ "=.." ∷ "is" ∷ "=:=" ∷ "=\\=" ∷ "<" ∷ "=<" ∷ ">" ∷ ">=" ∷ [])
    ++ ops 500 Yfx ("+" ∷ "-" ∷ "/\\" ∷ "\\/" ∷ []) ++ ops 400 Yfx ("*" ∷ "/" ∷ "//" ∷ "rem" ∷ "mod" ∷ "div" ∷ "<<" ∷ ">>" ∷ [])
    ++ ops 200 Xfx ("**" ∷ []) ++ ops 200 Xfy ("^" ∷ [])

abbrev pub kind_named : List ℕ → Option OpKind
kind_named f =
    cond (bytes_eq f (codes "xfx")) (Some Xfx)
    (cond (bytes_eq f (codes "xfy")) (Some Xfy)
    (cond (bytes_eq f (codes "yfx")) (Some Yfx)
    (cond (bytes_eq f (codes "fx")) (Some Fx)
    (cond (bytes_eq f (codes "fy")) (Some Fy) None))))

-- ---- op/3 (ISO 13211-1, 8.14.3)

abbrev pub is_reserved : List ℕ → Bool
is_reserved f =
    bytes_eq f (codes ",") || bytes_eq f (codes "|") || bytes_eq f (codes "[]") || bytes_eq f (codes "{}")

abbrev pub is_priority : ℤ → Bool
is_priority p = int_le (pos 0) p && int_le p (pos 1200)

abbrev asked_as : ℕ → Option OpKind → List ℕ → Result Op OpFault
asked_as p None f = Err BadKind
asked_as p (Some k) f = cond (is_reserved f) (Err Clash) (Ok (record { priority = p; kind = k }))

-- the operator that is asked for, or the first reason to refuse it
abbrev pub asked : ℤ → List ℕ → List ℕ → Result Op OpFault
asked p kind f = cond (is_priority p) (asked_as (nat_abs p) (kind_named kind) f) (Err BadPriority)

abbrev pub without : List ℕ → Rows → Rows
without f rs = filter (λ r. not (bytes_eq r.0 f)) rs

-- the rows with this operator for the name's, where priority 0 is none
abbrev pub with_row : List ℕ → Op → Rows → Rows
with_row f o rs = cond (o.priority == 0) (without f rs) (without f rs ++ (f, o) ∷ [])

abbrev pub is_prefix : OpKind → Bool
is_prefix Fx = true
is_prefix Fy = true
is_prefix Xfx = false
is_prefix Xfy = false
is_prefix Yfx = false

-- the table with this operator for the name's at its place, before an operand or between two
abbrev pub with_op : List ℕ → Op → Table → Table
with_op f o t = cond (is_prefix o.kind) (record t { before = with_row f o t.before }) (record t { between = with_row f o t.between })
