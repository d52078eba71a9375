-- What is found from the nodes of what was read.
use Rattle.std.specs.Prelude.{◌≡◌, refl, ℕ, ◌<◌, Bool, true, false, ◌&&◌, nat_le, List, [], ◌∷◌, length, Option, Result, Ok, Err, if◌then◌else◌, reverse}
use Rattle.std.specs.List.{list_all}
use Rattle.std.proofs.Common.{arith, ap, ◌∙◌, sym, subst}
use Rattle.std.proofs.lemmas.Bool.{false≢true}
use Rattle.term_core.specs.declared.node.Node.{Node}
use Rattle.term_core.specs.declared.node.Node.TheVariants.{Var, Int, Atom, Comp}
use Rattle.term_core.specs.Tree.{Tree, variable, integer, atom, compound, depth}
use Rattle.term_core.specs.Flat.{flatten, parse, parse-flatten}
use Rattle.term_core.specs.Preorder.{AreTermNodes, HasArities}
use Rattle.term_core.proofs.Preorder.{ArePreorder-of}
use Rattle.op_table.specs.declared.op.Op.{Op}
use Rattle.prolog_grammar.specs.declared.grammar.fault.Fault.{Fault}
use Rattle.prolog_grammar.specs.declared.grammar.fault.Fault.TheVariants.{Syntax, Nesting, IntRange, Memory}
use Rattle.prolog_grammar.specs.declared.grammar.lexeme.Placed.{Placed}
use Rattle.prolog_grammar.specs.declared.grammar.frame.Now.TheVariants.{Wants}
use Rattle.prolog_grammar.specs.Readings.{Bytes, Reading, meaning}
use Rattle.prolog_grammar.specs.Machine.{start}
use Rattle.prolog_grammar.specs.Read.{reading, nodes_of, has_arguments, limited, and_then, Tells}
use Rattle.prolog_grammar.specs.Stack.{postorder}
use Rattle.prolog_grammar.specs.Stack as stack
use Rattle.prolog_grammar.specs.Turn.{turned}
use Rattle.prolog_grammar.proofs.Agree.{nodes, told, reads_as}
use Rattle.prolog_grammar.proofs.Complete.{both}
use Rattle.prolog_grammar.proofs.Turning.{turned_all}

or_list : {A : Type 0} → A → Result A Fault → A
or_list a (Ok b) = b
or_list a (Err e) = a

pub ok_same : {A : Type 0} (a b : A) → ◌≡◌ {A = Result A Fault} (Ok a) (Ok b) → a ≡ b
unfolding or_list
ok_same a b e = ap (or_list a) e

is_ok : {A : Type 0} → Result A Fault → Bool
is_ok (Ok a) = true
is_ok (Err e) = false

err_ok : {A : Type 0} (e : Fault) (a : A) → ◌≡◌ {A = Result A Fault} (Err e) (Ok a) → ⊥
unfolding is_ok
err_ok e a h = false≢true (ap is_ok h)

or_fault : {A : Type 0} → Fault → Result A Fault → Fault
or_fault e (Ok a) = e
or_fault e (Err f) = f

err_same : {A : Type 0} (e f : Fault) → ◌≡◌ {A = Result A Fault} (Err e) (Err f) → e ≡ f
unfolding or_fault
err_same e f h = ap (or_fault e) h

-- ---- arguments first to functors first

turned_told : (R : Result Reading Fault) (ns ms : List Node) → told R ≡ Ok ns → ms ≡ reverse (turned (reverse ns) ([], [])).1 → nodes_of R ≡ Ok ms
unfolding told nodes
turned_told (Err e) ns ms h g = absurd (err_ok e ns h)
turned_told (Ok r) ns ms h g = ap Ok (sym (g ∙ ap (λ l. reverse (turned (reverse l) ([], [])).1) (sym (ok_same _ _ h)) ∙ turned_all (meaning r)))

faults_told : (R : Result Reading Fault) (e : Fault) → Tells (told R) e → Tells (nodes_of R) e
unfolding told
faults_told (Err f) (Syntax p) h = h
faults_told (Err f) (Nesting p) h = h
faults_told (Err f) (IntRange p) h = h
faults_told (Err f) Memory h = tt
faults_told (Ok r) Memory h = tt
faults_told (Ok r) (Syntax at) h = absurd (err_ok _ _ (sym h))
faults_told (Ok r) (Nesting at) h = absurd (err_ok _ _ (sym h))
faults_told (Ok r) (IntRange at) h = absurd (err_ok _ _ (sym h))

module _ (prefix infix_op : Bytes → Option Op) (end : ℕ) (ps : List Placed) where
  pub preorder_ok : (ns ms : List Node) → stack.reading prefix infix_op end ps (Wants, [], []) ≡ Ok ns → ms ≡ reverse (turned (reverse ns) ([], [])).1 → nodes_of (reading prefix infix_op end ps start) ≡ Ok ms
  preorder_ok ns ms h g = turned_told (reading prefix infix_op end ps start) ns ms (sym (reads_as prefix infix_op end ps) ∙ h) g

  pub preorder_err : (e : Fault) → Tells (stack.reading prefix infix_op end ps (Wants, [], [])) e → Tells (nodes_of (reading prefix infix_op end ps start)) e
  preorder_err e h = faults_told (reading prefix infix_op end ps start) e (subst (λ r. Tells r e) (reads_as prefix infix_op end ps) h)

-- ---- the limits of a term

has_arities : (ns : List Node) → list_all has_arguments ns ≡ true → HasArities ns
has_arities [] h = tt
has_arities (Var v ∷ ns) h = has_arities ns h
has_arities (Int z ∷ ns) h = has_arities ns h
has_arities (Atom a ∷ ns) h = has_arities ns h
has_arities (Comp f k ∷ ns) h =
    let here = both (nat_le 1 k && nat_le k 1024) (list_all has_arguments ns) h in
    let size = both (nat_le 1 k) (nat_le k 1024) here.0 in
    (grind (arith, size.0), grind (arith, size.1), has_arities ns here.1)

some_node : (t : Tree) → 0 < length (flatten t)
some_node (variable n) = omega arith
some_node (integer z) = omega arith
some_node (atom a) = omega arith
some_node (compound f ts) = omega arith

pub node_of : (R : Result Reading Fault) (ns : List Node) → nodes_of R ≡ Ok ns → 0 < length ns
node_of (Err e) ns h = absurd (err_ok e ns h)
node_of (Ok r) ns h = subst (λ l. 0 < length l) (ok_same _ _ h) (some_node (meaning r))

pub term_nodes : (ns : List Node) → flatten (parse ns) ≡ ns → list_all has_arguments ns ≡ true → AreTermNodes ns
term_nodes ns e a = record { preorder = ArePreorder-of (parse ns) ns (sym e); arities = has_arities ns a }

pub limits : (at : ℕ) (ns : List Node) (a d : Bool) → flatten (parse ns) ≡ ns → list_all has_arguments ns ≡ a → nat_le (depth (parse ns)) 1000 ≡ d → limited at (parse ns) ≡ (if a && d then Ok (parse ns) else Err (Nesting at))
limits at ns a d e h g = rw (ap (list_all has_arguments) e ∙ h, g) refl

pub whole_tree : (R : Result Reading Fault) (ns : List Node) → nodes_of R ≡ Ok ns → flatten (parse ns) ≡ ns
whole_tree (Err e) ns h = absurd (err_ok e ns h)
whole_tree (Ok r) ns h =
    let same = ok_same _ _ h in
    subst (λ l. flatten (parse l) ≡ l) same (ap flatten (parse-flatten (meaning r)))

pub limited_as : (R : Result Reading Fault) (at : ℕ) (ns : List Node) → nodes_of R ≡ Ok ns → and_then R (λ r. limited at (meaning r)) ≡ limited at (parse ns)
limited_as (Err e) at ns h = absurd (err_ok e ns h)
limited_as (Ok r) at ns h = ap (limited at) (sym (ap parse (sym (ok_same _ _ h)) ∙ parse-flatten (meaning r)))

pub faults_first : (R : Result Reading Fault) (at : ℕ) (e : Fault) → Tells (nodes_of R) e → Tells (and_then R (λ r. limited at (meaning r))) e
faults_first (Err f) at (Syntax p) h = ap Err (err_same _ _ h)
faults_first (Err f) at (Nesting p) h = ap Err (err_same _ _ h)
faults_first (Err f) at (IntRange p) h = ap Err (err_same _ _ h)
faults_first (Err f) at Memory h = tt
faults_first (Ok r) at Memory h = tt
faults_first (Ok r) at (Syntax p) h = absurd (err_ok _ _ (sym h))
faults_first (Ok r) at (Nesting p) h = absurd (err_ok _ _ (sym h))
faults_first (Ok r) at (IntRange p) h = absurd (err_ok _ _ (sym h))
