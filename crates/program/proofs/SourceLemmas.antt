-- What the terms of a source text say, by their symbols and arguments.
use Rattle.std.proofs.Common.{◌≡◌, ℕ, suc, ◌≤◌, Bool, true, false, ◌&&◌, ◌||◌, ◌==◌, List, [], ◌∷◌, ◌++◌, length, codes, bytes_eq, Option, Some, None, is_some, if◌then◌else◌, subst, refl, ap, sym, ◌∙◌, arith}
use Rattle.std.specs.Cmp.Lexicographic.{bytes_decides}
use Rattle.std.proofs.lemmas.Bool.{false_from_ne_true, and_parts, eqb-true}
use Rattle.std.proofs.lemmas.List.{length-append}
use Rattle.term_core.specs.declared.pi.Pi.{Pi}
use Rattle.term_core.specs.Tree.{Tree, variable, integer, atom, compound, Trees, no_trees, tree, tree_list, arity}
use Rattle.term_core.specs.Parts.{symbol_of, arguments_of}
use Rattle.term_core.specs.Variables.{occurrences, variables, above_all, first_free}
use Rattle.program.specs.declared.source.Item.{Item}
use Rattle.program.specs.declared.source.Item.TheVariants.{Directive, Rule}
use Rattle.program.specs.Bodies.{is_body}
use Rattle.program.specs.Clauses.{Clause, indicator_of, is_for}
use Rattle.program.specs.declared.fault.ProgFault.TheVariants.{BadDirective, NotCallable}
use Rattle.program.specs.Source.{fact, item_of, clause_in, are_imports, is_operator, is_directive, redefines, fault_at, fault_of}
use Rattle.program.specs.Symbols.{is_neck, functor_of}

or_false : (b : Bool) → (b || false) ≡ b
or_false true = refl
or_false false = refl

and_true_off : (b : Bool) → (b && true) ≡ false → b ≡ false
and_true_off true e = cc
and_true_off false e = refl

other_text : (f g : List ℕ) → (f ≡ g → ⊥) → bytes_eq f g ≡ false
other_text f g h = false_from_ne_true (bytes_eq f g) (λ e. h ((bytes_decides f g).0 e))

-- ---- directives

directive_by_parts : (t : Tree) → is_directive t ≡ ((bytes_eq (functor_of t) (codes "use_module") && are_imports (arguments_of t)) || (bytes_eq (functor_of t) (codes "op") && is_operator (arguments_of t)))
unfolding is_directive
directive_by_parts (variable n) = refl
directive_by_parts (integer z) = refl
directive_by_parts (atom f) = refl
directive_by_parts (compound f ts) = refl

pub directive_use : (t : Tree) → functor_of t ≡ codes "use_module" → are_imports (arguments_of t) ≡ is_directive t
directive_use t e = rw (directive_by_parts t, e) (sym (or_false (are_imports (arguments_of t))))

pub directive_op : (t : Tree) → functor_of t ≡ codes "op" → is_operator (arguments_of t) ≡ is_directive t
directive_op t e = rw (directive_by_parts t, e) refl

pub directive_other : (t : Tree) → (functor_of t ≡ codes "use_module" → ⊥) → (functor_of t ≡ codes "op" → ⊥) → false ≡ is_directive t
directive_other t h k =
    rw (directive_by_parts t, other_text (functor_of t) (codes "use_module") h, other_text (functor_of t) (codes "op") k) refl

-- ---- rules

-- the term is `:-` of one or two arguments
pub record IsNeck (t : Tree) : Type 0 where
  pub functor : functor_of t ≡ codes ":-"
  pub few : length (arguments_of t) ≤ 2

length-tree_list : (ts : Trees) → length (tree_list ts) ≡ arity ts
length-tree_list no_trees = refl
length-tree_list (tree t ts) = ap suc (length-tree_list ts)

one_or_two : (k : ℕ) → (k == 1 || k == 2) ≡ true → k ≤ 2
one_or_two k h = grind arith

pub neck_of : (t : Tree) → is_neck (symbol_of t) ≡ true → IsNeck t
neck_of (variable n) e = cc
neck_of (integer z) e = cc
neck_of (atom f) e = cc
neck_of (compound f ts) e =
    let parts = and_parts (bytes_eq f (codes ":-")) (arity ts == 1 || arity ts == 2) e in
    record {
      functor = (bytes_decides f (codes ":-")).0 parts.0;
      few = omega (arith, one_or_two (arity ts) parts.1, length-tree_list ts);
    }

pub item_of_directive : (t d : Tree) → functor_of t ≡ codes ":-" → arguments_of t ≡ d ∷ [] → Directive d ≡ item_of t
unfolding item_of
item_of_directive (variable n) d e h = cc
item_of_directive (integer z) d e h = cc
item_of_directive (atom f) d e h = cc
item_of_directive (compound f no_trees) d e h = cc
item_of_directive (compound f (tree a no_trees)) d e h = rw e (ap Directive (let x : d ≡ a = cc in x))
item_of_directive (compound f (tree a (tree b ts))) d e h = cc

pub item_of_rule : (t h b : Tree) → functor_of t ≡ codes ":-" → arguments_of t ≡ h ∷ b ∷ [] → Rule h b ≡ item_of t
unfolding item_of
item_of_rule (variable n) h b e g = cc
item_of_rule (integer z) h b e g = cc
item_of_rule (atom f) h b e g = cc
item_of_rule (compound f no_trees) h b e g = cc
item_of_rule (compound f (tree x no_trees)) h b e g = cc
item_of_rule (compound f (tree x (tree y no_trees))) h b e g =
    rw e (let i : h ≡ x = cc in let j : b ≡ y = cc in rw (i, j) refl)
item_of_rule (compound f (tree x (tree y (tree z ts)))) h b e g = cc

pub item_of_fact : (t : Tree) → is_neck (symbol_of t) ≡ false → fact t ≡ item_of t
unfolding item_of
item_of_fact (variable n) e = refl
item_of_fact (integer z) e = refl
item_of_fact (atom f) e = refl
item_of_fact (compound f no_trees) e = refl
item_of_fact (compound f (tree x no_trees)) e = rw (and_true_off (bytes_eq f (codes ":-")) e) refl
item_of_fact (compound f (tree x (tree y no_trees))) e = rw (and_true_off (bytes_eq f (codes ":-")) e) refl
item_of_fact (compound f (tree x (tree y (tree z ts)))) e = refl

-- the arguments, taken off the end
pub one_taken : (xs ys : List Tree) (d : Tree) → xs ≡ ys ++ d ∷ [] → length ys ≡ 0 → xs ≡ d ∷ []
one_taken xs [] d e h = e
one_taken xs (y ∷ ys) d e h = absurd (omega (arith, h))

pub two_taken : (xs ys zs : List Tree) (h b : Tree) → length xs ≤ 2 → xs ≡ ys ++ b ∷ [] → ys ≡ zs ++ h ∷ [] → xs ≡ h ∷ b ∷ []
two_taken xs ys [] h b l e g = rw (e, g) refl
two_taken xs ys (z ∷ zs) h b l e g =
    absurd (omega (arith, l, ap length e, ap length g, length-append ys (b ∷ []), length-append zs (h ∷ [])))

-- ---- clauses

above_left : (xs ys : List ℕ) → above_all xs ≤ above_all (xs ++ ys)
above_left [] ys = omega arith
above_left (x ∷ xs) ys = omega (arith, above_left xs ys)

above_right : (xs ys : List ℕ) → above_all ys ≤ above_all (xs ++ ys)
above_right [] ys = omega arith
above_right (x ∷ xs) ys = omega (arith, above_right xs ys)

abbrev Below : Tree → Item → Type 0
Below t (Directive d) = Unit {0}
Below t (Rule h b) = (first_free h ≤ first_free t) × (first_free b ≤ first_free t)

below_self : (t : Tree) → Below t (fact t)
below_self t = (omega arith, omega arith)

either : (t : Tree) (i : Item) (b : Bool) → Below t i → Below t (if b then i else fact t)
either t i true h = h
either t i false h = below_self t

item_below : (t : Tree) → Below t (item_of t)
unfolding item_of
item_below (variable n) = below_self (variable n)
item_below (integer z) = below_self (integer z)
item_below (atom f) = below_self (atom f)
item_below (compound f no_trees) = below_self (compound f no_trees)
item_below (compound f (tree d no_trees)) =
    either (compound f (tree d no_trees)) (Directive d) (bytes_eq f (codes ":-")) tt
item_below (compound f (tree h (tree b no_trees))) =
    either (compound f (tree h (tree b no_trees))) (Rule h b) (bytes_eq f (codes ":-")) (
      above_left (occurrences h) (occurrences b ++ []),
      omega (arith, above_left (occurrences b) [], above_right (occurrences h) (occurrences b ++ [])),
    )
item_below (compound f (tree h (tree b (tree t ts)))) = below_self (compound f (tree h (tree b (tree t ts))))

pub rule_below : (t h b : Tree) → item_of t ≡ Rule h b → (first_free h ≤ first_free t) × (first_free b ≤ first_free t)
rule_below t h b e = let P : Item → Type 0 = Below t in subst P e (item_below t)

-- a term's clause, by its rule

and_false : (b : Bool) → (b && false) ≡ false
and_false true = refl
and_false false = refl

abbrev rule_clause : Bool → (t h b : Tree) → Clause
rule_clause own t h b = record { head = h; body = b; vars = length (variables t); own = own }

abbrev clause_if : Bool → (t h b : Tree) → Option Pi → Bool → Option Clause
clause_if own t h b i body = if is_some i && body then Some (rule_clause own t h b) else None

clause_of_rule : (own : Bool) (t h b : Tree) → item_of t ≡ Rule h b → clause_in own t ≡ clause_if own t h b (indicator_of h) (is_body b)
unfolding clause_in
clause_of_rule own t h b e = rw e refl

pub no_head : (own : Bool) (t h b : Tree) → item_of t ≡ Rule h b → indicator_of h ≡ None → None ≡ clause_in own t
no_head own t h b e g = rw (clause_of_rule own t h b e, g) refl

pub no_body : (own : Bool) (t h b : Tree) → item_of t ≡ Rule h b → is_body b ≡ false → None ≡ clause_in own t
no_body own t h b e g = rw (clause_of_rule own t h b e, g, and_false (is_some (indicator_of h))) refl

pub the_clause : (own : Bool) (t h b : Tree) (pi : Pi) (vars : ℕ) → item_of t ≡ Rule h b → indicator_of h ≡ Some pi → is_body b ≡ true → vars ≡ length (variables t) → Some (record { head = h; body = b; vars = vars; own = own }) ≡ clause_in own t
the_clause own t h b pi vars e g d v = rw (clause_of_rule own t h b e, g, d, v) refl

pub no_clause : (own : Bool) (t d : Tree) → item_of t ≡ Directive d → None ≡ clause_in own t
unfolding clause_in
no_clause own t d e = rw e refl

bytes_same : (f : List ℕ) → bytes_eq f f ≡ true
bytes_same f = (bytes_decides f f).1 refl

number_same : (n : ℕ) → (n == n) ≡ true
number_same n = grind arith

pub is_for_own : (h : Tree) (pi : Pi) → indicator_of h ≡ Some pi → is_for pi h ≡ true
is_for_own (variable n) pi e = cc
is_for_own (integer z) pi e = cc
is_for_own (atom f) pi e =
    let i : pi ≡ record { name = f; arity = 0 } = cc in rw (i, bytes_same f) refl
is_for_own (compound f ts) pi e =
    let i : pi ≡ record { name = f; arity = arity ts } = cc in rw (i, bytes_same f, number_same (arity ts)) refl

pub is_own : (h : Tree) (pi : Pi) → is_for pi h ≡ true → indicator_of h ≡ Some pi
is_own (variable n) pi e = cc
is_own (integer z) pi e = cc
is_own (atom f) pi e =
    let parts = and_parts (bytes_eq pi.name f) (pi.arity == 0) e in
    rw (← (bytes_decides pi.name f).0 parts.0, ← eqb-true pi.arity 0 parts.1) refl
is_own (compound f ts) pi e =
    let parts = and_parts (bytes_eq pi.name f) (pi.arity == arity ts) e in
    rw (← (bytes_decides pi.name f).0 parts.0, ← eqb-true pi.arity (arity ts) parts.1) refl

-- ---- faults

module _ (reserved : List Pi) (n : ℕ) (t : Tree) where
  pub good_directive : (d : Tree) → item_of t ≡ Directive d → is_directive d ≡ true → fault_of reserved n (item_of t) ≡ None
  unfolding fault_of
  good_directive d e h = rw (e, h) refl

  pub bad_directive : (d : Tree) → item_of t ≡ Directive d → is_directive d ≡ false → fault_of reserved n (item_of t) ≡ Some (BadDirective n)
  unfolding fault_of
  bad_directive d e h = rw (e, h) refl

  module _ (mine : Bool) (h b : Tree) (rule : item_of t ≡ Rule h b) where
    pub not_callable : None ≡ clause_in mine t → fault_of reserved n (item_of t) ≡ Some (NotCallable n)
    unfolding fault_of
    not_callable none = rw rule (by (indicator_of h) (is_body b) (none ∙ clause_of_rule mine t h b rule))
      where
        by : (i : Option Pi) (body : Bool) → None ≡ clause_if mine t h b i body → fault_at reserved n i body ≡ Some (NotCallable n)
        by None body e = refl
        by (Some pi) true e = cc
        by (Some pi) false e = refl

    pub callable : (c : Clause) (pi : Pi) → Some c ≡ clause_in mine t → is_for pi c.head ≡ true → fault_of reserved n (item_of t) ≡ redefines reserved n pi
    unfolding fault_of
    callable c pi some of = rw rule (by (indicator_of h) (is_body b) refl (some ∙ clause_of_rule mine t h b rule))
      where
        by : (i : Option Pi) (body : Bool) → indicator_of h ≡ i → Some c ≡ clause_if mine t h b i body → fault_at reserved n i body ≡ redefines reserved n pi
        by None body own e = cc
        by (Some j) false own e = cc
        by (Some j) true own e =
            let same : c ≡ rule_clause mine t h b = cc in
            let here : indicator_of h ≡ Some pi = is_own h pi (ap (λ (d : Clause). is_for pi d.head) (sym same) ∙ of) in
            let same_pi : j ≡ pi = cc in
            ap (redefines reserved n) same_pi
