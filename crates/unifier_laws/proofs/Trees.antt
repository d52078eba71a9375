-- What two equal terms have in common.
use Rattle.std.proofs.Common.{◌≡◌, ℕ, suc, ◌+◌, ◌≤◌, List, [], Bool, true, false, ◌==◌, ◌||◌, refl, ap, ◌∙◌, sym, arith, subst, ℤ, pos}
use Rattle.std.specs.List.{list_any}
use Rattle.std.proofs.lemmas.Bool.Decides.{nat_tests}
use Rattle.std.proofs.lemmas.List.Folds.{list_any-append}
use Rattle.term_core.specs.Tree.{Tree, variable, integer, atom, compound, Trees, no_trees, tree}
use Rattle.term_core.specs.Variables.{occurrences, all_occurrences}
use Rattle.term_core.specs.Substitution.{substituted, all_substituted}
use Rattle.term_core.specs.Unification.{contains_variable}
use Rattle.term_core.specs.Unifier.{size, sizes}

number : Tree → ℕ
number (variable n) = n
number (integer z) = 0
number (atom a) = 0
number (compound f ts) = 0

whole : Tree → ℤ
whole (variable n) = pos 0
whole (integer z) = z
whole (atom a) = pos 0
whole (compound f ts) = pos 0

text : Tree → List ℕ
text (variable n) = []
text (integer z) = []
text (atom a) = a
text (compound f ts) = f

parts : Tree → Trees
parts (variable n) = no_trees
parts (integer z) = no_trees
parts (atom a) = no_trees
parts (compound f ts) = ts

head : Tree → Trees → Tree
head t no_trees = t
head t (tree u us) = u

tail : Trees → Trees
tail no_trees = no_trees
tail (tree u us) = us

kind : Tree → ℕ
kind (variable n) = 0
kind (integer z) = 1
kind (atom a) = 2
kind (compound f ts) = 3

pub same_variable : (m n : ℕ) → variable m ≡ variable n → m ≡ n
unfolding number
same_variable m n e = ap number e

pub same_integer : (y z : ℤ) → integer y ≡ integer z → y ≡ z
unfolding whole
same_integer y z e = ap whole e

pub same_atom : (a b : List ℕ) → atom a ≡ atom b → a ≡ b
unfolding text
same_atom a b e = ap text e

pub same_name : (f g : List ℕ) (ts us : Trees) → compound f ts ≡ compound g us → f ≡ g
unfolding text
same_name f g ts us e = ap text e

pub same_parts : (f g : List ℕ) (ts us : Trees) → compound f ts ≡ compound g us → ts ≡ us
unfolding parts
same_parts f g ts us e = ap parts e

pub same_head : (t u : Tree) (ts us : Trees) → tree t ts ≡ tree u us → t ≡ u
unfolding head
same_head t u ts us e = ap (head t) e

pub same_tail : (t u : Tree) (ts us : Trees) → tree t ts ≡ tree u us → ts ≡ us
unfolding tail
same_tail t u ts us e = ap tail e

kinds : (t u : Tree) → t ≡ u → kind t ≡ kind u
kinds t u e = ap kind e

pub integer_variable : (z : ℤ) (k : ℕ) → integer z ≡ variable k → ⊥
unfolding kind
integer_variable z k e = absurd (omega (arith, kinds (integer z) (variable k) e))

pub atom_variable : (a : List ℕ) (k : ℕ) → atom a ≡ variable k → ⊥
unfolding kind
atom_variable a k e = absurd (omega (arith, kinds (atom a) (variable k) e))

pub compound_variable : (f : List ℕ) (ts : Trees) (k : ℕ) → compound f ts ≡ variable k → ⊥
unfolding kind
compound_variable f ts k e = absurd (omega (arith, kinds (compound f ts) (variable k) e))

pub integer_atom : (z : ℤ) (a : List ℕ) → integer z ≡ atom a → ⊥
unfolding kind
integer_atom z a e = absurd (omega (arith, kinds (integer z) (atom a) e))

pub integer_compound : (z : ℤ) (f : List ℕ) (ts : Trees) → integer z ≡ compound f ts → ⊥
unfolding kind
integer_compound z f ts e = absurd (omega (arith, kinds (integer z) (compound f ts) e))

pub atom_compound : (a f : List ℕ) (ts : Trees) → atom a ≡ compound f ts → ⊥
unfolding kind
atom_compound a f ts e = absurd (omega (arith, kinds (atom a) (compound f ts) e))

-- ---- a term outgrows what stands for its variables

pub any_of : (a b : Bool) → (a || b) ≡ true → (P : Type 0) → (a ≡ true → P) → (b ≡ true → P) → P
any_of true b e P f g = f refl
any_of false b e P f g = g e

equal_numbers : (m n : ℕ) → (n == m) ≡ true → n ≡ m
equal_numbers m n h = grind (arith, nat_tests)

module _ (h : ℕ → Tree) (m : ℕ) where
  mutual
    pub size-outgrows : (t : Tree) → contains_variable m t ≡ true → size (h m) ≤ size (substituted h t)
    size-outgrows (variable n) c =
        any_of (n == m) false c (size (h m) ≤ size (h n)) (λ e. subst (λ k. size (h m) ≤ size (h k)) (sym (equal_numbers m n e)) (omega arith)) (λ e. absurd (grind arith))
    size-outgrows (integer z) c = absurd (grind arith)
    size-outgrows (atom a) c = absurd (grind arith)
    size-outgrows (compound f ts) c = let k = sizes-outgrow ts c in omega arith

    pub sizes-outgrow : (ts : Trees) → list_any (λ n. n == m) (all_occurrences ts) ≡ true → size (h m) ≤ sizes (all_substituted h ts)
    sizes-outgrow no_trees c = absurd (grind arith)
    sizes-outgrow (tree t ts) c =
        any_of (contains_variable m t) (list_any (λ n. n == m) (all_occurrences ts)) (sym (list_any-append (λ n. n == m) (occurrences t) (all_occurrences ts)) ∙ c)
        (size (h m) ≤ size (substituted h t) + sizes (all_substituted h ts))
        (λ e. let k = size-outgrows t e in omega arith)
        (λ e. let k = sizes-outgrow ts e in omega arith)

  -- so no compound stands for a variable in it
  pub not_in_itself : (f : List ℕ) (ts : Trees) → contains_variable m (compound f ts) ≡ true → h m ≡ substituted h (compound f ts) → ⊥
  not_in_itself f ts c e =
      let k = sizes-outgrow ts c in
      let d : size (h m) ≡ suc (sizes (all_substituted h ts)) = ap size e in
      omega arith
