-- What a text shows to the sandbox. The sandbox is this project's own profile after the manual of SWI-Prolog's library(sandbox): a goal is refused before it runs if it may reach a predicate that is outside.
use Rattle.std.specs.Prelude.{ℕ, zero, suc, ◌+◌, Bool, ◌&&◌, ◌==◌, List, [], ◌∷◌, ◌++◌, map, nat_lt, if◌then◌else◌, ℤ, pos, negsuc, Option, Some, None, codes, bytes_eq}
use Rattle.term_core.specs.declared.pi.Pi.{Pi}
use Rattle.term_core.specs.Tree.{Tree, variable, integer, atom, compound, Trees, no_trees, tree, arity}
use Rattle.builtin_table.specs.Table.{Rows, row_of}
use Rattle.program.specs.Bodies.{is_connective, is_body}
use Rattle.sandbox_walk.specs.declared.found.Kind.{Kind}
use Rattle.sandbox_walk.specs.declared.found.Kind.TheVariants.{Plain, Part, Adds, Behind}
use Rattle.sandbox_walk.specs.declared.found.Stands.{Stands}
use Rattle.sandbox_walk.specs.declared.found.Stands.TheVariants.{Opens, Unbound, Shut}
use Rattle.sandbox_walk.specs.declared.found.Found.{Found}
use Rattle.sandbox_walk.specs.declared.found.Found.TheVariants.{Literal, Place}

abbrev pub indicator : List ℕ → ℕ → Pi
indicator f n = record { name = f; arity = n }

-- how the arguments of each literal are read, from the first on; those beyond the list are no goals
abbrev pub Kinds : Type 0
Kinds = Pi → List Kind

-- a goal position as a row of the table declares it
abbrev pub declared_kind : ℤ → Kind
declared_kind (negsuc n) = Plain
declared_kind (pos k) = if k == 8 then Behind else Adds k

-- the parts of `,`, `;` and `->` are parts of the body; other goal positions are those of the table
unfoldable pub kinds_in : Rows → Kinds
kinds_in rows i =
    if is_connective i.name && i.arity == 2 then Part ∷ Part ∷ []
    else elim (row_of i rows) [ None ↦ [] | Some row ↦ map declared_kind row.metas ]

-- A variable as a part of a body is the literal call/1 of it (ISO 13211-1, 7.6.2).
abbrev pub called_variable : List Found
called_variable = Literal (indicator (codes "call") 1) ∷ Place (Some (indicator (codes "call") 1)) Unbound ∷ []

-- a fresh variable as an argument of the literal h
abbrev pub fresh_one : Option Pi → Kind → List Found
fresh_one h Plain = []
fresh_one h Part = called_variable
fresh_one h (Adds k) = Place h Unbound ∷ []
fresh_one h Behind = Place h Unbound ∷ []

-- k fresh variables as the last arguments of the literal h
unfoldable pub fresh : Option Pi → ℕ → List Kind → List Found
fresh h zero ks = []
fresh h (suc k) [] = []
fresh h (suc k) (x ∷ ks) = fresh_one h x ++ fresh h k ks

-- arguments with k fresh variables behind them
abbrev pub variables_added : ℕ → Trees
variables_added zero = no_trees
variables_added (suc k) = tree (variable 0) (variables_added k)

abbrev pub with_variables : Trees → ℕ → Trees
with_variables no_trees k = variables_added k
with_variables (tree t ts) k = tree t (with_variables ts k)

-- what a compound is where it stands for a goal to which k arguments are added
abbrev pub stands_if : Bool → Tree → Stands
stands_if b t = if b then Opens else Shut t

abbrev pub stands : ℕ → List ℕ → Trees → Stands
stands k f ts = stands_if (is_body (compound f (with_variables ts k))) (compound f ts)

-- a goal position, and behind it what it shows where it is opened
abbrev pub placed : Option Pi → Stands → List Found → List Found
placed h Opens fs = Place h Opens ∷ fs
placed h Unbound fs = Place h Unbound ∷ []
placed h (Shut t) fs = Place h (Shut t) ∷ []

-- more arguments than a term has: the call throws
abbrev pub too_many : ℕ → ℕ → Bool
too_many k n = nat_lt 0 k && nat_lt 1024 n

abbrev pub is_hat : List ℕ → ℕ → Bool
is_hat f n = bytes_eq f (codes "^") && n == 2

-- What a term of this kind shows as an argument of the literal h, from left to right. An opened compound is read with its own goal positions; the arguments that a closure lacks are fresh variables.
unfoldable mutual
  pub shown : Kinds → Option Pi → Tree → Kind → List Found
  shown ks h t Plain = []
  shown ks h (variable n) Part = called_variable
  shown ks h (variable n) (Adds k) = Place h Unbound ∷ []
  shown ks h (variable n) Behind = Place h Unbound ∷ []
  shown ks h (integer z) Part = []
  shown ks h (integer z) (Adds k) = Place h (Shut (integer z)) ∷ []
  shown ks h (integer z) Behind = Place h (Shut (integer z)) ∷ []
  shown ks h (atom f) Part = Literal (indicator f 0) ∷ []
  shown ks h (atom f) (Adds k) =
      Place h Opens ∷ Literal (indicator f k) ∷ fresh (Some (indicator f k)) k (ks (indicator f k))
  shown ks h (atom f) Behind = Place h Opens ∷ Literal (indicator f 0) ∷ []
  shown ks h (compound f ts) Part =
      Literal (indicator f (arity ts)) ∷ shown_in ks (Some (indicator f (arity ts))) ts (ks (indicator f (arity ts))) 0
  shown ks h (compound f ts) (Adds k) =
      if too_many k (arity ts + k) then Place h Opens ∷ []
      else placed h (stands k f ts) (Literal (indicator f (arity ts + k)) ∷ shown_in ks (Some (indicator f (arity ts + k))) ts (ks (indicator f (arity ts + k))) k)
  shown ks h (compound f ts) Behind =
      if is_hat f (arity ts) then shown_in ks h ts (Plain ∷ Behind ∷ []) 0
      else placed h (stands 0 f ts) (Literal (indicator f (arity ts)) ∷ shown_in ks (Some (indicator f (arity ts))) ts (ks (indicator f (arity ts))) 0)

  -- the arguments of the literal h, and k fresh variables behind them
  pub shown_in : Kinds → Option Pi → Trees → List Kind → ℕ → List Found
  shown_in ks h no_trees xs k = fresh h k xs
  shown_in ks h (tree t ts) [] k = []
  shown_in ks h (tree t ts) (x ∷ xs) k = shown ks h t x ++ shown_in ks h ts xs k
