-- What the words of a heap stand for.
use Rattle.std.specs.Prelude.{◌≡◌, ℕ, ◌+◌, ◌<◌, ◌≤◌, Bool, true, ℤ, pos, List, [], ◌∷◌, ◌++◌, length, slice_index_or, take, drop, map, reverse, ⊤}
use Rattle.std.specs.List.{flat_map, All}
use Rattle.term_core.specs.Tree.{Tree, variable, integer, atom, compound, trees_of}
use Rattle.term_core.specs.Variables.{occurrences}
use Rattle.store.specs.declared.word.Word.{Word}
use Rattle.store.specs.declared.word.Shape.{Shape}
use Rattle.store.specs.declared.word.Shape.TheVariants.{Var, Int, Large, Atom, Comp}
use Rattle.store.specs.declared.heap.Heap.{Heap}
use Rattle.store.specs.Words.{shape_of}

-- the tables, and the trees of the words so far
pub record Known : Type 0 where
  pub names : List (List ℕ)
  pub large : List ℤ
  pub trees : List Tree

abbrev pub name_at : Known → ℕ → List ℕ
name_at k i = slice_index_or k.names i []

-- `count` trees from a place on
abbrev pub block : Known → (first count : ℕ) → List Tree
block k first count = take count (drop first k.trees)

abbrev pub shape_tree : Known → Shape → Tree
shape_tree k (Var n) = variable n
shape_tree k (Int z) = integer z
shape_tree k (Large i) = integer (slice_index_or k.large i (pos 0))
shape_tree k (Atom i) = atom (name_at k i)
shape_tree k (Comp name count first closed) = compound (name_at k name) (trees_of (block k first count))

-- a compound's arguments stand at earlier places, and where it is marked as closed they have no variable
pub record IsCompound (k : Known) (name count first : ℕ) (closed : Bool) : Type 0 where
  pub named : name < length k.names
  pub some : 1 ≤ count
  pub few : count ≤ 1024
  pub within : first + count ≤ length k.trees
  pub closed_is : closed ≡ true → flat_map occurrences (block k first count) ≡ []

abbrev pub IsShape : Known → Shape → Type 0
IsShape k (Var n) = ⊤
IsShape k (Int z) = ⊤
IsShape k (Large i) = i < length k.large
IsShape k (Atom i) = i < length k.names
IsShape k (Comp name count first closed) = IsCompound k name count first closed

abbrev pub word_tree : Known → Word → Tree
word_tree k w = shape_tree k (shape_of w)

abbrev pub IsWord : Known → Word → Type 0
IsWord k w = IsShape k (shape_of w)

-- the word is known, and stands for this tree
pub record HasTree (k : Known) (w : Word) (t : Tree) : Type 0 where
  pub is_word : IsWord k w
  pub tree_is : word_tree k w ≡ t

-- the tree of a place
abbrev pub tree_at : Known → ℕ → Tree
tree_at k p = slice_index_or k.trees p (atom [])

-- the tree stands at this place
pub record StandsAt (k : Known) (t : Tree) (p : ℕ) : Type 0 where
  pub within : p < length k.trees
  pub tree_is : tree_at k p ≡ t

-- the trees of words, the last word's first
abbrev pub trees_on : Known → List Word → List Tree
trees_on k ws = map (word_tree k) (reverse ws)

module _ (names : List (List ℕ)) (large : List ℤ) where
  abbrev pub with_trees : List Tree → Known
  with_trees ts = record { names = names; large = large; trees = ts }

  -- each word stands for a tree over the words before it
  abbrev pub spell : List Tree → List Word → List Tree
  spell ts [] = ts
  spell ts (w ∷ ws) = spell (ts ++ word_tree (with_trees ts) w ∷ []) ws

  abbrev pub AreWords : List Tree → List Word → Type 0
  AreWords ts [] = ⊤
  AreWords ts (w ∷ ws) = IsWord (with_trees ts) w × AreWords (ts ++ word_tree (with_trees ts) w ∷ []) ws

abbrev pub known_of : Heap → Known
known_of h = with_trees h.names.items h.large.items (spell h.names.items h.large.items [] h.words.items)

pub record IsHeap (h : Heap) : Type 0 where
  pub words : AreWords h.names.items h.large.items [] h.words.items

-- the first is a first part of the second
pub record Begins {A : Type 0} (xs ys : List A) : Type 0 where
  pub more : List A
  pub same : ys ≡ xs ++ more

-- what was known is known still
pub record Grows (k m : Known) : Type 0 where
  pub names : Begins k.names m.names
  pub large : Begins k.large m.large
  pub trees : Begins k.trees m.trees

-- a heap that knows no less than this
pub record GrownFrom (k : Known) (h : Heap) : Type 0 where
  pub is_heap : IsHeap h
  pub grows : Grows k (known_of h)

-- the first trees as the arguments of a compound in their place
abbrev pub gathered : (name : List ℕ) (count : ℕ) → List Tree → List Tree
gathered name count ts = compound name (trees_of (take count ts)) ∷ drop count ts

-- the trees of the last words stand behind the other trees, and the rest of the words is left
pub record Lays (k : Known) (ws : List Word) (count : ℕ) (m : Known) (rest : List Word) : Type 0 where
  pub trees : m.trees ≡ k.trees ++ take count (trees_on k ws)
  pub left : reverse rest ≡ drop count (reverse ws)
  pub rest_words : All (IsWord k) rest
