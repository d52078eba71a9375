-- Cells that are made one after the other.
use Rattle.std.proofs.Common.{◌≡◌, ℕ, zero, suc, ◌+◌, ◌-◌, ◌<◌, List, [], ◌∷◌, length, map, drop, get_or, drop-cons, codes, refl, ap, sym, ◌∙◌, subst, arith}
use Rattle.std.specs.List.{All}
use Rattle.std.proofs.lemmas.List.Elements.{All-cons, All-nil, All-weaker}
use Rattle.term_core.specs.Tree.{Tree, variable, compound, trees_of}
use Rattle.builtin_table.specs.Lists.{cell}
use Rattle.builtin_table.specs.Primitives.{new_variables}
use Rattle.store.specs.Cells.{Cells, IsCell, tree_of, Keeps, Makes, variables_from}

pub Keeps-same : (s : Cells) → Keeps s s
Keeps-same s = record { cells = λ c h. (h, refl); next = omega arith; bound = refl }

pub Keeps-equal : (old new : Cells) → new ≡ old → Keeps old new
Keeps-equal old new e = subst (λ (s : Cells). Keeps old s) (sym e) (Keeps-same old)

pub Keeps-after : (s t u : Cells) → Keeps s t → Keeps t u → Keeps s u
Keeps-after s t u h g = record {
  cells = λ c i. let a = h.cells c i in let b = g.cells c a.0 in (b.0, b.1 ∙ a.1);
  next = omega (arith, h.next, g.next);
  bound = g.bound ∙ h.bound;
}

pub stays : (s : Cells) (c : ℕ) → IsCell s c → Makes s s c (tree_of s c)
stays s c h = record { is_cell = h; tree = refl; keeps = Keeps-same s }

pub All-kept : (s t : Cells) → Keeps s t → (cs : List ℕ) → All (IsCell s) cs → All (IsCell t) cs
All-kept s t h cs a = All-weaker (IsCell s) (IsCell t) (λ c i. (h.cells c i).0) cs a

pub trees-kept : (s t : Cells) → Keeps s t → (cs : List ℕ) → All (IsCell s) cs → map (tree_of t) cs ≡ map (tree_of s) cs
trees-kept s t h [] a = refl
trees-kept s t h (c ∷ cs) a =
    (λ i. (h.cells c (a 0 c (omega arith))).1 i ∷ trees-kept s t h cs (λ j d l. a (suc j) d (omega arith)) i)

pub new_variables-same : (first many : ℕ) → variables_from first many ≡ new_variables first many
new_variables-same first zero = refl
new_variables-same first (suc k) = ap (λ ts. variable first ∷ ts) (new_variables-same (first + 1) k)

-- a list cell more, in front
pub cell_made : (old mid new : Cells) (x l c : ℕ) (t : Tree) → IsCell old x → Makes old mid l t → Makes mid new c (compound (codes ".") (trees_of (map (tree_of mid) (x ∷ l ∷ [])))) → Makes old new c (cell (tree_of old x) t)
cell_made old mid new x l c t h m n = record {
  is_cell = n.is_cell;
  tree = n.tree ∙ (λ i. cell ((m.keeps.cells x h).1 i) (m.tree i));
  keeps = Keeps-after old mid new m.keeps n.keeps;
}

pub two_cells : (s : Cells) (x l : ℕ) → IsCell s x → IsCell s l → All (IsCell s) (x ∷ l ∷ [])
two_cells s x l h g = All-cons (IsCell s) x (l ∷ []) h (All-cons (IsCell s) l [] g (All-nil (IsCell s)))

-- one element more, from the end
pub drop_last : (xs : List ℕ) (x i j : ℕ) → i < length xs → j ≡ length xs - 1 - i → x ≡ get_or xs j x → drop (length xs - (i + 1)) xs ≡ x ∷ drop (length xs - i) xs
drop_last xs x i j h e at =
    let before : length xs - (i + 1) ≡ j = omega arith in
    let after : suc j ≡ length xs - i = omega arith in
    ap (λ n. drop n xs) before ∙ drop-cons xs j x (omega arith) ∙ (λ k. sym at k ∷ drop (after k) xs)
