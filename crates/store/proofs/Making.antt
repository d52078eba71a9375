-- New cells, and those before them.
use Rattle.std.proofs.Common.{◌≡◌, ℕ, ◌+◌, ◌<◌, ◌≤◌, List, [], length, get_or, refl, ap, ◌∙◌, sym, subst, arith}
use Rattle.term_core.specs.Tree.{Tree, atom}
use Rattle.term_core.specs.Flat.{flatten}
use Rattle.term_core.specs.declared.node.Node.{Node}
use Rattle.term_core.specs.Variables.{occurrences, variables, renamed, numbered}
use Rattle.store.specs.Cells.{Cells, IsCell, tree_of, Keeps, Makes}
use Rattle.store.specs.Heap.{Begins}
use Rattle.store.proofs.Growing.{get_or-begins, length-begins}
use Rattle.store.proofs.Terms.{copy-closed, no_variables}
use Rattle.store.proofs.Reading.{flatten_parts}

-- the trees of the store, before and after
pub making : (old new : Cells) (ts us : List Tree) → old.trees ≡ ts → new.trees ≡ us → Begins ts us → old.next ≤ new.next → new.bound ≡ old.bound → (c : ℕ) (t : Tree) → c < length us → get_or us c (atom []) ≡ t → Makes old new c t
making old new ts us o n b l e c t w s = record {
  is_cell = subst (λ (xs : List Tree). c < length xs) (sym n) w;
  tree = ap (λ (xs : List Tree). get_or xs c (atom [])) n ∙ s;
  keeps = record {
    cells = λ d h.
        let here : d < length ts = subst (λ (xs : List Tree). d < length xs) o h in
        let there : d < length us = omega (arith, length-begins ts us b) in (
          subst (λ (xs : List Tree). d < length xs) (sym n) there,
          ap (λ (xs : List Tree). get_or xs d (atom [])) n ∙ get_or-begins ts us d (atom []) b here ∙ ap (λ (xs : List Tree). get_or xs d (atom [])) (sym o),
        );
    next = l;
    bound = e;
  };
}

-- the same, with another number for the next variable
pub renumbered : (old mid new : Cells) (c : ℕ) (t u : Tree) → Makes old mid c t → new.trees ≡ mid.trees → mid.next ≤ new.next → new.bound ≡ mid.bound → u ≡ t → Makes old new c u
renumbered old mid new c t u m e l b s = record {
  is_cell = subst (λ (xs : List Tree). c < length xs) (sym e) m.is_cell;
  tree = ap (λ (xs : List Tree). get_or xs c (atom [])) e ∙ m.tree ∙ sym s;
  keeps = record {
    cells = λ d h.
        let kept = m.keeps.cells d h in
        (subst (λ (xs : List Tree). d < length xs) (sym e) kept.0, ap (λ (xs : List Tree). get_or xs d (atom [])) e ∙ kept.1);
    next = omega (arith, m.keeps.next);
    bound = b ∙ m.keeps.bound;
  };
}

pub Keeps-same : (s : Cells) → Keeps s s
Keeps-same s = record { cells = λ c h. (h, refl); next = omega arith; bound = refl }

-- a cell that was there
pub stays : (s : Cells) (c : ℕ) (t : Tree) → IsCell s c → tree_of s c ≡ t → Makes s s c t
stays s c t h e = record { is_cell = h; tree = e; keeps = Keeps-same s }

-- a copy of a term without variables is the term
module _ (s : Cells) (c : ℕ) (t : Tree) (at : t ≡ tree_of s c) (closed : occurrences t ≡ []) where
  no_occurrence : occurrences (tree_of s c) ≡ []
  no_occurrence = ap occurrences (sym at) ∙ closed

  pub copied : IsCell s c → Makes s s c (renamed s.next (numbered (tree_of s c)))
  copied h = stays s c _ h (copy-closed s.next (tree_of s c) no_occurrence)

  pub no_number : s.next ≡ s.next + length (variables (tree_of s c))
  no_number = omega (arith, ap length (no_variables (tree_of s c) no_occurrence))

pub some_nodes : (t : Tree) (ns : List Node) → ns ≡ flatten t → 0 < length ns
some_nodes t ns e = omega (arith, ap length e, ap length (flatten_parts t))
