use Rattle.std.proofs.Common.{◌≡◌, ◌∷◌, [], ◌++◌, List, ℕ, sym, subst, ◌∙◌, arith}
use Rattle.std.specs.List.{All}
use Rattle.std.proofs.lemmas.List.Elements.{All-push}
use Rattle.builtin_table.specs.Lists.{elements, rest}
use Rattle.store.specs.Cells.{IsCell, tree_of}
use Rattle.prims_term.proofs.ListCells.{list_cell, elements_more, rest_more, elements_end, rest_end}
use Rattle.prims_term.proofs.lists.list_parts.Goals as goal

pub arg-element-requires-clause-within : goal.arg-element-requires-clause-within
arg-element-requires-clause-within c =
    let is = list_cell (tree_of c.args.store.now c.loop-i.rest) (sym c.is_list_cell-more.ensures ∙ c.if-more.true) in
    omega (arith, is.two)

pub arg-rest-requires-clause-within : goal.arg-rest-requires-clause-within
arg-rest-requires-clause-within c =
    let is = list_cell (tree_of c.args.store.now c.loop-i.rest) (sym c.is_list_cell-more.ensures ∙ c.if-more.true) in
    omega (arith, is.two)

pub loop-i-preserved : goal.loop-i-preserved
loop-i-preserved c =
    let s = c.args.store.now in
    let is = list_cell (tree_of s c.loop-i.rest) (sym c.is_list_cell-more.ensures ∙ c.if-more.true) in
    let pushed : c.push.new.self.items ≡ c.loop-i.elements.items ++ c.arg-element.result ∷ [] = c.in_ok-push.ensures.items in
    record {
      cells = subst (λ (xs : List ℕ). All (IsCell s) xs) (sym pushed) (All-push (IsCell s) c.loop-i.elements.items c.arg-element.result c.loop-i.invariant.cells c.arg-element.ensures.cell);
      cell = c.arg-rest.ensures.cell;
      elements = elements_more s c.loop-i.elements.items c.push.new.self.items c.loop-i.rest c.arg-element.result c.arg-rest.result (elements (tree_of s c.args.c)) is c.loop-i.invariant.elements c.arg-element.ensures.tree c.arg-rest.ensures.tree pushed;
      rest = rest_more s c.loop-i.rest c.arg-rest.result (rest (tree_of s c.args.c)) is c.loop-i.invariant.rest c.arg-rest.ensures.tree;
    }

pub returns-else-more-clause-elements : goal.returns-else-more-clause-elements
returns-else-more-clause-elements c =
    elements_end c.args.store.now c.loop-i.elements.items c.loop-i.rest (elements (tree_of c.args.store.now c.args.c)) (sym c.is_list_cell-more.ensures ∙ c.if-more.false) c.loop-i.invariant.elements

pub returns-else-more-clause-rest : goal.returns-else-more-clause-rest
returns-else-more-clause-rest c =
    rest_end c.args.store.now c.loop-i.rest (rest (tree_of c.args.store.now c.args.c)) (sym c.is_list_cell-more.ensures ∙ c.if-more.false) c.loop-i.invariant.rest
