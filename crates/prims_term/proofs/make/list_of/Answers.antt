use Rattle.std.proofs.Common.{◌≡◌, ◌∷◌, ◌+◌, ◌-◌, length, map, drop, refl, sym, ◌∙◌, subst, arith}
use Rattle.builtin_table.specs.Lists.{list_of}
use Rattle.store.specs.Cells.{IsCell, tree_of, Makes}
use Rattle.prims_term.proofs.Making.{cell_made, drop_last}
use Rattle.prims_term.proofs.make.list_of.Goals as goal

pub loop-i-preserved : goal.loop-i-preserved
loop-i-preserved c =
    let s = c.args.store.now in
    let xs = c.args.cells.now in
    let x = c.index-cells-cells.result in
    let i = c.loop-i.i in
    let here : drop (length xs - (i + 1)) xs ≡ x ∷ drop (length xs - i) xs =
    drop_last xs x i (length xs - 1 - i) c.loop-i-test.true refl c.index-cells-cells.is in
    let is : IsCell s x = subst (IsCell s) (sym c.index-cells-cells.is) (c.requires (length xs - 1 - i) x (omega (arith, c.loop-i-test.true))) in
    record {
      made = subst (λ ts. Makes s c.compound.new.self c.in_ok-list-2.list (list_of (map (tree_of s) ts))) (sym here)
          (cell_made s c.loop-i.store c.compound.new.self x c.loop-i.list c.in_ok-list-2.list (list_of (map (tree_of s) (drop (length xs - i) xs))) is c.loop-i.invariant.made c.in_ok-list-2.ensures.ok);
      next = c.in_ok-list-2.ensures.next ∙ c.loop-i.invariant.next;
    }
