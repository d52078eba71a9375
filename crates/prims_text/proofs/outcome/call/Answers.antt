use Rattle.std.proofs.Common.{ℕ, List, map, ap, sym, subst, ◌∙◌}
use Rattle.std.proofs.lemmas.List.{length-map}
use Rattle.store.specs.Cells.{tree_of}
use Rattle.tree_offers.specs.Outcomes.{IsPlain}
use Rattle.prims_text.specs.Rows.{is_row}
use Rattle.prims_text.proofs.Plain.{row_plain}
use Rattle.prims_text.proofs.outcome.call.Goals as goal

pub call-requires-clause-plain : goal.call-requires-clause-plain
call-requires-clause-plain c =
    let ts = map (tree_of c.args.store.now) c.args.args.now in
    let same = length-map c.args.args.now (tree_of c.args.store.now) ∙ c.requires.count in
    subst (λ (f : List ℕ). IsPlain f ts) (sym c.as_str.ensures) (row_plain c.args.pi.now.name ts (ap (is_row c.args.pi.now.name) same ∙ c.requires.row))
