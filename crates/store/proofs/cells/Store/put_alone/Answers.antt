use Rattle.std.proofs.Common.{◌≡◌, ◌<◌, ℕ, [], length, get_or, refl, sym, ap, ◌∙◌, arith}
use Rattle.term_core.specs.Tree.{atom}
use Rattle.term_core.specs.Variables.{renamed}
use Rattle.term_core.proofs.Preorder.{AreTermNodes-flatten}
use Rattle.term_core.proofs.Storing.{parse_of}
use Rattle.store.specs.Cells.{Cells}
use Rattle.store.specs.Heap.{known_of}
use Rattle.store.proofs.Making.{making, some_nodes}
use Rattle.store.proofs.cells.Store.put_alone.Goals as goal

pub put_placed-requires-clause-some : goal.put_placed-requires-clause-some
put_placed-requires-clause-some c = some_nodes c.args.t.now c.nodes.result.now c.nodes.ensures.nodes

pub put_placed-requires-clause-terms : goal.put_placed-requires-clause-terms
put_placed-requires-clause-terms c = AreTermNodes-flatten c.args.t.now c.nodes.result.now c.nodes.ensures.nodes c.nodes.ensures.is_term

pub returns-in-Ok-clause-ok : goal.returns-in-Ok-clause-ok
returns-in-Ok-clause-ok c =
    let us = (known_of c.put_placed.new.self).trees in
    let at = c.in-Ok.ensures.place in
    let within : c.at.result < length us = omega (arith, c.at.ensures, at.within) in
    let there : get_or us c.at.result (atom []) ≡ renamed c.args.base c.args.t.now = ap (λ (p : ℕ). get_or us p (atom [])) c.at.ensures ∙ at.tree_is ∙ ap (renamed c.args.base) (parse_of c.args.t.now c.nodes.result.now c.nodes.ensures.nodes) in
    making c.args.self.now _ (known_of c.self.inside.heap).trees us (sym (ap (λ (s : Cells). s.trees) c.self.view_is)) refl c.in-Ok.ensures.grown.grows.trees (omega (arith, ap (λ (s : Cells). s.next) c.self.view_is)) (ap (λ (s : Cells). s.bound) c.self.view_is) c.at.result (renamed c.args.base c.args.t.now) within there
