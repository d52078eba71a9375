use Rattle.std.proofs.Common.{◌≡◌, ◌<◌, ◌≤◌, ◌∙◌, ◌++◌, ℕ, List, [], length, take, drop, ap, sym, subst, IfOk}
use Rattle.term_core.specs.declared.node.Node.{Node}
use Rattle.term_core.specs.Tree.{IsTerm}
use Rattle.term_core.specs.Flat.{flatten, parse, build}
use Rattle.term_core.specs.Preorder.{ArePreorder}
use Rattle.term_core.proofs.Preorder.{piece, IsTerm-parse}
use Rattle.term_core.proofs.Storing.{parse_of}
use Rattle.term_core.proofs.term.Term.first_of.Goals as goal

pub end_of-requires : goal.end_of-requires
end_of-requires c = record { some = c.requires.some; preorder = c.requires.terms.preorder }

built : (ns empty first : List Node) (end : ℕ) → 0 < length ns → ArePreorder ns → build (drop end ns) ≡ drop 1 (build ns) → end ≤ length ns → empty ≡ [] → first ≡ empty ++ take end ns → first ≡ flatten (parse ns)
built ns empty first end some p after within e is =
    is ∙ ap (λ xs. xs ++ take end ns) e ∙ piece ns end some p after within

pub from_nodes-requires : goal.from_nodes-requires
from_nodes-requires c =
    let is = built c.args.nodes.now _ _ c.end_of.result c.requires.some c.requires.terms.preorder c.end_of.ensures.after c.end_of.ensures.within c.new-first.ensures.items c.in_ok-append_copied.ensures in
    let same = parse_of (parse c.args.nodes.now) _ is in
    record {
      tree = ap flatten same ∙ sym is;
      is_term = subst IsTerm (sym same) (IsTerm-parse c.args.nodes.now c.requires.terms);
    }

pub returns : goal.returns
returns c =
    let is = built c.args.nodes.now _ _ c.end_of.result c.requires.some c.requires.terms.preorder c.end_of.ensures.after c.end_of.ensures.within c.new-first.ensures.items c.in_ok-append_copied.ensures in
    subst (λ u. IfOk c.from_nodes.result (λ t. t ≡ u)) (parse_of (parse c.args.nodes.now) _ is) c.from_nodes.ensures
