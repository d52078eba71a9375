use Rattle.std.proofs.Common.{◌≡◌, ◌≤◌, ◌-◌, [], ◌∷◌, ◌++◌, map, length, drop, take, ap, ◌∙◌, sym, subst}
use Rattle.std.specs.List.{flat_map}
use Rattle.term_core.specs.Flat.{parse, flatten, build}
use Rattle.term_core.specs.Nodes.{node_under}
use Rattle.term_core.specs.Preorder.{AreTermNodes}
use Rattle.term_core.specs.Substitution.{apply}
use Rattle.term_core.specs.Unification.{contains_variable}
use Rattle.term_core.proofs.Preorder.{after_first, AreTermNodes-drop}
use Rattle.term_core.proofs.Slices.{to_end}
use Rattle.term_core.proofs.Unifying.{HasTrees-applied, flat_trees}
use Rattle.term_core.proofs.unifier.bind.Goals.{In_ok-rest, In_ok-other}
use Rattle.term_core.proofs.unifier.bind.Goals as goal

rest_of : (c : In_ok-rest) → (drop (length c.nodes-end.result.now) c.args.other.now ≡ flat_map flatten (drop 1 (build c.args.other.now))) × (length c.nodes-end.result.now ≤ length c.args.other.now)
rest_of c =
    after_first c.args.other.now (length c.nodes-end.result.now) c.requires.some c.requires.other.preorder (ap length c.nodes-end.ensures.nodes ∙ ap (λ t. length (flatten t)) c.in_ok-value.ensures)

pub slice_bounds-applied-count : goal.slice_bounds-applied-count
slice_bounds-applied-count c = (rest_of c).1

pub slice_bounds-applied-start : goal.slice_bounds-applied-start
slice_bounds-applied-start c = (rest_of c).1

pub returns-clause-binds : goal.returns-clause-binds
returns-clause-binds c =
    let ns = c.args.other.now in
    let end = length c.nodes-end.result.now in
    let made = c.push.new.self in
    let made_is : made ≡ (c.args.variable, parse ns) ∷ [] = c.in_ok-push.ensures.ok ∙ (λ i. c.new-made.ensures i ++ (c.args.variable, c.in_ok-value.ensures i) ∷ []) in
    let slice = take (length ns - end) (drop end ns) in
    let after : slice ≡ flat_map flatten (drop 1 (build ns)) = to_end end ns ∙ (rest_of (goal.at.returns-clause-binds c).In_ok-rest).0 in
    let slice_nodes : AreTermNodes slice = subst AreTermNodes (sym (to_end end ns)) (AreTermNodes-drop end ns c.requires.other) in
    let rest = HasTrees-applied made c.args.rest.now c.in_ok-rest.rest.items c.pairs.ensures.terms c.requires.rest (c.in_ok-rest.ensures ∙ ap (λ s. flat_map (node_under s) c.args.rest.now) c.pairs.ensures.pairs) in
    let other = HasTrees-applied made slice c.in_ok-other.other.items c.pairs-2.ensures.terms slice_nodes (c.in_ok-other.ensures ∙ ap (λ s. flat_map (node_under s) slice) c.pairs-2.ensures.pairs) in
    record {
      absent = ap (contains_variable c.args.variable) (sym c.in_ok-value.ensures) ∙ sym c.has_variable.ensures ∙ c.if-has_variable.false;
      made = made_is;
      rest_nodes = rest.nodes;
      other_nodes = other.nodes;
      rest_trees = rest.trees;
      other_trees = other.trees ∙ ap (map (apply made)) (ap build after ∙ flat_trees (drop 1 (build ns)));
    }
