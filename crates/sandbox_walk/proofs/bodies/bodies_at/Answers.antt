use Rattle.std.proofs.Common.{List, Bool, drop, length, ◌-◌, ◌∷◌, [], ◌++◌, reverse, ap, sym, ◌∙◌}
use Rattle.std.proofs.lemmas.List.{reverse-append}
use Rattle.term_core.specs.declared.node.Node.{Node}
use Rattle.sandbox_walk.specs.Pending.{tree_bodies, bodies_at, with_body, body_of}
use Rattle.sandbox_walk.proofs.Reading.{bodies_more}
use Rattle.sandbox_walk.proofs.bodies.bodies_at.Goals as goal

pub loop-i-preserved : goal.loop-i-preserved
loop-i-preserved c =
    let n : Node = c.index-nodes-nodes.result in
    record {
      trees =
          c.in_ok-is_body.ensures.trees ∙ ap (with_body n) c.loop-i.invariant.trees
          ∙ sym (bodies_more c.args.nodes.now c.loop-i.i n c.loop-i-test.true c.index-nodes-nodes.is tree_bodies);
      bodies =
          c.in_ok-push.ensures.items
          ∙ ap (λ (bs : List Bool). bs ++ c.in_ok-is_body.is_body ∷ []) c.loop-i.invariant.bodies
          ∙ ap (λ (b : Bool). reverse (bodies_at (drop (length c.args.nodes.now - c.loop-i.i) c.args.nodes.now)) ++ b ∷ []) (c.in_ok-is_body.ensures.body ∙ ap (body_of n) c.loop-i.invariant.trees)
          ∙ sym (reverse-append (body_of n (tree_bodies (drop (length c.args.nodes.now - c.loop-i.i) c.args.nodes.now)) ∷ []) (bodies_at (drop (length c.args.nodes.now - c.loop-i.i) c.args.nodes.now)))
          ∙ ap reverse (sym (bodies_more c.args.nodes.now c.loop-i.i n c.loop-i-test.true c.index-nodes-nodes.is bodies_at));
    }
