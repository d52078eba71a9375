use Rattle.std.proofs.Common.{◌≡◌, ◌≤◌, Option, ap, ◌∙◌, subst, arith}
use Rattle.std.specs.declared.vec.Vec.{Vec}
use Rattle.std.specs.declared.alloc.Global.{Global}
use Rattle.term_core.specs.declared.node.Node.{Node}
use Rattle.term_core.specs.Flat.{flatten}
use Rattle.term_core.proofs.Preorder.{AreTermNodes-flatten}
use Rattle.term_core.proofs.Storing.{parse_of}
use Rattle.store.specs.Cells.{Cells, tree_of, size}
use Rattle.store.specs.Heap.{known_of, word_tree}
use Rattle.store.specs.Seen.{HasNodes}
use Rattle.store.proofs.Terms.{word_term}
use Rattle.store.proofs.cells.Store.take.Goals as goal
use Rattle.store.proofs.cells.Store.take.Goals.{In-Some}

found : (c : In-Some) → (c.in-Some.nodes.items ≡ flatten (word_tree (known_of c.self.inside.heap) c.word_at.result)) × (size (word_tree (known_of c.self.inside.heap) c.word_at.result) ≤ c.args.limit)
found c =
    let t = word_tree (known_of c.self.inside.heap) c.word_at.result in
    subst (λ (o : Option (Vec Node Global)). HasNodes t c.args.limit o) c.in-Some.is c.in_ok-nodes.ensures

pub first_of-requires-clause-terms : goal.first_of-requires-clause-terms
first_of-requires-clause-terms c =
    AreTermNodes-flatten _ c.deref.result.now (c.deref.ensures.value ∙ (found (goal.at.first_of-requires-clause-terms c).In-Some).0) (word_term c.self.inside.heap c.self.invariant c.word_at.result c.word_at.ensures.is_word)

pub returns-in_ok-first_of-in-Some : goal.returns-in_ok-first_of-in-Some
returns-in_ok-first_of-in-Some c =
    let have = found (goal.at.returns-in_ok-first_of-in-Some c).In-Some in
    let t = word_tree (known_of c.self.inside.heap) c.word_at.result in
    let at : t ≡ tree_of c.args.self.now c.args.c = c.word_at.ensures.tree_is ∙ ap (λ (s : Cells). tree_of s c.args.c) c.self.view_is in (
      c.in_ok-first_of-in-Some.ensures ∙ parse_of t c.deref.result.now (c.deref.ensures.value ∙ have.0) ∙ at,
      omega (arith, have.1, ap size at),
    )
