use Rattle.std.proofs.Common.{ap, sym, ◌∙◌, ◌-◌, ◌++◌, [], take, reverse, ◌≡◌}
use Rattle.prolog_grammar.specs.Turn.{turned}
use Rattle.prolog_grammar.proofs.Turning.{turned_last, turned_none}
use Rattle.prolog_grammar.proofs.grammar.turn.turned.Goals as goal

pub loop-node-preserved : goal.loop-node-preserved
loop-node-preserved c =
    c.loop-node.invariant
    ∙ turned_last c.loop-node.left.items c.pop.new.self.items c.in-Some.node (reverse c.loop-node.turning.open.items, c.loop-node.turning.put.items) c.in-Some.ensures.items
    ∙ ap (turned (reverse c.pop.new.self.items)) c.in_ok-turn.ensures

pub returns : goal.returns
returns c =
    let none = c.in_default.ensures.rest ∙ ap (λ n. take (n - 1) c.loop-node.left.items) c.in_default.ensures.cases.0 in
    let empty : c.loop-node.left.items ≡ [] = c.in_default.ensures.items ∙ ap (λ l. l ++ []) none in
    let all = c.loop-node.invariant ∙ ap (λ l. turned (reverse l) (reverse c.loop-node.turning.open.items, c.loop-node.turning.put.items)) empty ∙ turned_none (reverse c.loop-node.turning.open.items, c.loop-node.turning.put.items) in
    c.reverse.ensures.items ∙ sym (ap (λ x. reverse x.1) all)
