use Rattle.std.proofs.Common.{◌<◌, length, List, Bool, ap, sym, subst, arith}
use Rattle.term_core.specs.Preorder.{AreTermNodes}
use Rattle.term_core.proofs.Preorder.{AreTermNodes-drop}
use Rattle.sandbox_walk.specs.Shown.{kinds_in}
use Rattle.sandbox_walk.proofs.Reading.{has_node, length-bodies, takes_argument}
use Rattle.sandbox_walk.proofs.shown.take.Goals as goal

pub bodies_from-marks-requires : goal.bodies_from-marks-requires
bodies_from-marks-requires c =
    let inside : c.args.reading.now.at < length c.args.nodes.now = has_node c.args.task.now c.in-Argument.holder c.in-Argument.kind c.args.nodes.now c.args.reading.now.at c.in-Argument.is c.requires.node in
    omega (arith, inside, ap (λ (bs : List Bool). length bs) c.requires.bodies, length-bodies c.args.nodes.now)

pub open-requires-clause-terms : goal.open-requires-clause-terms
open-requires-clause-terms c = subst AreTermNodes (sym c.nodes_from-rest.ensures) (AreTermNodes-drop c.args.reading.now.at c.args.nodes.now c.requires.terms)

pub returns-in_ok-put-in-Argument : goal.returns-in_ok-put-in-Argument
returns-in_ok-put-in-Argument c = λ whole ts t reading.
    takes_argument (kinds_in c.args.table.now) whole c.args.reading.now.found.items c.put.new.reading.found.items ts c.args.reading.now.tasks.items c.put.new.reading.tasks.items c.args.task.now c.in-Argument.holder c.in-Argument.kind
    c.args.nodes.now c.nodes_from-rest.result.now c.args.bodies.now c.bodies_from-marks.result.now c.args.reading.now.at c.in_ok-opened-in-Argument.opened.found.items c.in_ok-opened-in-Argument.opened.tasks.items
    c.requires.terms c.requires.bodies c.requires.node c.in-Argument.is c.nodes_from-rest.ensures c.bodies_from-marks.ensures c.in_ok-opened-in-Argument.ensures.found c.in_ok-opened-in-Argument.ensures.tasks
    c.in_ok-put-in-Argument.ensures.found c.in_ok-put-in-Argument.ensures.tasks t reading
