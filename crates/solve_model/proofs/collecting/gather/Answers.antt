use Rattle.std.proofs.Common.{arith, subst, sym}
use Rattle.solve_model.specs.Dropping.{IsCollect}
use Rattle.solve_model.proofs.Gathering.{collects, innermost_takes, no_collector, within}
use Rattle.solve_model.proofs.collecting.gather.Goals as goal

pub index_mut-requires : goal.index_mut-requires
index_mut-requires c =
    omega (arith, within c.args.stack.now.frames.items c.args.at c.requires, c.args.stack.now.frames.ok.0)

pub returns-in_ok-take_copy : goal.returns-in_ok-take_copy
returns-in_ok-take_copy c = λ w more u r.
    innermost_takes w c.args.at c.args.stack.now.frames.items c.in-Collect.collector c.take_copy.new.collector c.requires c.index_mut.result.now c.index_mut.ensures.value c.in-Collect.is c.args.subst.now more u
    (λ q. c.in_ok-take_copy.ensures w more u q) r

pub returns-in_default : goal.returns-in_default
returns-in_default c =
    let f = c.index_mut.result.now in
    absurd (no_collector f c.in_default.not-Collect (subst IsCollect (sym c.index_mut.ensures.value) (collects c.args.stack.now.frames.items c.args.at f c.requires)))
