use Rattle.std.proofs.Common.{Some, None, ap, ◌∙◌, sym}
use Rattle.term_core.specs.Sides.{pending}
use Rattle.term_core.specs.Substitution.{value_of, pairs_substituted}
use Rattle.term_core.proofs.Unifying.{from_nothing}
use Rattle.term_core.proofs.unifier.unify.Goals as goal

pub returns-in_ok-followed_by-in-Some : goal.returns-in_ok-followed_by-in-Some
returns-in_ok-followed_by-in-Some c =
    let ps = pairs_substituted (value_of c.args.s.now) c.args.pairs.now in
    ap Some c.in_ok-followed_by-in-Some.ensures
    ∙ sym (from_nothing ps (pending c.in_ok-left.left.items c.in_ok-left.right.items) c.args.s.now (Some c.in-Some.found) c.in_ok-left.ensures.pairs (sym c.in-Some.is ∙ c.in_ok-found.ensures))

pub returns-in-None : goal.returns-in-None
returns-in-None c =
    let ps = pairs_substituted (value_of c.args.s.now) c.args.pairs.now in
    sym (from_nothing ps (pending c.in_ok-left.left.items c.in_ok-left.right.items) c.args.s.now None c.in_ok-left.ensures.pairs (sym c.in-None.is ∙ c.in_ok-found.ensures))
