use Rattle.std.proofs.Common.{true, false, map, ap, sym, ◌∙◌}
use Rattle.std.specs.List.{list_all}
use Rattle.sandbox_walk.specs.Shown.{declared_kind}
use Rattle.sandbox_walk.specs.Keeping.{hands_on}
use Rattle.library_check.specs.Bodies.{is_given}
use Rattle.library_check.proofs.Bodies.{hands_none, hands_unknown, hands_parts, hands_literal}
use Rattle.library_check.proofs.handing.bodies_left.Goals as goal

pub returns-in_default : goal.returns-in_default
returns-in_default c = hands_none c.args.table.now (is_given c.args.given.now) c.args.body.now (sym c.in_ok-pi.ensures ∙ c.in_default.is)

pub returns-then-not-is_known : goal.returns-then-not-is_known
returns-then-not-is_known c =
    hands_unknown c.args.table.now (is_given c.args.given.now) c.args.body.now c.in-Some.pi (sym c.in_ok-pi.ensures ∙ c.in-Some.is) (sym c.is_known.ensures ∙ c.if-not-is_known.true)

pub returns-then-has_parts : goal.returns-then-has_parts
returns-then-has_parts c =
    hands_parts c.args.table.now (is_given c.args.given.now) c.args.body.now c.in-Some.pi (sym c.in_ok-pi.ensures ∙ c.in-Some.is) c.in_ok-args.args.items
    (sym c.is_known.ensures ∙ c.if-not-is_known.false) (sym c.has_parts.ensures ∙ c.if-has_parts.true) c.in_ok-args.ensures

pub returns-then-not-hands_arguments : goal.returns-then-not-hands_arguments
returns-then-not-hands_arguments c =
    hands_literal c.args.table.now (is_given c.args.given.now) c.args.body.now c.in-Some.pi (sym c.in_ok-pi.ensures ∙ c.in-Some.is) c.deref.result.now c.deref-2.result.now false
    (sym c.is_known.ensures ∙ c.if-not-is_known.false) (sym c.has_parts.ensures ∙ c.if-has_parts.false) (c.deref.ensures.value ∙ c.in_ok-args.ensures)
    (ap (map declared_kind) c.deref-2.ensures.value ∙ c.in_ok-metas.ensures (sym c.has_parts.ensures ∙ c.if-has_parts.false)) (sym c.if-not-hands_arguments.true ∙ c.hands_arguments.ensures)

pub returns : goal.returns
returns c =
    ap (list_all (hands_on c.args.table.now (is_given c.args.given.now))) c.new.ensures.items
    ∙ hands_literal c.args.table.now (is_given c.args.given.now) c.args.body.now c.in-Some.pi (sym c.in_ok-pi.ensures ∙ c.in-Some.is) c.deref.result.now c.deref-2.result.now true
    (sym c.is_known.ensures ∙ c.if-not-is_known.false) (sym c.has_parts.ensures ∙ c.if-has_parts.false) (c.deref.ensures.value ∙ c.in_ok-args.ensures)
    (ap (map declared_kind) c.deref-2.ensures.value ∙ c.in_ok-metas.ensures (sym c.has_parts.ensures ∙ c.if-has_parts.false)) (sym c.if-not-hands_arguments.false ∙ c.hands_arguments.ensures)
