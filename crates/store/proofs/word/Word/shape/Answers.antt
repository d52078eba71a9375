use Rattle.std.proofs.Common.{◌/◌, ap, ◌∙◌, sym, arith}
use Rattle.std.proofs.lemmas.Int.{ints}
use Rattle.store.specs.Words.{shape_of}
use Rattle.store.specs.declared.word.Shape.TheVariants.{Int}
use Rattle.store.proofs.Packing.{small_shape, is_variable, is_atom, is_large, is_compound}
use Rattle.store.proofs.word.Word.shape.Goals as goal

pub returns-then-kind-eq0-clause-shape : goal.returns-then-kind-eq0-clause-shape
unfolding shape_of
returns-then-kind-eq0-clause-shape c =
    ap Int (omega (arith, ints, c.from.ensures)) ∙ sym (small_shape c.args.self.bits (c.args.self.bits / 4) (omega arith))

pub returns-then-kind-eq1-clause-shape : goal.returns-then-kind-eq1-clause-shape
unfolding shape_of
returns-then-kind-eq1-clause-shape c = is_variable c.args.self.bits c.if-kind-eq1.true

pub returns-then-rest-eq0-clause-shape : goal.returns-then-rest-eq0-clause-shape
unfolding shape_of
returns-then-rest-eq0-clause-shape c = is_atom c.args.self.bits c.if-kind-eq2.true c.if-rest-eq0.true

pub returns-then-kind-eq2-clause-shape : goal.returns-then-kind-eq2-clause-shape
unfolding shape_of
returns-then-kind-eq2-clause-shape c = is_large c.args.self.bits c.if-kind-eq2.true c.if-rest-eq0.false

pub returns-clause-shape : goal.returns-clause-shape
unfolding shape_of
returns-clause-shape c = is_compound c.args.self.bits c.if-kind-eq0.false c.if-kind-eq1.false c.if-kind-eq2.false
