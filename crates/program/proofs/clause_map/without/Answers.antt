use Rattle.std.proofs.Common.{true, false, List, [], ◌∷◌, ◌++◌, get_or, ap, sym, ◌∙◌, append-nil}
use Rattle.std.proofs.lemmas.List.{map-append}
use Rattle.program.specs.declared.clause.Clause as kept
use Rattle.program.specs.Clauses.{Clause, clauses_of}
use Rattle.program.specs.Kept.{clause_of}
use Rattle.program.proofs.ProgramLemmas.{kept_more, none_of}
use Rattle.program.proofs.clause_map.without.Goals.{then-is_empty+in_ok-push, else-is_empty}
use Rattle.program.proofs.clause_map.without.Goals as goal

pub loop-place-preserved : goal.loop-place-preserved
loop-place-preserved c = elim c.if-is_empty.branch [
  | then-is_empty+in_ok-push w ↦
      rw (w.kept-is, w.in_ok-push.ensures.items)
      (map-append (λ x. clause_of x.now) c.loop-place.kept.items _
      ∙ ap (λ (xs : List Clause). xs ++ clause_of c.index-of_predicate-place.result ∷ []) c.loop-place.invariant
      ∙ sym (kept_more c.args.by_arity.now c.args.order.now c.requires c.args.other.now c.loop-place.place-index c.place-item.result c.place-item.result c.loop-place-test.true c.place-item.is c.index-of_predicate-place.result
      (c.index-of_predicate-place.is ∙ ap (λ (ks : List kept.Clause). get_or ks c.place-item.result.at c.index-of_predicate-place.result) c.found-of_predicate.ensures)
      true (none_of c.of.result.now (clauses_of c.place-item.result.pi c.args.other.now) true c.of.ensures (sym c.is_empty.ensures ∙ w.if-is_empty.true))))
  | else-is_empty w ↦
      rw w.kept-is
      (c.loop-place.invariant ∙ sym (append-nil _)
      ∙ sym (kept_more c.args.by_arity.now c.args.order.now c.requires c.args.other.now c.loop-place.place-index c.place-item.result c.place-item.result c.loop-place-test.true c.place-item.is c.index-of_predicate-place.result
      (c.index-of_predicate-place.is ∙ ap (λ (ks : List kept.Clause). get_or ks c.place-item.result.at c.index-of_predicate-place.result) c.found-of_predicate.ensures)
      false (none_of c.of.result.now (clauses_of c.place-item.result.pi c.args.other.now) false c.of.ensures (sym c.is_empty.ensures ∙ w.if-is_empty.false))))
]
