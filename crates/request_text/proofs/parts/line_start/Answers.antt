use Rattle.std.proofs.Common.{sym, ◌∙◌, ap, subst}
use Rattle.std.specs.Str.{IsCharBoundary}
use Rattle.std.proofs.lemmas.Str.{IsCharBoundary-start, IsCharBoundary-from_rest}
use Rattle.request_text.specs.Spelled.{line_size}
use Rattle.request_text.proofs.LineStarts.{line_first, line_further, line_last}
use Rattle.request_text.proofs.parts.line_start.Goals as goal

pub loop-line-init : goal.loop-line-init
loop-line-init c = record {
  start = line_first c.args.count c.args.text.now;
  boundary = IsCharBoundary-start c.args.text.now c.utf8.text;
}

pub loop-line-preserved : goal.loop-line-preserved
loop-line-preserved c =
    let text = c.args.text.now in
    let at = c.loop-line.at in
    let size = c.line_size-at.result in
    record {
      start =
          sym (line_further c.args.count c.loop-line.line text at size c.loop-line-test.true (c.line_size-at.ensures.size ∙ ap line_size c.range_from.ensures.value))
          ∙ c.loop-line.invariant.start;
      boundary =
          IsCharBoundary-from_rest text at size c.loop-line.invariant.boundary.0 (subst (λ l. IsCharBoundary l size) c.range_from.ensures.value c.line_size-at.ensures.boundary);
    }

pub returns-clause-start : goal.returns-clause-start
returns-clause-start c = line_last c.args.count c.loop-line.line c.args.text.now c.loop-line.at _ c.loop-line-test.false c.loop-line.invariant.start
