use Rattle.std.proofs.Common.{List, ap, append-nil, sym, ◌∙◌}
use Rattle.solve_model.specs.declared.search.Frame.{Frame}
use Rattle.solve_model.specs.Run.{after, cut_to}
use Rattle.solve_model.specs.Search.{resumed}
use Rattle.solve_model.proofs.Dropped.{dropped}
use Rattle.solve_model.proofs.Resume.{resumed_push}
use Rattle.solve_model.proofs.frames.drop_above.Goals as goal

pub returns : goal.returns
returns c = λ w r.
    ap (λ (fs : List Frame). resumed w fs (after r (cut_to c.args.level))) (sym (c.in_default.ensures.items ∙ append-nil c.pop.new.self.items))
    ∙ c.loop-frame.invariant w r

pub returns-in-Some-kept_frame : goal.returns-in-Some-kept_frame
returns-in-Some-kept_frame c = λ w r.
    c.in_ok-push.ensures w (after r (cut_to c.args.level))
    ∙ ap (resumed w c.pop.new.self.items) (c.in-Some-kept_frame.ensures.kept w r)
    ∙ sym (resumed_push w c.pop.new.self.items c.loop-frame.stack.frames.items c.in-Some.frame (after r (cut_to c.args.level)) c.in-Some.ensures.items)
    ∙ c.loop-frame.invariant w r

pub loop-frame-preserved : goal.loop-frame-preserved
loop-frame-preserved c = λ w r.
    dropped w c.args.level c.loop-frame.stack.frames.items c.pop.new.self.items c.in-Some.frame r c.in-Some.ensures.items c.in_default-kept_frame.ensures.dropped
    ∙ c.loop-frame.invariant w r
