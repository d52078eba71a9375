-- A query's run as a trace shows it.
use Rattle.std.specs.Prelude.{ℕ, List, map}
use Rattle.term_core.specs.Tree.{Tree}
use Rattle.term_core.specs.Substitution.{apply}
use Rattle.solve_model.specs.declared.answers.Trace.{Trace}
use Rattle.solve_model.specs.declared.answers.TraceMark.{TraceMark}
use Rattle.solve_model.specs.declared.answers.TraceMark.TheVariants as shown
use Rattle.solve_model.specs.declared.answers.TraceEnd.{TraceEnd}
use Rattle.solve_model.specs.declared.answers.TraceEnd.TheVariants as ended
use Rattle.builtin_table.specs.Outside.{outside_in}
use Rattle.builtin_table.specs.Taken.{primitive_in}
use Rattle.program.specs.Loaded.{Loaded}
use Rattle.solve_model.specs.Run as run

-- the world of a program: its clauses, and the primitives of its application
abbrev pub world_of : Loaded → (replies : List Tree) → (limit : ℕ) → run.World
world_of l ts n = record {
  clauses = l.clauses;
  primitive = primitive_in l.app;
  outside = outside_in l.app;
  replies = ts;
  limit = n;
}

-- an answer is the template under its substitution
abbrev pub mark_shown : Tree → run.Mark → TraceMark
mark_shown template (run.Answered s more) = shown.Answer (apply s template) more
mark_shown template (run.Told t) = shown.Output t
mark_shown template (run.Asked t) = shown.Prompt t

abbrev pub marks_shown : Tree → List (ℕ × run.Mark) → List (ℕ × TraceMark)
marks_shown template ms = map (λ m. (m.0, mark_shown template m.1)) ms

-- A whole query isn't cut off: its own cut is its failure.
abbrev pub end_shown : run.End → TraceEnd
end_shown run.Failed = ended.Failed
end_shown (run.Cut l) = ended.Failed
end_shown (run.Thrown ball l) = ended.Thrown ball
end_shown run.Waits = ended.Waits
end_shown run.Spent = ended.Spent
end_shown (run.Outside i) = ended.Outside i

-- a run, where the answers are to show this template
abbrev pub traced : (template : Tree) → run.Ran → Trace
traced template r = record {
  marks = marks_shown template r.marks;
  steps = r.used.steps;
  replies_used = r.used.replies;
  end = end_shown r.end;
}
