use Rattle.std.proofs.Common.{◌≡◌, ◌≤◌, List, ℕ, ◌++◌, length}
use Rattle.std.specs.Io.KnownBytes.{Appends}
use Rattle.pengines.specs.Output.{text_of_lines}
use Rattle.pengines.proofs.scripts.print_lines.Given as goal

abbrev pub invariant-loop-text : goal.invariant-loop-text
invariant-loop-text g l = (first : List (List ℕ)) × (l.initial.printing ≡ first ++ l.printing)
    × Appends (g.K.Sink.taken l.initial.out) (g.K.Sink.taken l.out) (text_of_lines first)
    × (g.K.Sink.faults l.initial.out ≤ g.K.Sink.faults l.out)

abbrev pub decreases-loop-text : goal.decreases-loop-text
decreases-loop-text g l = length l.printing
