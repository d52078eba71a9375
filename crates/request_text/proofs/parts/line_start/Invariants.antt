use Rattle.std.proofs.Common.{◌≡◌, ◌+◌, ◌-◌, drop}
use Rattle.std.specs.Str.{IsCharBoundary}
use Rattle.request_text.specs.Spelled.{line_start}
use Rattle.request_text.proofs.parts.line_start.Given as goal

abbrev pub invariant-loop-line : goal.invariant-loop-line
invariant-loop-line l = record {
  start : l.at + line_start (l.count - l.line) (drop l.at l.text) ≡ line_start l.count l.text;
  boundary : IsCharBoundary l.text l.at;
}
