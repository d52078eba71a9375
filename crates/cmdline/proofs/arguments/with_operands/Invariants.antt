use Rattle.std.proofs.Common.{◌≡◌, map, drop}
use Rattle.clap.specs.Words.{app_of, new_rule}
use Rattle.cmdline.specs.Parsers.{with_rules}
use Rattle.cmdline.proofs.arguments.with_operands.Given as goal

abbrev pub invariant-names : goal.invariant-names
invariant-names l =
    with_rules (app_of l.command) (map new_rule (map (λ s. s.now) (drop l.name-index l.names))) ≡ with_rules (app_of l.fn.command) (map new_rule (map (λ s. s.now) l.names))
