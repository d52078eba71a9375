use Rattle.std.proofs.Common.{◌∙◌, ◌+◌, map, drop, ap, sym}
use Rattle.std.proofs.lemmas.List.{at_drop_more}
use Rattle.clap.specs.Words.{App, app_of, new_rule, with_rule}
use Rattle.cmdline.specs.Parsers.{with_rules}
use Rattle.cmdline.proofs.Adding.{with_more}
use Rattle.cmdline.proofs.arguments.with_operands.Goals as goal

pub names-preserved : goal.names-preserved
names-preserved c =
    let rest = map new_rule (map (λ s. s.now) (drop (c.names.name-index + 1) c.args.names.now)) in
    let added = c.in_ok-command.ensures.shape c.new.ensures.optional.1 ∙ ap (with_rule (app_of c.names.command)) c.new.ensures.rule in
    ap (λ (a : App). with_rules a rest) added
    ∙ with_more (app_of c.names.command) _ rest
    ∙ sym (at_drop_more (λ l. with_rules (app_of c.names.command) (map new_rule (map (λ s. s.now) l))) c.args.names.now c.names.name-index _ c.names-test.true)
    ∙ c.names.invariant
