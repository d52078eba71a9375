use Rattle.std.proofs.Common.{◌∙◌, ◌+◌, map, drop, ap, sym}
use Rattle.std.proofs.lemmas.List.{at_drop_more}
use Rattle.clap.specs.Words.{App, app_of, rule_of, with_rule}
use Rattle.clap.specs.declared.builder.arg.Arg.{Arg}
use Rattle.cmdline.specs.Parsers.{option_named, with_rules}
use Rattle.cmdline.proofs.Adding.{named_rule, with_more}
use Rattle.cmdline.proofs.arguments.with_options.Goals as goal

pub names-preserved : goal.names-preserved
names-preserved c =
    let rest = map option_named (map (λ s. s.now) (drop (c.names.name-index + 1) c.args.names.now)) in
    let named = named_rule (rule_of c.new.result) (rule_of c.long.result) _ c.new.ensures.rule (ap rule_of c.long.ensures) in
    let not_global = ap (λ (a : Arg). a.global) c.long.ensures ∙ c.new.ensures.optional.1 in
    let added = c.in_ok-command.ensures.shape not_global ∙ ap (with_rule (app_of c.names.command)) named in
    ap (λ (a : App). with_rules a rest) added
    ∙ with_more (app_of c.names.command) _ rest
    ∙ sym (at_drop_more (λ l. with_rules (app_of c.names.command) (map option_named (map (λ s. s.now) l))) c.args.names.now c.names.name-index _ c.names-test.true)
    ∙ c.names.invariant
