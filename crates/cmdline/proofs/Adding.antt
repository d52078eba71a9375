-- A command with one rule after another.
use Rattle.std.proofs.Common.{◌≡◌, ◌∙◌, List, [], ◌∷◌, Some, ap, append_assoc}
use Rattle.clap.specs.Words.{App, Rule, new_rule, with_rule}
use Rattle.cmdline.specs.Words.{Text}
use Rattle.cmdline.specs.Parsers.{option_named, with_rules}

pub with_more : (a : App) (r : Rule) (rs : List Rule) → with_rules (with_rule a r) rs ≡ with_rules a (r ∷ rs)
with_more a r rs = ap (λ (all : List Rule). record a { top = record a.top { rules = all } }) (append_assoc a.top.rules (r ∷ []) rs)

pub named_rule : (a b : Rule) (n : Text) → a ≡ new_rule n → b ≡ record a { long = Some n } → b ≡ option_named n
named_rule a b n is e = e ∙ ap (λ (r : Rule). record r { long = Some n }) is
