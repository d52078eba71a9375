use Rattle.std.proofs.Common.{◌≡◌, take}
use Rattle.request_text.specs.Options.{given_for}
use Rattle.request_text.proofs.options.given_for.Given as goal

abbrev pub invariant-loop-option : goal.invariant-loop-option
invariant-loop-option l = l.given ≡ given_for l.name (take l.option-index l.options)
