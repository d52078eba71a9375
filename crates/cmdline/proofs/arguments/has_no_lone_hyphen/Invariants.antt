use Rattle.std.proofs.Common.{◌≡◌, map, drop, string_bytes}
use Rattle.cmdline.specs.Words.{has_no_lone_hyphen}
use Rattle.cmdline.proofs.arguments.has_no_lone_hyphen.Given as goal

abbrev pub invariant-words : goal.invariant-words
invariant-words l = has_no_lone_hyphen (map string_bytes (drop l.word-index l.words)) ≡ has_no_lone_hyphen (map string_bytes l.words)
