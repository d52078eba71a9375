-- The texts of the terms in events.
use Rattle.std.specs.Prelude.{ℕ, List}
use Rattle.term_core.specs.Tree.{Tree}
use Rattle.prolog_write.specs.declared.mode.Mode.TheVariants.{Quoted}
use Rattle.prolog_write.specs.Text as written

-- with quotes, as a term by itself
abbrev pub quoted : Tree → List ℕ
quoted t = written.text Quoted t

-- with quotes, as an argument of a compound
abbrev pub argument : Tree → List ℕ
argument t = written.argument_text Quoted t
