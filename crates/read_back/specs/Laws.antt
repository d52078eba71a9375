-- What is written is read again, up to the numbers of variables.
use Rattle.std.specs.Prelude.{◌≡◌, ℕ, ◌≤◌, ◌==◌, Bool, true, false, List, [], ◌∷◌}
use Rattle.std.specs.List.{list_all}
use Rattle.term_core.specs.Tree.{Tree, depth}
use Rattle.term_core.specs.Variables.{numbered}
use Rattle.prolog_write.specs.declared.mode.Mode.{Mode}
use Rattle.prolog_write.specs.declared.mode.Mode.TheVariants.{Plain, Quoted, Canonical}
use Rattle.prolog_write.specs.Text.{text, argument_text}
use Rattle.prolog_read.specs.Variables.{Names}
use Rattle.prolog_read.specs.Reads.{Reads}
use Rattle.prolog_read.specs.Clauses.{iso}
use Rattle.read_back.specs.Sound.{IsSound}

-- names stand in quotes where the reader wants it
abbrev pub quotes_names : Mode → Bool
quotes_names Plain = false
quotes_names Quoted = true
quotes_names Canonical = true

-- a name of the writer's, which begins with `_`
abbrev pub is_hidden : List ℕ → Bool
is_hidden [] = false
is_hidden (c ∷ cs) = c == 95

abbrev pub AreHidden : Names → Type 0
AreHidden ns = list_all (λ p. is_hidden p.0) ns ≡ true

-- with the operators of the standard's table a text is read as this term, and as no other
pub record IsReadAs (written : List ℕ) (t : Tree) : Type 0 where
  pub names : Names
  pub reads : Reads iso written t names
  pub hidden : AreHidden names
  pub only : (u : Tree) (others : Names) → Reads iso written u others → (u ≡ t) × (others ≡ names)

-- what is written of a term, by itself and as an argument, is read as the term with its variables numbered from 0 by first occurrence
pub record IsReadAgain (m : Mode) (t : Tree) : Type 0 where
  pub alone : IsReadAs (text m t) (numbered t)
  pub argument : IsReadAs (argument_text m t) (numbered t)

abbrev pub WhatIsWrittenIsReadAgain : Type 0
WhatIsWrittenIsReadAgain = (m : Mode) (t : Tree) → quotes_names m ≡ true → IsSound t → depth t ≤ 1000 → IsReadAgain m t
