use Rattle.std.proofs.Common.{rules}
use Rattle.std.proofs.lemmas.Iterator.{YieldsList-from_slice}
use Rattle.std.proofs.lemmas.Iterator.Search.{all_from_yields_List}
use Rattle.prolog_write.specs.Text.{is_word}
use Rattle.prolog_write.proofs.atoms.are_words.Goals as goal

pub returns : goal.returns
returns c =
    all_from_yields_List is_word _ _ _ c.all.ensures.ran (YieldsList-from_slice c.args.bytes.now cc) (λ x b q k. search rules)
