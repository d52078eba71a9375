use Rattle.std.proofs.Common.{◌≡◌, ◌∙◌, ap, sym, ℕ, List}
use Rattle.std.specs.Str.{chars, encode_utf8_all, IsUtf8}
use Rattle.std.proofs.lemmas.Str.{encodes-chars}
use Rattle.term_core.specs.Tokens as tokens
use Rattle.prolog_lex.specs.Lexed.{kind_of}
use Rattle.prolog_lex.proofs.Standing.{integer_fits}
use Rattle.prolog_lex.proofs.values.value.Goals as goal

pub integer_value-requires : goal.integer_value-requires
integer_value-requires c = rw c.slice-slice.ensures (integer_fits c.args.text.now c.args.token.now c.utf8.text c.requires (ap kind_of c.in-Integer.is))

same_bytes : (name slice bytes : List ℕ) → name ≡ slice → slice ≡ bytes → IsUtf8 slice → name ≡ encode_utf8_all (chars bytes)
same_bytes name slice bytes n s u = n ∙ sym (encodes-chars slice u) ∙ ap (λ bs. encode_utf8_all (chars bs)) s

pub returns-in_ok-new-in-Name : goal.returns-in_ok-new-in-Name
returns-in_ok-new-in-Name c =
    rw c.in-Name.is (ap tokens.name_value (same_bytes _ _ _ c.in_ok-new-in-Name.ensures c.slice-slice.ensures c.slice-slice.utf8))

pub returns-in_ok-new-in-Variable : goal.returns-in_ok-new-in-Variable
returns-in_ok-new-in-Variable c =
    rw c.in-Variable.is (ap tokens.variable_value (same_bytes _ _ _ c.in_ok-new-in-Variable.ensures c.slice-slice.ensures c.slice-slice.utf8))
