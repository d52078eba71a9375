-- A text by its segments, and its tokens where each of them is the token in front of what follows.
use Rattle.std.specs.Prelude.{◌≡◌, refl, ℕ, suc, ◌+◌, ◌-◌, ◌≤◌, List, [], ◌∷◌, ◌++◌, length, Ok, ⊤}
use Rattle.std.specs.Char.{len_utf8}
use Rattle.std.proofs.Math.Seq.{take-append_seam}
use Rattle.std.proofs.Common.{arith, ap, ◌∙◌}
use Rattle.unicode_ident.specs.Ident.{is_xid_start, is_xid_continue}
use Rattle.term_core.specs.Tokens.{Text, Kind, token, Token, Tokens, size, with_token, tokens_from}
use Rattle.term_core.specs.Tokens as spec
use Rattle.prolog_lex.specs.Scanned.{front}

-- the characters of a token, or a space
pub data Segment : Type 0 where
  space : Segment
  written : Kind → Text → Segment

abbrev pub text_of : List Segment → Text
text_of [] = []
text_of (space ∷ ss) = 32 ∷ text_of ss
text_of (written kind w ∷ ss) = w ++ text_of ss

-- the tokens, from this place on
abbrev pub placed : ℕ → List Segment → List Token
placed at [] = []
placed at (space ∷ ss) = placed (at + 1) ss
placed at (written kind w ∷ ss) = record { kind = kind; from = at; to = at + size w } ∷ placed (at + size w) ss

-- each token is the one in front
abbrev pub AreRead : List Segment → Type 0
AreRead [] = ⊤
AreRead (space ∷ ss) = AreRead ss
AreRead (written kind w ∷ ss) = (1 ≤ length w) × (front (w ++ text_of ss) ≡ token kind (length w)) × AreRead ss

abbrev read_from : ℕ → ℕ → Text → Tokens
read_from at skip t = tokens_from is_xid_start is_xid_continue at skip t

-- so many characters that were read
past_read : (w rest : Text) (at : ℕ) → read_from at (length w) (w ++ rest) ≡ read_from (at + size w) 0 rest
unfolding tokens_from
past_read [] rest at = ap (λ n. read_from n 0 rest) (omega arith)
past_read (c ∷ w) rest at = past_read w rest (at + len_utf8 c) ∙ ap (λ n. read_from n 0 rest) (omega arith)

token_read : (c : ℕ) (w rest : Text) (kind : Kind) (at : ℕ) → front (c ∷ w ++ rest) ≡ token kind (suc (length w)) →
    read_from at 0 (c ∷ w ++ rest) ≡ with_token (record { kind = kind; from = at; to = at + size (c ∷ w) }) (read_from (at + size (c ∷ w)) 0 rest)
unfolding tokens_from
token_read c w rest kind at e =
    let less : suc (length w) - 1 ≡ length w = omega arith in
    rw (e, take-append_seam w rest, less) (ap (with_token _) (past_read w rest (at + len_utf8 c) ∙ ap (λ n. read_from n 0 rest) (omega arith)))

space_read : (at : ℕ) (t : Text) → read_from at 0 (32 ∷ t) ≡ read_from (at + 1) 0 t
unfolding tokens_from spec.front
space_read at t = refl

pub lexed : (at : ℕ) (ss : List Segment) → AreRead ss → read_from at 0 (text_of ss) ≡ Ok (placed at ss)
unfolding tokens_from
lexed at [] r = refl
lexed at (space ∷ ss) r = space_read at (text_of ss) ∙ lexed (at + 1) ss r
lexed at (written kind [] ∷ ss) r = absurd (let h = r.0 in omega (arith, h))
lexed at (written kind (c ∷ w) ∷ ss) r = token_read c w (text_of ss) kind at r.1 ∙ ap (with_token _) (lexed (at + size (c ∷ w)) ss r.2)
