-- A turn of the loop over a term's tokens.
use Rattle.std.proofs.Common.{◌≡◌, ◌∙◌, ◌<◌, true, false, List, [], ◌∷◌, ◌++◌, length, drop, Ok, refl, ap, arith, get_or, append_assoc}
use Rattle.std.proofs.lemmas.List.{get_or-map, length-map}
use Rattle.std.proofs.lemmas.Bool.{false≢true}
use Rattle.prolog_lex.specs.declared.token.Token.{Token}
use Rattle.prolog_lex.specs.Lexed.{tokens_of, token_of}
use Rattle.prolog_grammar.specs.Readings.{Bytes}
use Rattle.prolog_grammar.specs.declared.grammar.lexeme.Placed.{Placed}
use Rattle.prolog_read.specs.Lexemes.{Before, placed, behind_all, begins_with_pair, single, pair, behind, behind_pair}
use Rattle.prolog_read.specs.Views.{tokens_in, AreTokensOf}

-- all of a text's tokens are its tokens
pub all_tokens : (text : Bytes) (ts : List Token) → tokens_of text ≡ Ok (tokens_in ts) → AreTokensOf text ts
all_tokens text ts h k d l = record {
  all = tokens_in ts;
  read = h;
  among = (k, omega (arith, l, length-map ts token_of), get_or-map token_of ts k d _ l);
}

module _ (text : Bytes) (b : Before) where
  pub placed_pair : (ts : List Token) (d : Token) → begins_with_pair (tokens_in ts) ≡ true →
      placed text b (tokens_in ts) ≡ pair b (token_of (get_or ts 0 d)) ∷ placed text (behind_pair b (token_of (get_or ts 1 d))) (tokens_in (drop 2 ts))
  unfolding placed
  placed_pair [] d h = absurd (false≢true h)
  placed_pair (t ∷ []) d h = absurd (false≢true h)
  placed_pair (t ∷ u ∷ ts) d h = rw h refl

  pub behind_all_pair : (ts : List Token) (d : Token) → begins_with_pair (tokens_in ts) ≡ true →
      behind_all text b (tokens_in ts) ≡ behind_all text (behind_pair b (token_of (get_or ts 1 d))) (tokens_in (drop 2 ts))
  unfolding behind_all
  behind_all_pair [] d h = absurd (false≢true h)
  behind_all_pair (t ∷ []) d h = absurd (false≢true h)
  behind_all_pair (t ∷ u ∷ ts) d h = rw h refl

  pub placed_single : (ts : List Token) (d : Token) → 0 < length ts → begins_with_pair (tokens_in ts) ≡ false →
      placed text b (tokens_in ts) ≡ single text b (token_of (get_or ts 0 d)) ∷ placed text (behind text b (token_of (get_or ts 0 d))) (tokens_in (drop 1 ts))
  unfolding placed
  placed_single [] d l h = absurd (omega (arith, l))
  placed_single (t ∷ []) d l h = refl
  placed_single (t ∷ u ∷ ts) d l h = rw h refl

  pub behind_all_single : (ts : List Token) (d : Token) → 0 < length ts → begins_with_pair (tokens_in ts) ≡ false →
      behind_all text b (tokens_in ts) ≡ behind_all text (behind text b (token_of (get_or ts 0 d))) (tokens_in (drop 1 ts))
  unfolding behind_all
  behind_all_single [] d l h = absurd (omega (arith, l))
  behind_all_single (t ∷ []) d l h = refl
  behind_all_single (t ∷ u ∷ ts) d l h = rw h refl

  -- where no token is left
  pub placed_none : (ts : List Token) → length ts ≡ 0 → placed text b (tokens_in ts) ≡ []
  unfolding placed
  placed_none [] h = refl
  placed_none (t ∷ ts) h = absurd (omega (arith, h))

  pub behind_all_none : (ts : List Token) → length ts ≡ 0 → behind_all text b (tokens_in ts) ≡ b
  unfolding behind_all
  behind_all_none [] h = refl
  behind_all_none (t ∷ ts) h = absurd (omega (arith, h))

-- one more is put behind those found
pub pushed : (found more : List Placed) (p : Placed) (rest : List Placed) → more ≡ found ++ p ∷ [] → more ++ rest ≡ found ++ p ∷ rest
pushed found more p rest h = ap (λ xs. xs ++ rest) h ∙ append_assoc found (p ∷ []) rest
