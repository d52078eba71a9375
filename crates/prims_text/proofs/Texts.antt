-- The primitives on texts: the results' pairs each begin with one of the arguments.
use Rattle.std.proofs.Common.{ℕ, suc, ◌-◌, pos, length, take, drop, ◌||◌, List, [], ◌∷◌, Result, Ok, Err}
use Rattle.std.specs.List.{All, Contains, range_with_len}
use Rattle.std.proofs.lemmas.List.Elements.{All-nil}
use Rattle.std.specs.Str.{chars}
use Rattle.term_core.specs.Tree.{Tree, variable, integer, atom, compound}
use Rattle.builtin_table.specs.declared.spelling.Spelling.{Spelling}
use Rattle.builtin_table.specs.declared.spelling.Spelling.TheVariants.{Characters, Codes}
use Rattle.builtin_table.specs.Texts.{PartTerms, atom_of, length_found, atom_length, character_by_code, code_of_character, char_code, atom_ball, atom_joined, atom_made, atom_spelled, split, splits_from, characters_of, concatenation, concat_found, atom_concat, part_at, parts_at, parts_from, sub_atom}
use Rattle.builtin_table.specs.Numbers.{number_ball, number_joined, number_made, number_text, number_spelled, atom_of_number, atom_number}
use Rattle.builtin_table.specs.Outcomes.{Offers, is_variable}
use Rattle.tree_offers.specs.Results.{BeginsWith, IsOver}
use Rattle.tree_offers.proofs.Over.{Over, ball_over, fails_over, pair_before, unifies_over, chosen, option_over, each_over, all_over}

module _ (ts : List Tree) where
  -- ---- texts

  pub length_found_over : (n : Tree) (k : ℕ) → Contains ts n → Over ts (length_found n k)
  length_found_over (variable v) k c = unifies_over _ _ c
  length_found_over (integer z) k c = unifies_over _ _ c
  length_found_over (atom f) k c = ball_over
  length_found_over (compound f us) k c = ball_over

  pub atom_length_over : (a n : Tree) → Contains ts n → Over ts (atom_length a n)
  atom_length_over (variable v) n c = ball_over
  atom_length_over (integer z) n c = length_found_over n _ c
  atom_length_over (atom f) n c = length_found_over n _ c
  atom_length_over (compound f us) n c = ball_over

  pub character_by_code_over : (a n : Tree) → Contains ts a → Over ts (character_by_code a n)
  character_by_code_over a (variable v) c = ball_over
  character_by_code_over a (integer z) c = option_over _ _ _ (λ d. unifies_over _ _ c) ball_over
  character_by_code_over a (atom f) c = ball_over
  character_by_code_over a (compound f us) c = ball_over

  pub code_of_character_over : (a n : Tree) → Contains ts n → Over ts (code_of_character a n)
  code_of_character_over a n c = option_over _ _ _ (λ d. unifies_over _ _ c) ball_over

  pub char_code_over : (a n : Tree) → Contains ts a → Contains ts n → Over ts (char_code a n)
  char_code_over (variable v) n c d = character_by_code_over (variable v) n c
  char_code_over (integer z) n c d = code_of_character_over (integer z) n d
  char_code_over (atom f) n c d = code_of_character_over (atom f) n d
  char_code_over (compound f us) n c d = code_of_character_over (compound f us) n d

  pub atom_ball_over : (k : Spelling) (e : Tree) → Over ts (atom_ball k e)
  atom_ball_over Characters e = ball_over
  atom_ball_over Codes e = ball_over

  pub atom_joined_over : (k : Spelling) (a : Tree) (r : Result (List ℕ) Tree) → Contains ts a → Over ts (atom_joined k a r)
  atom_joined_over k a (Ok cs) c = unifies_over _ _ c
  atom_joined_over k a (Err t) c = atom_ball_over k _

  pub atom_made_over : (k : Spelling) (a : Tree) (r : Result (List Tree) Tree) → Contains ts a → Over ts (atom_made k a r)
  atom_made_over k a (Ok us) c = atom_joined_over k a _ c
  atom_made_over k a (Err e) c = atom_ball_over k e

  pub atom_spelled_over : (k : Spelling) (a l : Tree) → Contains ts a → Contains ts l → Over ts (atom_spelled k a l)
  atom_spelled_over k (variable v) l c d = atom_made_over k (variable v) _ c
  atom_spelled_over k (integer z) l c d = unifies_over _ _ d
  atom_spelled_over k (atom f) l c d = unifies_over _ _ d
  atom_spelled_over k (compound f us) l c d = atom_ball_over k _

  pub splits_over : (a b : Tree) (cs : List ℕ) (k : ℕ) → Contains ts a → Contains ts b → All (IsOver ts) (splits_from a b cs k)
  splits_over a b cs k c d =
      each_over ts (split a b cs) (range_with_len k (suc (length cs) - k))
      (λ n. pair_before ts a (atom_of (take n cs)) ((b, atom_of (drop n cs)) ∷ []) c (pair_before ts b (atom_of (drop n cs)) [] d (All-nil (BeginsWith ts))))

  pub concat_found_over : (a b e : Tree) → Contains ts a → Contains ts b → Contains ts e → Over ts (concat_found a b e)
  concat_found_over a b e c d h =
      chosen (is_variable a || is_variable b) {x = Offers (splits_from a b (characters_of e) 0)} (record { over = splits_over a b (characters_of e) 0 c d }) (unifies_over e (concatenation a b) h)

  pub atom_concat_over : (a b e : Tree) → Contains ts a → Contains ts b → Contains ts e → Over ts (atom_concat a b e)
  atom_concat_over a b e c d h = chosen _ ball_over (option_over _ _ _ (λ t. ball_over) (concat_found_over a b e c d h))

  pub part_over : (us : PartTerms) (cs : List ℕ) (start len : ℕ) → Contains ts us.before → Contains ts us.len → Contains ts us.after → Contains ts us.part → IsOver ts (part_at us cs start len)
  part_over us cs start len b l a p =
      let part : Tree × Tree = (us.part, atom_of (take len (drop start cs))) in
      let after : Tree × Tree = (us.after, integer (pos (length cs - start - len))) in
      let long : Tree × Tree = (us.len, integer (pos len)) in
      pair_before ts us.before (integer (pos start)) (long ∷ after ∷ part ∷ []) b
      (pair_before ts us.len long.1 (after ∷ part ∷ []) l
      (pair_before ts us.after after.1 (part ∷ []) a (pair_before ts us.part part.1 [] p (All-nil (BeginsWith ts)))))

  pub parts_over : (us : PartTerms) (cs : List ℕ) (start : ℕ) → Contains ts us.before → Contains ts us.len → Contains ts us.after → Contains ts us.part → All (IsOver ts) (parts_from us cs start)
  parts_over us cs start b l a p =
      all_over ts (λ k. parts_at us cs k 0) (range_with_len start (suc (length cs) - start))
      (λ k. each_over ts (part_at us cs k) (range_with_len 0 (suc (length cs) - k - 0)) (λ n. part_over us cs k n b l a p))

  pub sub_atom_over : (t : Tree) (us : PartTerms) → Contains ts us.before → Contains ts us.len → Contains ts us.after → Contains ts us.part → Over ts (sub_atom t us)
  sub_atom_over (variable v) us b l a p = ball_over
  sub_atom_over (integer z) us b l a p = ball_over
  sub_atom_over (atom f) us b l a p = record { over = parts_over us (chars f) 0 b l a p }
  sub_atom_over (compound f vs) us b l a p = ball_over

  -- ---- numbers

  pub number_ball_over : (k : Spelling) (e : Tree) → Over ts (number_ball k e)
  number_ball_over Characters e = ball_over
  number_ball_over Codes e = ball_over

  pub number_joined_over : (k : Spelling) (n : Tree) (r : Result (List ℕ) Tree) → Contains ts n → Over ts (number_joined k n r)
  number_joined_over k n (Ok cs) c = option_over _ _ _ (λ z. unifies_over _ _ c) (number_ball_over k _)
  number_joined_over k n (Err t) c = number_ball_over k _

  pub number_made_over : (k : Spelling) (n : Tree) (r : Result (List Tree) Tree) → Contains ts n → Over ts (number_made k n r)
  number_made_over k n (Ok us) c = number_joined_over k n _ c
  number_made_over k n (Err e) c = number_ball_over k e

  pub number_text_over : (k : Spelling) (n l : Tree) → Contains ts l → Over ts (number_text k n l)
  number_text_over k (variable v) l c = number_ball_over k _
  number_text_over k (integer z) l c = unifies_over _ _ c
  number_text_over k (atom f) l c = number_ball_over k _
  number_text_over k (compound f us) l c = number_ball_over k _

  pub number_spelled_over : (k : Spelling) (n l : Tree) → Contains ts n → Contains ts l → Over ts (number_spelled k n l)
  number_spelled_over k n l c d = chosen _ (number_made_over k n _ c) (number_text_over k n l d)

  pub atom_of_number_over : (a n : Tree) → Contains ts a → Over ts (atom_of_number a n)
  atom_of_number_over a (variable v) c = ball_over
  atom_of_number_over a (integer z) c = unifies_over _ _ c
  atom_of_number_over a (atom f) c = ball_over
  atom_of_number_over a (compound f us) c = ball_over

  pub atom_number_over : (a n : Tree) → Contains ts a → Contains ts n → Over ts (atom_number a n)
  atom_number_over (variable v) n c d = atom_of_number_over (variable v) n c
  atom_number_over (integer z) n c d = ball_over
  atom_number_over (atom f) n c d = option_over _ _ _ (λ z. unifies_over _ _ d) fails_over
  atom_number_over (compound f us) n c d = ball_over
