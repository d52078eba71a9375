-- The text of a term is read as the term.
use Rattle.std.specs.Prelude.{◌≡◌, refl, ℕ, ◌+◌, ◌≤◌, true, false, not, List, [], ◌∷◌, map, All, Ok, None}
use Rattle.std.specs.List.{AllByRecursion}
use Rattle.std.specs.Str.{chars, encode_utf8_all}
use Rattle.std.proofs.Common.{arith, ap, ◌∙◌, sym, subst, append-nil}
use Rattle.std.proofs.lemmas.Bool.{and_parts, not-true, false≢true}
use Rattle.std.proofs.lemmas.List.Elements.{All-nil, All-cons}
use Rattle.std.proofs.lemmas.Str.{chars-encodes}
use Rattle.term_core.specs.Tree.{Tree, depth}
use Rattle.term_core.specs.Tokens.{Token, Tokens}
use Rattle.term_core.specs.Tokens as spec
use Rattle.term_core.specs.Variables.{numbered, place_of, distinct_after}
use Rattle.unicode_ident.specs.Ident.{is_xid_start, is_xid_continue}
use Rattle.prolog_lex.specs.Lexed.{tokens_of}
use Rattle.prolog_grammar.specs.declared.grammar.lexeme.Placed.{Placed}
use Rattle.prolog_write.specs.declared.mode.Mode.{Mode}
use Rattle.prolog_write.specs.declared.mode.Mode.TheVariants.{Plain, Quoted, Canonical}
use Rattle.prolog_write.specs.declared.place.Place.{Place}
use Rattle.prolog_write.specs.declared.place.Place.TheVariants.{Whole, Argument}
use Rattle.prolog_write.specs.Text.{behind, pieces, most, text_at}
use Rattle.prolog_read.specs.Variables.{Names, start}
use Rattle.prolog_read.specs.Lexemes.{nothing_before, lexemes}
use Rattle.prolog_read.specs.Lexemes as reader
use Rattle.prolog_read.specs.Reads.{before_end, from_end, is_end, names_of, IsTermOf, Reads}
use Rattle.prolog_read.specs.Clauses.{iso}
use Rattle.prolog_read.specs.Outcome.{Answer, ReadAs, term_read}
use Rattle.prolog_read.proofs.Exact.{reads_found}
use Rattle.read_back.specs.Laws.{AreHidden, quotes_names, IsReadAs, WhatIsWrittenIsReadAgain}
use Rattle.read_back.specs.Sound.{IsSound}
use Rattle.read_back.proofs.Spelled.{Item, piece_of, FollowedBy, AreApart, brackets}
use Rattle.read_back.proofs.Spelled as item
use Rattle.read_back.proofs.TermLayout.{layout, items}
use Rattle.read_back.proofs.Apart.{AreApart-items}
use Rattle.read_back.proofs.Grammar.{AreRead, are_read, key}
use Rattle.read_back.proofs.Keys.{zipped, threaded, threaded_by_keys, keys, lexemes-zipped, brackets-zipped}
use Rattle.read_back.proofs.Lexed.{are_spelt, segments, their_bytes, their_scalars, no_ends, they_hide, all_read, from_start}
use Rattle.read_back.proofs.WriterNames.{AllHide, seen_hide, names_hidden}
use Rattle.read_back.proofs.Pieces.{spelled}
use Rattle.read_back.proofs.Seen.{counted, read_seen, lexemes_seen, sees}
use Rattle.read_back.proofs.Segments.{Segment, space, written, text_of, placed, lexed}
use Rattle.read_back.proofs.Spelt.{has_no_end}

-- the text of items
abbrev written_of : List Item → List ℕ
written_of xs = behind 0 false (map (piece_of Quoted) xs)

-- ---- its tokens

before_none : (at : ℕ) (ss : List Segment) → has_no_end ss ≡ true → before_end (placed at ss) ≡ placed at ss
before_none at [] e = refl
before_none at (space ∷ ss) e = before_none (at + 1) ss e
before_none at (written kind w ∷ ss) e =
    let h = and_parts (not (is_end kind)) (has_no_end ss) e in
    rw (not-true (is_end kind) h.0) (ap (λ ts. record { kind = kind; from = at; to = at + spec.size w } ∷ ts) (before_none (at + spec.size w) ss h.1))

from_none : (at : ℕ) (ss : List Segment) → has_no_end ss ≡ true → from_end (placed at ss) ≡ []
from_none at [] e = refl
from_none at (space ∷ ss) e = from_none (at + 1) ss e
from_none at (written kind w ∷ ss) e =
    let h = and_parts (not (is_end kind)) (has_no_end ss) e in
    rw (not-true (is_end kind) h.0) (from_none (at + spec.size w) ss h.1)

-- a text with these tokens, none of which is an end
record HasTokens (text : List ℕ) (xs : List Item) : Type 0 where
  all : List Token
  tokens : tokens_of text ≡ Ok all
  before : before_end all ≡ all
  none : from_end all ≡ []
  placed : map counted (reader.placed text nothing_before all) ≡ threaded 0 start false xs
  hidden : AreHidden (names_of text all)

has_tokens : (xs : List Item) → AreApart xs → HasTokens (written_of xs) xs
unfolding spec.tokens
has_tokens xs a =
    let h = are_spelt xs a in
    let ss = segments 0 false xs h in
    let text = written_of xs in
    let bytes : encode_utf8_all (text_of ss) ≡ text = their_bytes 0 false xs h in
    let scalars = their_scalars 0 false xs h in
    let cs : chars text ≡ text_of ss = ap chars (sym bytes) ∙ chars-encodes (text_of ss) scalars in
    let end = no_ends 0 false xs h in
    record {
      all = placed 0 ss;
      tokens = ap (λ t. spec.tokens is_xid_start is_xid_continue t) cs ∙ lexed 0 ss (all_read 0 false xs h);
      before = before_none 0 ss end;
      none = from_none 0 ss end;
      placed = lexemes_seen text nothing_before (placed 0 ss) ∙ ap (read_seen false 0 start) (sees text [] 0 ss None false refl (sym bytes) scalars refl) ∙ from_start xs h;
      hidden = names_hidden text nothing_before (placed 0 ss) (subst AllHide (sym (sees text [] 0 ss None false refl (sym bytes) scalars refl)) (seen_hide false ss (they_hide 0 false xs h))) refl;
    }

-- ---- its term

map_map : {A B C : Type 0} (f : A → B) (g : B → C) (xs : List A) → map g (map f xs) ≡ map (λ x. g (f x)) xs
map_map f g [] = refl
map_map f g (x ∷ xs) = ap (λ ys. g (f x) ∷ ys) (map_map f g xs)

shallow : (ps : List Placed) → AllByRecursion (λ n. n ≤ 4000) (map (λ p. p.«open») ps) → All (λ p. p.«open» ≤ 4000) ps
shallow [] h = All-nil (λ p. p.«open» ≤ 4000)
shallow (p ∷ ps) h = All-cons (λ p. p.«open» ≤ 4000) p ps h.0 (shallow ps h.1)

keys_are : (t : Tree) (xs : List Item) → (r : AreRead t xs) → keys xs ≡ key t
keys_are t xs r = ap (λ vs v. place_of v (distinct_after [] vs)) r.order

term_of : (t : Tree) (xs : List Item) (text : List ℕ) → AreApart xs → AreRead t xs → (h : HasTokens text xs) → IsTermOf iso text h.all (numbered t) (names_of text h.all)
term_of t xs text a r h =
    let k = key t in
    let all : map counted (reader.placed text nothing_before h.all) ≡ zipped (item.lexemes k false xs) (brackets 0 xs) =
    h.placed ∙ threaded_by_keys xs a ∙ ap (λ k. zipped (item.lexemes k false xs) (brackets 0 xs)) (keys_are t xs r) in
    let ps = reader.placed text nothing_before h.all in
    let lexemes_are : lexemes text h.all ≡ item.lexemes k false xs = sym (map_map counted (λ c. c.0) ps) ∙ ap (map (λ c. c.0)) all ∙ lexemes-zipped k false 0 xs in
    let brackets_are : map (λ p. p.«open») ps ≡ brackets 0 xs = sym (map_map counted (λ c. c.1) ps) ∙ ap (map (λ c. c.1)) all ∙ brackets-zipped k false 0 xs in
    record {
      reading = r.reading;
      is_reading = rw lexemes_are r.is_reading;
      means = r.means;
      named = refl;
      brackets = shallow ps (rw brackets_are r.brackets);
      integers = r.integers;
      within = r.within;
    }

-- the text of items that are read as a term
record IsRead (written : List ℕ) (t : Tree) : Type 0 where
  names : Names
  reads : Reads iso written t names
  hidden : AreHidden names

read_as : (t : Tree) (xs : List Item) → AreApart xs → AreRead t xs → IsRead (written_of xs) (numbered t)
read_as t xs a r =
    let h = has_tokens xs a in
    record {
      names = names_of (written_of xs) h.all;
      hidden = h.hidden;
      reads = record {
        all = h.all;
        tokens = h.tokens;
        one_end = rw (h.none) (omega arith);
        term = rw (h.before) (term_of t xs (written_of xs) a r h);
      };
    }

-- ---- no other term

one_answer : (a : Answer) (x y : ReadAs) → a ≡ Ok x → a ≡ Ok y → y ≡ x
one_answer a x y e f = cc

no_other : (text : List ℕ) (t : Tree) → IsRead text t → IsReadAs text t
no_other text t h = record {
  names = h.names;
  reads = h.reads;
  hidden = h.hidden;
  only = λ u others r.
      let same = one_answer (term_read iso text) (t, h.names) (u, others) (reads_found iso text t h.names h.reads) (reads_found iso text u others r) in
      (ap (λ x. x.0) same, ap (λ x. x.1) same);
}

-- ---- the text of a term

same_piece : (x : Item) → piece_of Canonical x ≡ piece_of Quoted x
same_piece (item.variable_item n) = refl
same_piece (item.integer_item z) = refl
same_piece (item.name_item f) = refl
same_piece (item.mark_item k) = refl
same_piece (item.prefix_item f) = refl
same_piece (item.infix_item f) = refl

same_pieces : (m : Mode) → quotes_names m ≡ true → (xs : List Item) → map (piece_of m) xs ≡ map (piece_of Quoted) xs
same_pieces Plain q xs = absurd (false≢true q)
same_pieces Quoted q xs = refl
same_pieces Canonical q [] = refl
same_pieces Canonical q (x ∷ xs) = rw (same_piece x) (ap (λ ps. piece_of Quoted x ∷ ps) (same_pieces Canonical refl xs))

at_place : (m : Mode) (t : Tree) (at : Place) → quotes_names m ≡ true → IsSound t → depth t ≤ 1000 → most at ≤ 1200 → IsRead (text_at at m t) (numbered t)
at_place m t at q s d p =
    let xs = items (layout m t at) [] in
    let text : written_of xs ≡ text_at at m t = ap (behind 0 false) (sym (same_pieces m q xs) ∙ spelled m t at s.arguments [] ∙ append-nil (pieces m t at)) in
    subst (λ w. IsRead w (numbered t)) text (read_as t xs (AreApart-items m t at s.values) (are_read m t at s d p))

pub written_is_read : WhatIsWrittenIsReadAgain
written_is_read m t q s d = record {
  alone = no_other (text_at Whole m t) (numbered t) (at_place m t Whole q s d (omega arith));
  argument = no_other (text_at Argument m t) (numbered t) (at_place m t Argument q s d (omega arith));
}
