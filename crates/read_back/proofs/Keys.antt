-- The variables of written items are numbered by first occurrence when they are read.
use Rattle.std.specs.Prelude.{◌≡◌, refl, ℕ, suc, ◌+◌, ◌<◌, ◌^◌, pos, negsuc, Bool, true, false, cond, ◌||◌, ◌==◌, List, [], ◌∷◌, ◌++◌, length, map, drop, decimal, Option, Some, None, if◌then◌else◌, codes}
use Rattle.std.specs.List.{list_any, AllByRecursion}
use Rattle.std.specs.Str.{bytes_eq}
use Rattle.std.proofs.Common.{arith, ap, ◌∙◌, sym}
use Rattle.std.proofs.lemmas.Bool.{false≢true, or_parts}
use Rattle.std.proofs.lemmas.Bool.Decides.{nat_tests, same_from_decides, Decides-eqb, Decides-like}
use Rattle.std.proofs.lemmas.Fmt.{decimal_injective, decimal_nonempty}
use Rattle.std.proofs.lemmas.Slice.Eq.{bytes_eq-Decides}
use Rattle.term_core.specs.Variables.{with_new, distinct_after, place_of}
use Rattle.prolog_grammar.specs.declared.grammar.lexeme.Lexeme.{Lexeme}
use Rattle.prolog_read.specs.Variables.{Names, Numbering, start, lookup, number_of, with_variable}
use Rattle.prolog_grammar.specs.declared.grammar.lexeme.Lexeme.TheVariants.{Name, Integer, Variable}
use Rattle.read_back.proofs.Spelled.{Item, variable_item, integer_item, name_item, mark_item, prefix_item, infix_item, word, mark_lexeme, infix_lexeme, is_brackets, is_opening, AreApart, is_tight, item_lexemes, lexemes, item_variables, item_brackets, brackets, open_behind}

abbrev pub variable_name : ℕ → List ℕ
variable_name n = 95 ∷ decimal n

abbrev pub zipped : List Lexeme → List ℕ → List (Lexeme × ℕ)
zipped [] ns = []
zipped (k ∷ ks) [] = []
zipped (k ∷ ks) (n ∷ ns) = (k, n) ∷ zipped ks ns

abbrev pub item_counted : ℕ → Numbering → Bool → Item → List (Lexeme × ℕ)
item_counted n s d x = zipped (item_lexemes (λ v. number_of s (variable_name v)) d x) (item_brackets n x)

abbrev pub item_names : Numbering → Item → Numbering
item_names s (variable_item n) = with_variable s (variable_name n)
item_names s _ = s

-- the tokens of items and how many brackets are open with each, where the variables are numbered from token to token
abbrev pub threaded : ℕ → Numbering → Bool → List Item → List (Lexeme × ℕ)
threaded n s d [] = []
threaded n s d (x ∷ xs) = item_counted n s d x ++ threaded (open_behind n x) (item_names s x) (is_tight x) xs

or_right : (b c : Bool) → c ≡ true → (b || c) ≡ true
or_right true c e = refl
or_right false c e = e

-- ---- names

Small : List ℕ → Type 0
Small ns = AllByRecursion (λ n. n < 2 ^ 64) ns

name_behind : (m n : ℕ) → variable_name m ≡ variable_name n → decimal m ≡ decimal n
name_behind m n e = ap (λ cs. drop 1 cs) e

same_variable : (m n : ℕ) → m < 2 ^ 64 → n < 2 ^ 64 → bytes_eq (variable_name m) (variable_name n) ≡ (m == n)
same_variable m n h i =
    same_from_decides (bytes_eq (variable_name m) (variable_name n)) (m == n) (bytes_eq-Decides (variable_name m) (variable_name n))
    (Decides-like (m == n) (λ e. ap variable_name e) (λ e. decimal_injective m n h i (name_behind m n e)) (Decides-eqb m n))

no_underscore : (cs : List ℕ) → 0 < length cs → bytes_eq (95 ∷ cs) (codes "_") ≡ false
no_underscore [] h = absurd (omega arith)
no_underscore (c ∷ cs) h = refl

is_named : (n : ℕ) → n < 2 ^ 64 → bytes_eq (variable_name n) (codes "_") ≡ false
is_named n h = no_underscore (decimal n) (decimal_nonempty n h)

-- the names of these numbers, which stand for those from k on
names_from : ℕ → List ℕ → Names
names_from k [] = []
names_from k (m ∷ ms) = (variable_name m, k) ∷ names_from (suc k) ms

abbrev numbering : List ℕ → Numbering
numbering seen = record { names = names_from 0 seen; next = length seen }

found_at : Bool → ℕ → Option ℕ
found_at b k = cond b (Some k) None

by_first : (b c : Bool) (k p : ℕ) → (if b then Some k else cond c (Some (suc k + p)) None) ≡ cond (b || c) (Some (k + cond b 0 (suc p))) None
by_first true c k p = let e : k ≡ k + 0 = omega arith in ap Some e
by_first false true k p = let e : suc k + p ≡ k + suc p = omega arith in ap Some e
by_first false false k p = refl

lookup_is : (n k : ℕ) (seen : List ℕ) → n < 2 ^ 64 → Small seen → lookup (variable_name n) (names_from k seen) ≡ cond (list_any (λ m. m == n) seen) (Some (k + place_of n seen)) None
unfolding Small names_from
lookup_is n k [] h s = refl
lookup_is n k (m ∷ ms) h s =
    ap (λ b. if b then Some k else lookup (variable_name n) (names_from (suc k) ms)) (same_variable m n s.0 h)
    ∙ ap (λ o. if m == n then Some k else o) (lookup_is n (suc k) ms h s.1)
    ∙ by_first (m == n) (list_any (λ m. m == n) ms) k (place_of n ms)

names_from-push : (k n : ℕ) (seen : List ℕ) → names_from k (seen ++ n ∷ []) ≡ names_from k seen ++ (variable_name n, k + length seen) ∷ []
unfolding names_from
names_from-push k n [] = let e : k ≡ k + 0 = omega arith in ap (λ j. (variable_name n, j) ∷ []) e
names_from-push k n (m ∷ ms) =
    let e : suc k + length ms ≡ k + suc (length ms) = omega arith in
    ap (λ ns. (variable_name m, k) ∷ ns) (names_from-push (suc k) n ms ∙ ap (λ j. names_from (suc k) ms ++ (variable_name n, j) ∷ []) e)

length-push : (n : ℕ) (seen : List ℕ) → length (seen ++ n ∷ []) ≡ suc (length seen)
length-push n [] = refl
length-push n (m ∷ ms) = ap suc (length-push n ms)

-- with one variable more
with_variable_is : (n : ℕ) (seen : List ℕ) → n < 2 ^ 64 → Small seen → with_variable (numbering seen) (variable_name n) ≡ numbering (with_new seen n)
with_variable_is n seen h s = by (list_any (λ m. m == n) seen) (place_of n seen) (lookup_is n 0 seen h s)
  where
    by : (b : Bool) (p : ℕ) → lookup (variable_name n) (names_from 0 seen) ≡ cond b (Some (0 + p)) None → with_variable (numbering seen) (variable_name n) ≡ numbering (cond b seen (seen ++ n ∷ []))
    by true p e = rw (is_named n h, e) refl
    by false p e = rw (is_named n h, e, names_from-push 0 n seen, length-push n seen)
        (let j : length seen ≡ 0 + length seen = omega arith in ap (λ k. record { names = names_from 0 seen ++ (variable_name n, k) ∷ []; next = suc (length seen) }) j)

-- ---- places

same_number : (n : ℕ) → (n == n) ≡ true
same_number n = grind (arith, nat_tests)

place_of-push : (n : ℕ) (seen : List ℕ) → list_any (λ m. m == n) seen ≡ false → place_of n (seen ++ n ∷ []) ≡ length seen
place_of-push n [] e = rw (same_number n) refl
place_of-push n (m ∷ ms) e =
    let parts = or_parts (m == n) (list_any (λ m. m == n) ms) e in
    ap (λ b. cond b 0 (suc (place_of n (ms ++ n ∷ [])))) parts.0 ∙ ap suc (place_of-push n ms parts.1)

-- a number that is seen already keeps its place
record Stays (n : ℕ) (before after : List ℕ) : Type 0 where
  seen : list_any (λ m. m == n) after ≡ true
  place : place_of n after ≡ place_of n before

one_stays : (b c : Bool) (p q : ℕ) → (b || c) ≡ true → (c ≡ true → q ≡ p) → cond b 0 (suc q) ≡ cond b 0 (suc p)
one_stays true c p q e h = refl
one_stays false c p q e h = ap suc (h e)

or_more : (b c e : Bool) → (b || c) ≡ true → (c ≡ true → e ≡ true) → (b || e) ≡ true
or_more true c e h f = refl
or_more false c e h f = f h

stays_pushed : (n m : ℕ) (seen : List ℕ) → list_any (λ m. m == n) seen ≡ true → Stays n seen (seen ++ m ∷ [])
stays_pushed n m [] e = absurd (false≢true e)
stays_pushed n m (k ∷ ks) e = record {
  seen = or_more (k == n) (list_any (λ m. m == n) ks) (list_any (λ m. m == n) (ks ++ m ∷ [])) e (λ f. (stays_pushed n m ks f).seen);
  place = one_stays (k == n) (list_any (λ m. m == n) ks) (place_of n ks) (place_of n (ks ++ m ∷ [])) e (λ f. (stays_pushed n m ks f).place);
}

stays_new : (n m : ℕ) (seen : List ℕ) (b : Bool) → list_any (λ m. m == n) seen ≡ true → Stays n seen (cond b seen (seen ++ m ∷ []))
stays_new n m seen true e = record { seen = e; place = refl }
stays_new n m seen false e = stays_pushed n m seen e

place_of-distinct_after : (n : ℕ) (seen ns : List ℕ) → list_any (λ m. m == n) seen ≡ true → place_of n (distinct_after seen ns) ≡ place_of n seen
place_of-distinct_after n seen [] e = refl
place_of-distinct_after n seen (m ∷ ms) e =
    let s = stays_new n m seen (list_any (λ k. k == m) seen) e in
    place_of-distinct_after n (with_new seen m) ms s.seen ∙ s.place

any-push : (n : ℕ) (seen : List ℕ) → list_any (λ m. m == n) (seen ++ n ∷ []) ≡ true
any-push n [] = rw (same_number n) refl
any-push n (m ∷ ms) = or_right (m == n) (list_any (λ m. m == n) (ms ++ n ∷ [])) (any-push n ms)

new_is_in : (n : ℕ) (seen : List ℕ) (b : Bool) → list_any (λ m. m == n) seen ≡ b → list_any (λ m. m == n) (cond b seen (seen ++ n ∷ [])) ≡ true
new_is_in n seen true e = e
new_is_in n seen false e = any-push n seen

-- the number that a name is given
number_of_is : (n : ℕ) (seen : List ℕ) → n < 2 ^ 64 → Small seen → number_of (numbering seen) (variable_name n) ≡ place_of n (with_new seen n)
number_of_is n seen h s = by (list_any (λ m. m == n) seen) (place_of n seen) refl refl (lookup_is n 0 seen h s)
  where
    by : (b : Bool) (p : ℕ) → list_any (λ m. m == n) seen ≡ b → place_of n seen ≡ p → lookup (variable_name n) (names_from 0 seen) ≡ cond b (Some (0 + p)) None →
        number_of (numbering seen) (variable_name n) ≡ place_of n (cond b seen (seen ++ n ∷ []))
    by true p i j e = rw (is_named n h, e) (let k : 0 + p ≡ p = omega arith in k ∙ sym j)
    by false p i j e = rw (is_named n h, e) (sym (place_of-push n seen i))

small-push : (n : ℕ) (seen : List ℕ) → n < 2 ^ 64 → Small seen → Small (seen ++ n ∷ [])
unfolding Small
small-push n [] h s = (h, tt)
small-push n (m ∷ ms) h s = (s.0, small-push n ms h s.1)

small_new : (n : ℕ) (seen : List ℕ) (b : Bool) → n < 2 ^ 64 → Small seen → Small (cond b seen (seen ++ n ∷ []))
small_new n seen true h s = s
small_new n seen false h s = small-push n seen h s

-- ---- items

abbrev from : List ℕ → List ℕ → ℕ → ℕ
from seen ns v = place_of v (distinct_after seen ns)

mutual
  unfolding lexemes brackets item_variables Small

  threaded_is : (xs : List Item) (seen : List ℕ) (n : ℕ) (d : Bool) → Small seen → Small (item_variables xs) →
      threaded n (numbering seen) d xs ≡ zipped (lexemes (from seen (item_variables xs)) d xs) (brackets n xs)
  threaded_is [] seen n d s h = refl
  threaded_is (variable_item v ∷ xs) seen n d s h =
      let next = with_new seen v in
      let place = number_of_is v seen h.0 s ∙ sym (place_of-distinct_after v next (item_variables xs) (new_is_in v seen (list_any (λ m. m == v) seen) refl)) in
      ap (λ k. (Variable k, n) ∷ threaded n (with_variable (numbering seen) (variable_name v)) true xs) place
      ∙ ap (λ r. (Variable (from next (item_variables xs) v), n) ∷ threaded n r true xs) (with_variable_is v seen h.0 s)
      ∙ ap (λ cs. (Variable (from next (item_variables xs) v), n) ∷ cs) (threaded_is xs next n true (small_new v seen (list_any (λ m. m == v) seen) h.0 s) h.1)
  threaded_is (integer_item (pos k) ∷ xs) seen n d s h = ap (λ cs. (Integer k d, n) ∷ cs) (threaded_is xs seen n true s h)
  threaded_is (integer_item (negsuc k) ∷ xs) seen n d s h =
      ap (λ cs. (Name (word (codes "-")), n) ∷ (Integer (suc k) true, n) ∷ cs) (threaded_is xs seen n true s h)
  threaded_is (name_item f ∷ xs) seen n d s h = ap (λ cs. (Name (word f), cond (is_brackets f) (suc n) n) ∷ cs) (threaded_is xs seen n true s h)
  threaded_is (mark_item k ∷ xs) seen n d s h =
      ap (λ cs. (mark_lexeme d k, cond (is_opening k) (suc n) n) ∷ cs) (threaded_is xs seen (open_behind n (mark_item k)) true s h)
  threaded_is (prefix_item f ∷ xs) seen n d s h = ap (λ cs. (Name (word f), n) ∷ cs) (threaded_is xs seen n false s h)
  threaded_is (infix_item f ∷ xs) seen n d s h = ap (λ cs. (infix_lexeme f, n) ∷ cs) (threaded_is xs seen n (is_tight (infix_item f)) s h)

-- the key of each variable, where nothing stands before these items
abbrev pub keys : List Item → ℕ → ℕ
keys xs v = place_of v (distinct_after [] (item_variables xs))

small_items : (xs : List Item) → AreApart xs → Small (item_variables xs)
unfolding AreApart item_variables Small
small_items [] a = tt
small_items (variable_item n ∷ xs) a = (a.0, small_items xs a.2)
small_items (integer_item z ∷ xs) a = small_items xs a.2
small_items (name_item f ∷ xs) a = small_items xs a.2
small_items (mark_item k ∷ xs) a = small_items xs a.2
small_items (prefix_item f ∷ xs) a = small_items xs a.2
small_items (infix_item f ∷ xs) a = small_items xs a.2

pub threaded_by_keys : (xs : List Item) → AreApart xs → threaded 0 start false xs ≡ zipped (lexemes (keys xs) false xs) (brackets 0 xs)
unfolding Small names_from
threaded_by_keys xs a = threaded_is xs [] 0 false tt (small_items xs a)

-- ---- both parts of them

firsts : (ks : List Lexeme) (ns : List ℕ) → length ks ≡ length ns → map (λ c. c.0) (zipped ks ns) ≡ ks
firsts [] ns e = refl
firsts (k ∷ ks) [] e = absurd (omega arith)
firsts (k ∷ ks) (n ∷ ns) e = ap (λ cs. k ∷ cs) (firsts ks ns (omega arith))

seconds : (ks : List Lexeme) (ns : List ℕ) → length ks ≡ length ns → map (λ c. c.1) (zipped ks ns) ≡ ns
seconds [] [] e = refl
seconds [] (n ∷ ns) e = absurd (omega arith)
seconds (k ∷ ks) [] e = absurd (omega arith)
seconds (k ∷ ks) (n ∷ ns) e = ap (λ cs. n ∷ cs) (seconds ks ns (omega arith))

same_length : (key : ℕ → ℕ) (d : Bool) (n : ℕ) (xs : List Item) → length (lexemes key d xs) ≡ length (brackets n xs)
unfolding lexemes brackets
same_length key d n [] = refl
same_length key d n (variable_item v ∷ xs) = ap suc (same_length key true n xs)
same_length key d n (integer_item (pos k) ∷ xs) = ap suc (same_length key true n xs)
same_length key d n (integer_item (negsuc k) ∷ xs) = ap (λ j. suc (suc j)) (same_length key true n xs)
same_length key d n (name_item f ∷ xs) = ap suc (same_length key true n xs)
same_length key d n (mark_item k ∷ xs) = ap suc (same_length key true (open_behind n (mark_item k)) xs)
same_length key d n (prefix_item f ∷ xs) = ap suc (same_length key false n xs)
same_length key d n (infix_item f ∷ xs) = ap suc (same_length key (is_tight (infix_item f)) n xs)

pub lexemes-zipped : (key : ℕ → ℕ) (d : Bool) (n : ℕ) (xs : List Item) → map (λ c. c.0) (zipped (lexemes key d xs) (brackets n xs)) ≡ lexemes key d xs
lexemes-zipped key d n xs = firsts (lexemes key d xs) (brackets n xs) (same_length key d n xs)

pub brackets-zipped : (key : ℕ → ℕ) (d : Bool) (n : ℕ) (xs : List Item) → map (λ c. c.1) (zipped (lexemes key d xs) (brackets n xs)) ≡ brackets n xs
brackets-zipped key d n xs = seconds (lexemes key d xs) (brackets n xs) (same_length key d n xs)
