-- Names compare by the bytes of their UTF-8 as they do by their characters.
use Rattle.std.proofs.Common.{◌≡◌, ℕ, ◌+◌, ◌/◌, ◌%◌, ◌<◌, ◌≤◌, ◌⊎◌, inl, inr, Bool, true, false, cond, List, [], ◌∷◌, ◌++◌, refl, ap, ◌∙◌, sym, arith}
use Rattle.std.specs.Char.{encode_utf8}
use Rattle.std.specs.Str.{encode_utf8_all}
use Rattle.std.specs.Prelude.{nat_lt}
use Rattle.std.specs.declared.cmp.Ordering.{Ordering}
use Rattle.std.specs.declared.cmp.Ordering.TheVariants.{Less, Equal, Greater}
use Rattle.std.specs.Ordering.{nat_cmp, ordering_then}
use Rattle.std.specs.Cmp.Lexicographic.{slice_cmp}
use Rattle.std.proofs.lemmas.Bool.Decides.{nat_tests}
use Rattle.term_core.specs.Order.{name_cmp}

less : (m n : ℕ) → m < n → nat_cmp m n ≡ Less
less m n h = grind (arith, nat_tests)

greater : (m n : ℕ) → n < m → nat_cmp m n ≡ Greater
greater m n h = grind (arith, nat_tests)

same : (m n : ℕ) → m ≡ n → nat_cmp m n ≡ Equal
same m n e = grind (arith, nat_tests)

both_less : (a b c d : ℕ) (o p : Ordering) → a < b → c < d → ordering_then (nat_cmp a b) o ≡ ordering_then (nat_cmp c d) p
both_less a b c d o p h g = rw (less a b h, less c d g) refl

both_greater : (a b c d : ℕ) (o p : Ordering) → b < a → d < c → ordering_then (nat_cmp a b) o ≡ ordering_then (nat_cmp c d) p
both_greater a b c d o p h g = rw (greater a b h, greater c d g) refl

both_same : (a b c d : ℕ) (o p : Ordering) → a ≡ b → c ≡ d → o ≡ p → ordering_then (nat_cmp a b) o ≡ ordering_then (nat_cmp c d) p
both_same a b c d o p h g e = rw (same a b h, same c d g) e

three_ways : (m n : ℕ) → (m < n) ⊎ ((m ≡ n) ⊎ (n < m))
three_ways m n = by (nat_lt m n) (nat_lt n m) refl refl
  where
    by : (a b : Bool) → nat_lt m n ≡ a → nat_lt n m ≡ b → (m < n) ⊎ ((m ≡ n) ⊎ (n < m))
    by true b e f = inl (grind (arith, nat_tests))
    by false true e f = inr (inr (grind (arith, nat_tests)))
    by false false e f = inr (inl (grind (arith, nat_tests)))

-- the part above a number's last six bits, and then these
digit : (j k c d : ℕ) (o : Ordering) → ordering_then (nat_cmp (j + c / 64) (j + d / 64)) (ordering_then (nat_cmp (k + c % 64) (k + d % 64)) o) ≡ ordering_then (nat_cmp c d) o
digit j k c d o =
    elim (three_ways (c / 64) (d / 64)) [
      | inl h ↦ both_less (j + c / 64) (j + d / 64) c d _ o (omega arith) (omega arith)
      | inr (inr h) ↦ both_greater (j + c / 64) (j + d / 64) c d _ o (omega arith) (omega arith)
      | inr (inl h) ↦ ap (λ x. ordering_then x (ordering_then (nat_cmp (k + c % 64) (k + d % 64)) o)) (same (j + c / 64) (j + d / 64) (omega arith)) ∙ elim (three_ways (c % 64) (d % 64)) as (λ _. ordering_then (nat_cmp (k + c % 64) (k + d % 64)) o ≡ ordering_then (nat_cmp c d) o) [
        | inl g ↦ both_less (k + c % 64) (k + d % 64) c d o o (omega arith) (omega arith)
        | inr (inr g) ↦ both_greater (k + c % 64) (k + d % 64) c d o o (omega arith) (omega arith)
        | inr (inl g) ↦ both_same (k + c % 64) (k + d % 64) c d o o (omega arith) (omega arith) refl
      ]
    ]

shift : (k a b : ℕ) → nat_cmp (k + a) (k + b) ≡ nat_cmp a b
shift k a b = grind (arith, nat_tests)

last_digit : (k c d : ℕ) (o : Ordering) → ordering_then (nat_cmp (c / 64) (d / 64)) (ordering_then (nat_cmp (k + c % 64) (k + d % 64)) o) ≡ ordering_then (nat_cmp c d) o
last_digit k c d o =
    ap (λ x. ordering_then x (ordering_then (nat_cmp (k + c % 64) (k + d % 64)) o)) (sym (shift 0 (c / 64) (d / 64))) ∙ digit 0 k c d o

twice : (c : ℕ) → c / 4096 ≡ c / 64 / 64
twice c = omega arith

thrice : (c : ℕ) → c / 262144 ≡ c / 64 / 64 / 64
thrice c = omega arith

below : (c k : ℕ) → nat_lt c k ≡ true → c < k
below c k e = grind (arith, nat_tests)

above : (c k : ℕ) → nat_lt c k ≡ false → k ≤ c
above c k e = grind (arith, nat_tests)

-- the bytes of one character, by how many it takes
abbrev bytes : Bool → Bool → Bool → ℕ → List ℕ
bytes x y z c = cond x (c ∷ []) (cond y ((192 + c / 64) ∷ (128 + c % 64) ∷ []) (cond z ((224 + c / 4096) ∷ (128 + c / 64 % 64) ∷ (128 + c % 64) ∷ []) ((240 + c / 262144) ∷ (128 + c / 4096 % 64) ∷ (128 + c / 64 % 64) ∷ (128 + c % 64) ∷ [])))

three_bytes : (c d : ℕ) (o : Ordering) → ordering_then (nat_cmp (224 + c / 4096) (224 + d / 4096)) (ordering_then (nat_cmp (128 + c / 64 % 64) (128 + d / 64 % 64)) (ordering_then (nat_cmp (128 + c % 64) (128 + d % 64)) o)) ≡ ordering_then (nat_cmp c d) o
three_bytes c d o = rw (twice c, twice d) (digit 224 128 (c / 64) (d / 64) _ ∙ last_digit 128 c d o)

four_bytes : (c d : ℕ) (o : Ordering) → ordering_then (nat_cmp (240 + c / 262144) (240 + d / 262144)) (ordering_then (nat_cmp (128 + c / 4096 % 64) (128 + d / 4096 % 64)) (ordering_then (nat_cmp (128 + c / 64 % 64) (128 + d / 64 % 64)) (ordering_then (nat_cmp (128 + c % 64) (128 + d % 64)) o))) ≡ ordering_then (nat_cmp c d) o
four_bytes c d o =
    rw (thrice c, thrice d, twice c, twice d)
    (digit 240 128 (c / 64 / 64) (d / 64 / 64) _ ∙ last_digit 128 (c / 64) (d / 64) _ ∙ last_digit 128 c d o)

module _ (c d : ℕ) (p q : List ℕ) where
  one_character : (x y z u v w : Bool) → nat_lt c 128 ≡ x → nat_lt c 2048 ≡ y → nat_lt c 65536 ≡ z → nat_lt d 128 ≡ u → nat_lt d 2048 ≡ v → nat_lt d 65536 ≡ w
      → slice_cmp nat_cmp (bytes x y z c ++ p) (bytes u v w d ++ q) ≡ ordering_then (nat_cmp c d) (slice_cmp nat_cmp p q)
  one_character true y z true v w e f g h i j = refl
  one_character true y z false true w e f g h i j =
      let l = below c 128 e in
      let m = above d 128 h in
      both_less c (192 + d / 64) c d _ _ (omega arith) (omega arith)
  one_character true y z false false true e f g h i j =
      let l = below c 128 e in
      let m = above d 128 h in
      both_less c (224 + d / 4096) c d _ _ (omega arith) (omega arith)
  one_character true y z false false false e f g h i j =
      let l = below c 128 e in
      let m = above d 128 h in
      both_less c (240 + d / 262144) c d _ _ (omega arith) (omega arith)
  one_character false true z true v w e f g h i j =
      let l = above c 128 e in
      let m = below d 128 h in
      both_greater (192 + c / 64) d c d _ _ (omega arith) (omega arith)
  one_character false true z false true w e f g h i j = digit 192 128 c d _
  one_character false true z false false true e f g h i j =
      let l = below c 2048 f in
      let m = above d 2048 i in
      both_less (192 + c / 64) (224 + d / 4096) c d _ _ (omega arith) (omega arith)
  one_character false true z false false false e f g h i j =
      let l = below c 2048 f in
      let m = above d 2048 i in
      both_less (192 + c / 64) (240 + d / 262144) c d _ _ (omega arith) (omega arith)
  one_character false false true true v w e f g h i j =
      let l = above c 128 e in
      let m = below d 128 h in
      both_greater (224 + c / 4096) d c d _ _ (omega arith) (omega arith)
  one_character false false true false true w e f g h i j =
      let l = above c 2048 f in
      let m = below d 2048 i in
      both_greater (224 + c / 4096) (192 + d / 64) c d _ _ (omega arith) (omega arith)
  one_character false false true false false true e f g h i j = three_bytes c d _
  one_character false false true false false false e f g h i j =
      let l = below c 65536 g in
      let m = above d 65536 j in
      both_less (224 + c / 4096) (240 + d / 262144) c d _ _ (omega arith) (omega arith)
  one_character false false false true v w e f g h i j =
      let l = above c 128 e in
      let m = below d 128 h in
      both_greater (240 + c / 262144) d c d _ _ (omega arith) (omega arith)
  one_character false false false false true w e f g h i j =
      let l = above c 2048 f in
      let m = below d 2048 i in
      both_greater (240 + c / 262144) (192 + d / 64) c d _ _ (omega arith) (omega arith)
  one_character false false false false false true e f g h i j =
      let l = above c 65536 g in
      let m = below d 65536 j in
      both_greater (240 + c / 262144) (224 + d / 4096) c d _ _ (omega arith) (omega arith)
  one_character false false false false false false e f g h i j = four_bytes c d _

  character_first : slice_cmp nat_cmp (encode_utf8 c ++ p) (encode_utf8 d ++ q) ≡ ordering_then (nat_cmp c d) (slice_cmp nat_cmp p q)
  unfolding encode_utf8
  character_first =
      one_character (nat_lt c 128) (nat_lt c 2048) (nat_lt c 65536) (nat_lt d 128) (nat_lt d 2048) (nat_lt d 65536) refl refl refl refl refl refl

some_bytes : (x y z : Bool) (c : ℕ) (p : List ℕ) → (slice_cmp nat_cmp [] (bytes x y z c ++ p) ≡ Less) × (slice_cmp nat_cmp (bytes x y z c ++ p) [] ≡ Greater)
some_bytes true y z c p = (refl, refl)
some_bytes false true z c p = (refl, refl)
some_bytes false false true c p = (refl, refl)
some_bytes false false false c p = (refl, refl)

some_character : (c : ℕ) (p : List ℕ) → (slice_cmp nat_cmp [] (encode_utf8 c ++ p) ≡ Less) × (slice_cmp nat_cmp (encode_utf8 c ++ p) [] ≡ Greater)
unfolding encode_utf8
some_character c p = some_bytes (nat_lt c 128) (nat_lt c 2048) (nat_lt c 65536) c p

-- the order of two names is that of their characters' numbers, the first that differs deciding
pub name_cmp_by_characters : (cs ds : List ℕ) → name_cmp (encode_utf8_all cs) (encode_utf8_all ds) ≡ slice_cmp nat_cmp cs ds
name_cmp_by_characters [] [] = refl
name_cmp_by_characters [] (d ∷ ds) = (some_character d (encode_utf8_all ds)).0
name_cmp_by_characters (c ∷ cs) [] = (some_character c (encode_utf8_all cs)).1
name_cmp_by_characters (c ∷ cs) (d ∷ ds) =
    character_first c d (encode_utf8_all cs) (encode_utf8_all ds) ∙ ap (ordering_then (nat_cmp c d)) (name_cmp_by_characters cs ds)
