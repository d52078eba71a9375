-- The variables of a term that is read are numbered from 0 without a gap, by first occurrence.
use Rattle.std.proofs.Common.{◌≡◌, ◌∙◌, ℕ, zero, suc, ◌<◌, ◌≤◌, max, Bool, true, false, ◌||◌, ◌==◌, nat_lt, cond, List, [], ◌∷◌, ◌++◌, map, Option, Some, None, if◌then◌else◌, refl, ap, sym, subst, arith, append_assoc, append-nil}
use Rattle.std.specs.List.{list_any}
use Rattle.std.proofs.lemmas.List.Folds.{list_any-append}
use Rattle.std.specs.Str.{bytes_eq}
use Rattle.std.specs.Prelude.{codes}
use Rattle.term_core.specs.Tokens.{Kind, name_token, quoted_token, variable_token, integer_token, text_token, open_token, close_token, open_list_token, close_list_token, open_curly_token, close_curly_token, comma_token, bar_token, end_token, Token, Value, name_value, variable_value, integer_value, text_value, no_value}
use Rattle.term_core.specs.Tree.{Tree, atom}
use Rattle.term_core.specs.Variables.{occurrences, all_occurrences, with_new, distinct_after, above_all}
use Rattle.op_table.specs.declared.op.Op.{Op}
use Rattle.prolog_grammar.specs.declared.grammar.lexeme.Lexeme.{Lexeme}
use Rattle.prolog_grammar.specs.declared.grammar.lexeme.Lexeme.TheVariants.{Name, Integer, Variable, Text, Open, Close, OpenList, CloseList, OpenCurly, CloseCurly, Comma, Bar}
use Rattle.prolog_grammar.specs.Readings.{Bytes, Reading, Unknown, Digits, Negative, Letters, Plain, Call, Round, Curly, Listed, Partial, Before, Between, Readings, one, and, yield, elements, letters, meaning, meanings, cells, IsReading}
use Rattle.prolog_grammar.specs.Readings as g
use Rattle.prolog_grammar.proofs.Complete.{none_some}
use Rattle.op_table.specs.Table.{Table}
use Rattle.prolog_read.specs.Variables.{Names, Numbering, lookup, number_of, with_variable, numbers_below, IsNumbered}
use Rattle.prolog_read.specs.Variables as v
use Rattle.prolog_read.specs.Lexemes as spec
use Rattle.prolog_read.specs.Lexemes.{nothing_before, placed, single, pair, behind, behind_pair, is_pair, value_at, lexeme, mark, lexemes, variables_behind}
use Rattle.prolog_read.specs.Reads.{prefix_of, infix_of, IsTermOf}
use Rattle.prolog_read.proofs.Indexing.{lookup-push}

-- ---- the variables of lexemes, and of a reading

number : Lexeme → List ℕ → List ℕ
number (Variable n) ns = n ∷ ns
number _ ns = ns

numbers : List Lexeme → List ℕ
numbers [] = []
numbers (k ∷ ks) = number k (numbers ks)

no_letters : (cs : List ℕ) → occurrences (letters cs) ≡ []
no_letters [] = refl
no_letters (c ∷ cs) = append-nil _ ∙ no_letters cs

occurrences_cells : (rs : Readings) (tail : Tree) → occurrences (cells rs tail) ≡ all_occurrences (meanings rs) ++ occurrences tail
unfolding meaning
occurrences_cells (one r) tail = rw (append-nil (occurrences tail), append-nil (occurrences (meaning r))) refl
occurrences_cells (and r rs) tail = rw (append-nil (occurrences (cells rs tail)), occurrences_cells rs tail) (sym (append_assoc (occurrences (meaning r)) (all_occurrences (meanings rs)) (occurrences tail)))

module _ (prefix infix_op : Bytes → Option Op) where
  -- an infix operator's token is no variable
  row_number : (k : Lexeme) (x : Bytes × Op) → g.row prefix infix_op k ≡ Some x → (ns : List ℕ) → number k ns ≡ ns
  unfolding number
  row_number (Name w) x h ns = refl
  row_number Comma x h ns = refl
  row_number (Variable v) x h ns = absurd (none_some _ refl h)
  row_number (Integer n d) x h ns = refl
  row_number (Text cs) x h ns = refl
  row_number (Open d) x h ns = refl
  row_number Close x h ns = refl
  row_number OpenList x h ns = refl
  row_number CloseList x h ns = refl
  row_number OpenCurly x h ns = refl
  row_number CloseCurly x h ns = refl
  row_number Bar x h ns = refl

  mutual
    unfolding yield meaning g.Fits number numbers

    numbers_yield : (r : Reading) (ks : List Lexeme) → g.Fits prefix infix_op r → numbers (yield r ks) ≡ occurrences (meaning r) ++ numbers ks
    numbers_yield (Unknown v) ks h = refl
    numbers_yield (Digits n d) ks h = refl
    numbers_yield (Negative w n) ks h = refl
    numbers_yield (Letters cs) ks h = ap (λ ns. ns ++ numbers ks) (sym (no_letters cs))
    numbers_yield (Plain w) ks h = refl
    numbers_yield (Call w rs) ks h = numbers_elements rs (Close ∷ ks) h
    numbers_yield (Round d r) ks h = numbers_yield r (Close ∷ ks) h.0
    numbers_yield (Curly r) ks h = numbers_yield r (CloseCurly ∷ ks) h.0 ∙ ap (λ ns. ns ++ numbers ks) (sym (append-nil (occurrences (meaning r))))
    numbers_yield (Listed rs) ks h = numbers_elements rs (CloseList ∷ ks) h ∙ ap (λ ns. ns ++ numbers ks) (sym (occurrences_cells rs (atom g.nil) ∙ append-nil _))
    numbers_yield (Partial rs r) ks h =
        numbers_elements rs (Bar ∷ yield r (CloseList ∷ ks)) h.0
        ∙ ap (λ ns. all_occurrences (meanings rs) ++ ns) (numbers_yield r (CloseList ∷ ks) h.1)
        ∙ sym (append_assoc (all_occurrences (meanings rs)) (occurrences (meaning r)) (numbers ks))
        ∙ ap (λ ns. ns ++ numbers ks) (sym (occurrences_cells rs (meaning r)))
    numbers_yield (Before w o r) ks h = numbers_yield r ks h.0 ∙ ap (λ ns. ns ++ numbers ks) (sym (append-nil (occurrences (meaning r))))
    numbers_yield (Between l k f o r) ks h =
        numbers_yield l (k ∷ yield r ks) h.0
        ∙ ap (λ ns. occurrences (meaning l) ++ ns) (row_number k (f, o) h.2 _ ∙ numbers_yield r ks h.1)
        ∙ sym (append_assoc (occurrences (meaning l)) (occurrences (meaning r)) (numbers ks))
        ∙ ap (λ ns. (occurrences (meaning l) ++ ns) ++ numbers ks) (sym (append-nil (occurrences (meaning r))))

    numbers_elements : (rs : Readings) (ks : List Lexeme) → g.FitAll prefix infix_op rs → numbers (elements rs ks) ≡ all_occurrences (meanings rs) ++ numbers ks
    numbers_elements (one r) ks h = numbers_yield r ks h.0 ∙ ap (λ ns. ns ++ numbers ks) (sym (append-nil (occurrences (meaning r))))
    numbers_elements (and r rs) ks h =
        numbers_yield r (Comma ∷ elements rs ks) h.0
        ∙ ap (λ ns. occurrences (meaning r) ++ ns) (numbers_elements rs ks h.2)
        ∙ sym (append_assoc (occurrences (meaning r)) (all_occurrences (meanings rs)) (numbers ks))

-- ---- numbers that go up by one at a time

-- each is at most the next new one
Steps : ℕ → List ℕ → Type 0
Steps m [] = Unit {0}
Steps m (n ∷ ns) = (n ≤ m) × Steps (max m (suc n)) ns

-- the next new one behind them
last : ℕ → List ℕ → ℕ
last m [] = m
last m (n ∷ ns) = last (max m (suc n)) ns

none_below : (n : ℕ) → false ≡ nat_lt n 0
none_below n = grind arith

below_or : (n m : ℕ) → (nat_lt n m || ((m == n) || false)) ≡ nat_lt n (suc m)
below_or n m = grind arith

is_below : (n m : ℕ) → list_any (λ j. j == n) (numbers_below m) ≡ nat_lt n m
is_below n zero = none_below n
is_below n (suc m) = list_any-append (λ j. j == n) (numbers_below m) (m ∷ []) ∙ ap (λ b. b || ((m == n) || false)) (is_below n m) ∙ below_or n m

one_more : (m n : ℕ) → n ≤ m → with_new (numbers_below m) n ≡ numbers_below (max m (suc n))
one_more m n h = ap (λ b. cond b (numbers_below m) (numbers_below m ++ n ∷ [])) (is_below n m) ∙ by (nat_lt n m) refl
  where
    by : (b : Bool) → nat_lt n m ≡ b → cond b (numbers_below m) (numbers_below m ++ n ∷ []) ≡ numbers_below (max m (suc n))
    by true e = let same : max m (suc n) ≡ m = grind (arith, e) in rw same refl
    by false e =
        let at : n ≡ m = grind (arith, e, h) in
        let same : max m (suc n) ≡ suc m = omega (arith, at) in
        rw (same, at) refl

distinct_steps : (m : ℕ) (ns : List ℕ) → Steps m ns → distinct_after (numbers_below m) ns ≡ numbers_below (last m ns)
unfolding Steps last
distinct_steps m [] h = refl
distinct_steps m (n ∷ ns) h = ap (λ seen. distinct_after seen ns) (one_more m n h.0) ∙ distinct_steps (max m (suc n)) ns h.1

above_steps : (m : ℕ) (ns : List ℕ) → max m (above_all ns) ≡ last m ns
unfolding last
above_steps m [] = omega arith
above_steps m (n ∷ ns) =
    let same : max m (max (suc n) (above_all ns)) ≡ max (max m (suc n)) (above_all ns) = omega arith in
    same ∙ above_steps (max m (suc n)) ns

-- ---- the variables of a term's tokens

-- each name's number is below the next new one
unfoldable pub Below : Option ℕ → ℕ → Type 0
Below None m = Unit {0}
Below (Some n) m = n < m

abbrev pub AreBelow : Numbering → Type 0
AreBelow s = (w : List ℕ) → Below (lookup w s.names) s.next

-- one variable's number, and the numbering behind it
pub record Numbers (s : Numbering) (w : List ℕ) : Type 0 where
  pub most : number_of s w ≤ s.next
  pub next : (with_variable s w).next ≡ max s.next (suc (number_of s w))
  pub below : AreBelow (with_variable s w)

more_below : (o : Option ℕ) (m k : ℕ) → Below o m → m ≤ k → Below o k
unfolding Below
more_below None m k h l = tt
more_below (Some n) m k h l = omega (arith, h, l)

self : (m : ℕ) → m ≤ m
self m = omega arith

grown : (m : ℕ) → suc m ≡ max m (suc m)
grown m = omega arith

kept : (m n : ℕ) → n < m → m ≡ max m (suc n)
kept m n h = omega (arith, h)

pub numbered : (s : Numbering) (w : List ℕ) → AreBelow s → Numbers s w
unfolding Below
numbered s w h = by (bytes_eq w (codes "_")) refl
  where
    pushed : (v : List ℕ) (b : Bool) → Below (cond b (Some s.next) (lookup v s.names)) (suc s.next)
    pushed v true = omega arith
    pushed v false = more_below (lookup v s.names) s.next (suc s.next) (h v) (omega arith)

    named : bytes_eq w (codes "_") ≡ false → (o : Option ℕ) → lookup w s.names ≡ o → Numbers s w
    named u None e = record {
      most = rw (u, e) (self s.next);
      next = rw (u, e) (grown s.next);
      below = rw (u, e) (λ v. subst (λ o. Below o (suc s.next)) (sym (lookup-push v w s.next s.names e)) (pushed v (bytes_eq w v)));
    }
    named u (Some n) e =
        let b : n < s.next = subst (λ o. Below o s.next) e (h w) in
        let l : n ≤ s.next = omega (arith, b) in
        record { most = rw (u, e) l; next = rw (u, e) (kept s.next n b); below = rw (u, e) h }

    by : (b : Bool) → bytes_eq w (codes "_") ≡ b → Numbers s w
    by true u = record {
      most = rw u (self s.next);
      next = rw u (grown s.next);
      below = rw u (λ v. more_below (lookup v s.names) s.next (suc s.next) (h v) (omega arith));
    }
    by false u = named u (lookup w s.names) refl

-- punctuation is no variable
mark_number : (k : Kind) (d : Bool) (ns : List ℕ) → number (mark k d) ns ≡ ns
unfolding number
mark_number name_token d ns = refl
mark_number quoted_token d ns = refl
mark_number variable_token d ns = refl
mark_number integer_token d ns = refl
mark_number text_token d ns = refl
mark_number open_token d ns = refl
mark_number close_token d ns = refl
mark_number open_list_token d ns = refl
mark_number close_list_token d ns = refl
mark_number open_curly_token d ns = refl
mark_number close_curly_token d ns = refl
mark_number comma_token d ns = refl
mark_number bar_token d ns = refl
mark_number end_token d ns = refl

lexeme_steps : (k : Kind) (v : Value) (d : Bool) (s : Numbering) (ks : List Lexeme) → AreBelow s → (AreBelow (variables_behind v s) → Steps (variables_behind v s).next (numbers ks)) → Steps s.next (numbers (lexeme k v d s ∷ ks))
unfolding Steps numbers number
lexeme_steps k (name_value f) d s ks h rest = rest h
lexeme_steps k (variable_value w) d s ks h rest = let one = numbered s w h in (one.most, subst (λ m. Steps m (numbers ks)) one.next (rest one.below))
lexeme_steps k (integer_value n) d s ks h rest = rest h
lexeme_steps k (text_value cs) d s ks h rest = rest h
lexeme_steps k no_value d s ks h rest = subst (Steps s.next) (sym (mark_number k d (numbers ks))) (rest h)

placed_steps : (text : Bytes) (b : spec.Before) (ts : List Token) → AreBelow b.variables → Steps b.variables.next (numbers (map (λ p. p.lexeme) (placed text b ts)))
unfolding placed Steps numbers number
placed_steps text b [] h = tt
placed_steps text b (t ∷ []) h = lexeme_steps t.kind (value_at text t) _ b.variables [] h (λ _. tt)
placed_steps text b (t ∷ u ∷ ts) h =
    by (is_pair t.kind u.kind) (placed_steps text (behind_pair b u) ts h)
    (lexeme_steps t.kind (value_at text t) _ b.variables (map (λ p. p.lexeme) (placed text (behind text b t) (u ∷ ts))) h (placed_steps text (behind text b t) (u ∷ ts)))
  where
    by : (c : Bool) → Steps b.variables.next (numbers (map (λ p. p.lexeme) (pair b t ∷ placed text (behind_pair b u) ts))) → Steps b.variables.next (numbers (map (λ p. p.lexeme) (single text b t ∷ placed text (behind text b t) (u ∷ ts)))) →
        Steps b.variables.next (numbers (map (λ p. p.lexeme) (if c then pair b t ∷ placed text (behind_pair b u) ts else single text b t ∷ placed text (behind text b t) (u ∷ ts))))
    by true f g = f
    by false f g = g

none_below_start : AreBelow v.start
unfolding Below
none_below_start w = tt

pub term_numbered : (ops : Table) (text : Bytes) (ts : List Token) (t : Tree) (names : Names) → IsTermOf ops text ts t names → IsNumbered t
unfolding numbers
term_numbered ops text ts t names h =
    let r = h.reading in
    let seen : numbers (lexemes text ts) ≡ occurrences t =
    ap numbers (sym h.is_reading.tokens) ∙ numbers_yield (prefix_of ops) (infix_of ops) r [] h.is_reading.fits ∙ append-nil (occurrences (meaning r)) ∙ ap occurrences (sym h.means) in
    let steps = subst (Steps 0) seen (placed_steps text nothing_before ts none_below_start) in
    let first : above_all (occurrences t) ≡ max 0 (above_all (occurrences t)) = omega arith in
    distinct_steps 0 (occurrences t) steps ∙ ap numbers_below (sym (first ∙ above_steps 0 (occurrences t)))
