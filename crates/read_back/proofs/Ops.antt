-- Facts of the standard's table of operators.
use Rattle.std.specs.Prelude.{◌≡◌, refl, ℕ, Bool, true, false, not, ◌||◌, nat_le, List, [], ◌∷◌, Option, Some, None, cond, codes, bytes_eq}
use Rattle.std.specs.List.{list_all}
use Rattle.std.proofs.Common.{◌⊎◌, inl, inr, ap, ◌∙◌, sym, subst}
use Rattle.std.proofs.lemmas.Bool.{false≢true, and_parts}
use Rattle.std.proofs.lemmas.Option.{same_Some}
use Rattle.std.proofs.lemmas.Slice.Eq.{bytes_eq-Decides}
use Rattle.op_table.specs.declared.op.Op.{Op}
use Rattle.op_table.specs.Table.{Rows, row, iso_prefix, iso_infix, left_of, right_of}
use Rattle.prolog_grammar.specs.declared.grammar.lexeme.Lexeme.TheVariants.{Name, Comma}
use Rattle.prolog_grammar.specs.Readings as g
use Rattle.read_back.proofs.Spelled.{word, infix_lexeme}

pub same_name : (f g : List ℕ) → bytes_eq f g ≡ true → f ≡ g
same_name f g e = (bytes_eq-Decides f g).0 e

abbrev or_none : (Op → Bool) → Option Op → Bool
or_none test None = true
or_none test (Some o) = test o

holds_at : (test : Op → Bool) (f : List ℕ) (o : Op) (rest : Option Op) (b : Bool) → test o ≡ true → or_none test rest ≡ true → or_none test (cond b (Some o) rest) ≡ true
holds_at test f o rest true e h = e
holds_at test f o rest false e h = h

-- what holds of each operator of some rows holds of the one of a name
holds_in : (test : Op → Bool) (f : List ℕ) (rs : Rows) → list_all (λ r. test r.1) rs ≡ true → or_none test (row f rs) ≡ true
holds_in test f [] e = refl
holds_in test f (r ∷ rs) e =
    let p = and_parts (test r.1) (list_all (λ r. test r.1) rs) e in
    holds_at test f r.1 (row f rs) (bytes_eq r.0 f) p.0 (holds_in test f rs p.1)

of_row : (test : Op → Bool) (f : List ℕ) (rs : Rows) (o : Op) → list_all (λ r. test r.1) rs ≡ true → row f rs ≡ Some o → test o ≡ true
of_row test f rs o e is = subst (λ x. or_none test x ≡ true) is (holds_in test f rs e)

all_prefix_small : list_all (λ r. nat_le r.1.priority 1200) iso_prefix ≡ true
unfolding iso_prefix
all_prefix_small = refl

pub prefix_small : (f : List ℕ) (o : Op) → row f iso_prefix ≡ Some o → nat_le o.priority 1200 ≡ true
prefix_small f o e = of_row (λ o. nat_le o.priority 1200) f iso_prefix o all_prefix_small e

all_infix_small : list_all (λ r. nat_le r.1.priority 1200) iso_infix ≡ true
unfolding iso_infix
all_infix_small = refl

pub infix_small : (f : List ℕ) (o : Op) → row f iso_infix ≡ Some o → nat_le o.priority 1200 ≡ true
infix_small f o e = of_row (λ o. nat_le o.priority 1200) f iso_infix o all_infix_small e

-- o is within p as its left operand, or p goes on with o's right operand, but not both
abbrev are_apart : Op → Op → Bool
are_apart o p = not (nat_le o.priority (left_of p)) || not (nat_le p.priority (right_of o))

prefix_apart : list_all (λ r. list_all (λ s. are_apart r.1 s.1) iso_infix) iso_prefix ≡ true
unfolding iso_prefix iso_infix
prefix_apart = refl

infix_apart : list_all (λ r. list_all (λ s. are_apart r.1 s.1) iso_infix) iso_infix ≡ true
unfolding iso_infix
infix_apart = refl

right_of_or : (a b : Bool) → (not a || not b) ≡ true → a ≡ true → b ≡ false
right_of_or true true e h = absurd (false≢true e)
right_of_or true false e h = refl
right_of_or false b e h = absurd (false≢true h)

abbrev pub IsOperator : List ℕ → Op → Type 0
IsOperator f o = (row f iso_prefix ≡ Some o) ⊎ (row f iso_infix ≡ Some o)

beside_all : (f : List ℕ) (o : Op) → IsOperator f o → list_all (λ s. are_apart o s.1) iso_infix ≡ true
beside_all f o (inl e) = of_row (λ o. list_all (λ s. are_apart o s.1) iso_infix) f iso_prefix o prefix_apart e
beside_all f o (inr e) = of_row (λ o. list_all (λ s. are_apart o s.1) iso_infix) f iso_infix o infix_apart e

-- what goes on behind an operand doesn't go on within it
pub apart : (f g : List ℕ) (o p : Op) → IsOperator f o → row g iso_infix ≡ Some p → nat_le o.priority (left_of p) ≡ true → nat_le p.priority (right_of o) ≡ false
apart f g o p is e h =
    right_of_or (nat_le o.priority (left_of p)) (nat_le p.priority (right_of o)) (of_row (are_apart o) g iso_infix p (beside_all f o is) e) h

-- the grammar's operators before their operand, and between two
abbrev pub before_row : g.Bytes → Option Op
before_row f = row f iso_prefix

abbrev pub between_row : g.Bytes → Option Op
between_row f = row f iso_infix

comma_row : between_row (codes ",") ≡ Some g.comma
unfolding iso_infix
comma_row = refl

by_comma : (f : List ℕ) (o : Op) (b : Bool) → bytes_eq f (codes ",") ≡ b → between_row f ≡ Some o →
    g.row before_row between_row (cond b Comma (Name (word f))) ≡ Some (f, o)
by_comma f o true e is =
    let same = same_name f (codes ",") e in
    let one : g.comma ≡ o = same_Some g.comma o (sym comma_row ∙ ap between_row (sym same) ∙ is) in
    rw (same, one) refl
by_comma f o false e is = rw is refl

-- the token of an infix operator is read as its row
pub row-infix_lexeme : (f : List ℕ) (o : Op) → between_row f ≡ Some o → g.row before_row between_row (infix_lexeme f) ≡ Some (f, o)
row-infix_lexeme f o is = by_comma f o (bytes_eq f (codes ",")) refl is
