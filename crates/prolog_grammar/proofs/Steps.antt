-- The stack of frames as a vector, whose last is the innermost, and a turn of the loop behind an operand.
use Rattle.std.specs.Prelude.{◌≡◌, refl, ℕ, true, false, nat_le, Result, Ok, Err, IfOk, ◌-◌, List, [], ◌∷◌, ◌++◌, length, reverse, slice_get, Option, Some, None, ◌⊎◌}
use Rattle.std.proofs.Common.{ap, ◌∙◌, arith, inl, inr, length-append}
use Rattle.std.proofs.lemmas.List.{reverse-append}
use Rattle.std.proofs.lemmas.Option.{slice_get-get_or}
use Rattle.std.proofs.Math.Seq.{get_or-append_seam}
use Rattle.term_core.specs.declared.node.Node.{Node}
use Rattle.op_table.specs.declared.op.Op.{Op}
use Rattle.prolog_grammar.specs.Stack.{most, most_at, behind, chosen, going_on, at_bottom, named, joined, infix_row, stands_alone, begins}
use Rattle.prolog_grammar.specs.Readings.{Bytes, joins}
use Rattle.prolog_grammar.specs.declared.grammar.frame.Frame.{Frame}
use Rattle.prolog_grammar.specs.declared.grammar.frame.Frame.TheVariants.{Prefix}
use Rattle.prolog_grammar.specs.declared.grammar.frame.Now.TheVariants.{Stuck}
use Rattle.term_core.specs.declared.node.Node.TheVariants.{Atom}
use Rattle.prolog_grammar.specs.declared.grammar.lexeme.Word.{Word}
use Rattle.prolog_grammar.specs.declared.grammar.lexeme.Lexeme.{Lexeme}

pub reverse_last : {A : Type 0} (xs : List A) (x : A) → reverse (xs ++ x ∷ []) ≡ x ∷ reverse xs
reverse_last xs x = reverse-append xs (x ∷ [])

-- frames are none, or have a last one
last_of : (xs : List Frame) → (xs ≡ []) ⊎ ((init : List Frame) × (x : Frame) × (xs ≡ init ++ x ∷ []))
last_of [] = inl refl
last_of (x ∷ xs) = by (last_of xs)
  where
    by : (xs ≡ []) ⊎ ((init : List Frame) × (y : Frame) × (xs ≡ init ++ y ∷ [])) → (x ∷ xs ≡ []) ⊎ ((init : List Frame) × (y : Frame) × (x ∷ xs ≡ init ++ y ∷ []))
    by (inl e) = inr ([], x, ap (λ l. x ∷ l) e)
    by (inr h) = inr (x ∷ h.0, h.1, ap (λ l. x ∷ l) h.2)

last_item : {A : Type 0} (init : List A) (x : A) → slice_get (init ++ x ∷ []) (length (init ++ x ∷ []) - 1) ≡ Some x
last_item init x =
    let here : length (init ++ x ∷ []) - 1 ≡ length init = omega (arith, length-append init (x ∷ [])) in
    ap (slice_get (init ++ x ∷ [])) here ∙ slice_get-get_or (init ++ x ∷ []) (length init) x (omega (arith, length-append init (x ∷ []))) ∙ ap Some (get_or-append_seam init x [] x)

most_or : Option Frame → ℕ
most_or None = 1200
most_or (Some x) = most_at x

most_from : (xs : List Frame) → most_or (slice_get xs (length xs - 1)) ≡ most (reverse xs)
unfolding most_or
most_from xs = by (last_of xs)
  where
    by : (xs ≡ []) ⊎ ((init : List Frame) × (x : Frame) × (xs ≡ init ++ x ∷ [])) → most_or (slice_get xs (length xs - 1)) ≡ most (reverse xs)
    by (inl e) = rw e refl
    by (inr h) = rw (h.2, last_item h.0 h.1, reverse_last h.0 h.1) refl

pub most_some : (xs : List Frame) (x : Frame) → Some x ≡ slice_get xs (length xs - 1) → most_at x ≡ most (reverse xs)
unfolding most_or
most_some xs x e = ap most_or e ∙ most_from xs

pub most_none : (xs : List Frame) → None ≡ slice_get xs (length xs - 1) → 1200 ≡ most (reverse xs)
unfolding most_or
most_none xs e = ap most_or e ∙ most_from xs

-- the innermost frame was x, and the test on it gave y
pub turn : (k : Lexeme) (row : Option Op) (ys xs : List Frame) (x : Frame) (out : List Node) (p : ℕ) (y : Option Op) → ys ≡ xs ++ x ∷ [] → y ≡ going_on (most_at x) p row →
    chosen y k x (reverse xs) out (λ n q. behind k row (reverse xs) (out ++ n ∷ []) q) ≡ behind k row (reverse ys) out p
unfolding behind
turn k row ys xs x out p y e g = rw (e, reverse_last xs x, g) refl

pub bottom : (k : Lexeme) (row : Option Op) (ys : List Frame) (out : List Node) (p : ℕ) (y : Option Op) → ys ≡ [] → y ≡ going_on 1200 p row → at_bottom y k out ≡ behind k row (reverse ys) out p
unfolding behind
bottom k row ys out p y e g = rw (e, g) refl

-- what a call gave, told otherwise
pub if_ok : {A E : Type 0} {P Q : A → Type 0} (r : Result A E) → ((a : A) → P a → Q a) → IfOk r P → IfOk r Q
if_ok (Ok a) f h = f a h
if_ok (Err e) f h = tt

-- ---- behind a name

module _ (prefix infix_op : Bytes → Option Op) (k : Lexeme) (w : Word) (st : List Frame) (out : List Node) where
  pub named_joined : joins w k ≡ true → joined k w st out ≡ named prefix infix_op k w st out
  unfolding named
  named_joined e = rw e refl

  pub named_alone : joins w k ≡ false → stands_alone prefix infix_op w.text k ≡ true → behind k (infix_row prefix infix_op k) st (out ++ Atom w.text ∷ []) 0 ≡ named prefix infix_op k w st out
  unfolding named
  named_alone e g = rw (e, g) refl

  pub named_none : joins w k ≡ false → stands_alone prefix infix_op w.text k ≡ false → prefix w.text ≡ None → (Stuck, st, out) ≡ named prefix infix_op k w st out
  unfolding named
  named_none e g h = rw (e, g, h) refl

  pub named_high : (o : Op) → joins w k ≡ false → stands_alone prefix infix_op w.text k ≡ false → prefix w.text ≡ Some o → nat_le o.priority (most st) ≡ false → (Stuck, st, out) ≡ named prefix infix_op k w st out
  unfolding named
  named_high o e g h i = rw (e, g, h, i) refl

  pub named_prefix : (o : Op) → joins w k ≡ false → stands_alone prefix infix_op w.text k ≡ false → prefix w.text ≡ Some o → nat_le o.priority (most st) ≡ true → begins k (Prefix w.text o ∷ st) out ≡ named prefix infix_op k w st out
  unfolding named
  named_prefix o e g h i = rw (e, g, h, i) refl
