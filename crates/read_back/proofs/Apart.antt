-- The items of a term side by side: names are text, operators are in the table, and no two operands meet.
use Rattle.std.specs.Prelude.{◌≡◌, refl, ℕ, ◌<◌, ◌^◌, Bool, true, false, not, cond, ◌&&◌, nat_lt, List, [], ◌∷◌, Option, Some, is_some, codes, bytes_eq, ⊤}
use Rattle.std.specs.Str.{IsUtf8}
use Rattle.std.proofs.lemmas.Bool.{false≢true}
use Rattle.term_core.specs.Tree.{Tree, variable, integer, atom, compound, Trees, no_trees, tree, arity}
use Rattle.op_table.specs.declared.op.Op.{Op}
use Rattle.op_table.specs.Table.{row, iso_prefix, iso_infix, left_of, right_of}
use Rattle.prolog_write.specs.declared.mode.Mode.{Mode}
use Rattle.prolog_write.specs.declared.place.Place.{Place}
use Rattle.prolog_write.specs.declared.place.Place.TheVariants.{Whole, Argument, Operand}
use Rattle.prolog_write.specs.declared.form.Form.{Form}
use Rattle.prolog_write.specs.declared.form.Form.TheVariants.{Curly, Cell, Prefix, Infix, Call}
use Rattle.prolog_write.specs.Text.{form, is_operand, is_operator, most}
use Rattle.read_back.specs.Sound.{IsSized, HasValues, HaveValues}
use Rattle.read_back.proofs.Spelled.{Mark, is_opening, Item, variable_item, integer_item, name_item, mark_item, prefix_item, infix_item, open_round, close_round, open_square, close_square, open_curly, close_curly, comma, bar, goes_on, is_close_square, is_close_curly, FollowedBy, AreApart}
use Rattle.read_back.proofs.TermLayout.{Layout, unknown, number, plain, call, round, curly, listed, partial, before, between, Layouts, one, and, in_brackets, with_element, layout, by_form, arguments, items, all_items}
use Rattle.read_back.proofs.Forms.{IsForm, IsForm-form}

-- ---- layouts of text and of operators

unfoldable mutual
  pub Sound : Layout → Type 0
  Sound (unknown n) = n < 2 ^ 64
  Sound (number z) = IsSized z
  Sound (plain f) = IsUtf8 f
  Sound (call f ls) = IsUtf8 f × AllSound ls
  Sound (round l) = Sound l
  Sound (curly l) = Sound l
  Sound (listed ls) = AllSound ls
  Sound (partial ls l) = AllSound ls × Sound l
  Sound (before f o l) = (is_some (row f iso_prefix) ≡ true) × Sound l
  Sound (between l f o r) = Sound l × (is_some (row f iso_infix) ≡ true) × Sound r

  pub AllSound : Layouts → Type 0
  AllSound (one l) = Sound l
  AllSound (and l ls) = Sound l × AllSound ls

in_table : (x : Option Op) (o : Op) → x ≡ Some o → is_some x ≡ true
in_table x o e = rw e refl

by_brackets : (b : Bool) (l : Layout) → Sound l → Sound (in_brackets b l)
unfolding Sound
by_brackets true l h = h
by_brackets false l h = h

by_nil : (e : Layout) (f : List ℕ) (b : Bool) → Sound e → IsUtf8 f → Sound (cond b (listed (one e)) (partial (one e) (plain f)))
unfolding Sound AllSound
by_nil e f true h i = h
by_nil e f false h i = (h, i)

sound_list : (e l : Layout) → Sound e → Sound l → Sound (with_element e l)
unfolding Sound AllSound
sound_list e (plain f) h i = by_nil e f (bytes_eq f (codes "[]")) h i
sound_list e (listed ls) h i = (h, i)
sound_list e (partial ls l) h i = ((h, i.0), i.1)
sound_list e l h i = (h, i)

module _ (m : Mode) where
  mutual
    unfolding layout by_form arguments Sound AllSound

    pub sound : (t : Tree) (at : Place) → HasValues t → Sound (layout m t at)
    sound (variable n) at h = h
    sound (integer z) at h = h
    sound (atom f) at h = by_brackets (is_operand at && is_operator f) (plain f) h
    sound (compound f ts) at h = sound_form (form m f (arity ts)) f ts at (IsForm-form m f (arity ts)) h.0 h.1

    sound_form : (x : Form) (f : List ℕ) (ts : Trees) (at : Place) → IsForm f (arity ts) x → IsUtf8 f → HaveValues ts → Sound (by_form m x f ts at)
    sound_form Call f (tree t ts) at is u h = (u, all_sound (layout m t Argument) ts (sound t Argument h.0) h.1)
    sound_form Curly f (tree t ts) at is u h = sound t Whole h.0
    sound_form Cell f (tree t (tree v vs)) at is u h = sound_list (layout m t Argument) (layout m v Argument) (sound t Argument h.0) (sound v Argument h.1.0)
    sound_form (Prefix o) f (tree t ts) at is u h =
        by_brackets (nat_lt (most at) o.priority) (before f o (layout m t (Operand (right_of o)))) (in_table (row f iso_prefix) o is.1, sound t (Operand (right_of o)) h.0)
    sound_form (Infix o) f (tree t (tree v vs)) at is u h =
        by_brackets (nat_lt (most at) o.priority) (between (layout m t (Operand (left_of o))) f o (layout m v (Operand (right_of o))))
        (sound t (Operand (left_of o)) h.0, in_table (row f iso_infix) o is.1, sound v (Operand (right_of o)) h.1.0)
    sound_form x f ts at is u h = u

    all_sound : (l : Layout) (ts : Trees) → Sound l → HaveValues ts → AllSound (arguments m l ts)
    all_sound l no_trees h i = h
    all_sound l (tree t ts) h i = (h, all_sound (layout m t Argument) ts (sound t Argument i.0) i.1)

-- ---- items side by side

begins_operand : Item → Bool
begins_operand (mark_item k) = is_opening k
begins_operand (infix_item f) = false
begins_operand _ = true

Begins : List Item → Type 0
Begins [] = ⊥
Begins (x ∷ xs) = begins_operand x ≡ true

mutual
  unfolding items all_items Begins begins_operand

  begins : (l : Layout) (xs : List Item) → Begins (items l xs)
  begins (unknown n) xs = refl
  begins (number z) xs = refl
  begins (plain f) xs = refl
  begins (call f ls) xs = refl
  begins (round l) xs = refl
  begins (curly l) xs = refl
  begins (listed ls) xs = refl
  begins (partial ls l) xs = refl
  begins (before f o l) xs = refl
  begins (between l f o r) xs = begins l (infix_item f ∷ items r xs)

  all_begin : (ls : Layouts) (xs : List Item) → Begins (all_items ls xs)
  all_begin (one l) xs = begins l xs
  all_begin (and l ls) xs = begins l (mark_item comma ∷ all_items ls xs)

-- nothing, or what goes on behind an operand
Closes : List Item → Type 0
Closes [] = ⊤
Closes (x ∷ xs) = goes_on x ≡ true

-- an item that an operand follows
wants : Item → Bool
wants (mark_item k) = true
wants (prefix_item f) = true
wants (infix_item f) = true
wants _ = false

no_close_square : (y : Item) → begins_operand y ≡ true → not (is_close_square y) ≡ true
unfolding begins_operand
no_close_square (mark_item close_square) b = absurd (false≢true b)
no_close_square y b = refl

no_close_curly : (y : Item) → begins_operand y ≡ true → not (is_close_curly y) ≡ true
unfolding begins_operand
no_close_curly (mark_item close_curly) b = absurd (false≢true b)
no_close_curly y b = refl

before_operand : (x : Item) (xs : List Item) → wants x ≡ true → Begins xs → FollowedBy x xs
unfolding wants Begins
before_operand x [] w b = absurd b
before_operand (variable_item n) (y ∷ ys) w b = absurd (false≢true w)
before_operand (integer_item z) (y ∷ ys) w b = absurd (false≢true w)
before_operand (name_item f) (y ∷ ys) w b = absurd (false≢true w)
before_operand (mark_item open_square) (y ∷ ys) w b = no_close_square y b
before_operand (mark_item open_curly) (y ∷ ys) w b = no_close_curly y b
before_operand x (y ∷ ys) w b = refl

-- an item that ends an operand
is_end : Item → Bool
is_end (variable_item n) = true
is_end (integer_item z) = true
is_end (name_item f) = true
is_end (mark_item close_round) = true
is_end (mark_item close_square) = true
is_end (mark_item close_curly) = true
is_end _ = false

behind_operand : (x : Item) (xs : List Item) → is_end x ≡ true → Closes xs → FollowedBy x xs
unfolding is_end Closes
behind_operand x [] e c = tt
behind_operand (variable_item n) (y ∷ ys) e c = c
behind_operand (integer_item z) (y ∷ ys) e c = c
behind_operand (name_item f) (y ∷ ys) e c = c
behind_operand (mark_item open_square) (y ∷ ys) e c = absurd (false≢true e)
behind_operand (mark_item open_curly) (y ∷ ys) e c = absurd (false≢true e)
behind_operand x (y ∷ ys) e c = refl

-- a layout between brackets, or behind one
opened : (k : Mark) (xs : List Item) → Begins xs → AreApart xs → AreApart (mark_item k ∷ xs)
unfolding AreApart wants
opened k xs b a = (tt, before_operand (mark_item k) xs refl b, a)

closed : (k : Mark) (xs : List Item) → is_end (mark_item k) ≡ true → Closes xs → AreApart xs → AreApart (mark_item k ∷ xs)
unfolding AreApart
closed k xs e c a = (tt, behind_operand (mark_item k) xs e c, a)

mutual
  unfolding items all_items Sound AllSound AreApart Closes is_end wants

  apart : (l : Layout) (xs : List Item) → Sound l → Closes xs → AreApart xs → AreApart (items l xs)
  apart (unknown n) xs h c a = (h, behind_operand (variable_item n) xs refl c, a)
  apart (number z) xs h c a = (h, behind_operand (integer_item z) xs refl c, a)
  apart (plain f) xs h c a = (h, behind_operand (name_item f) xs refl c, a)
  apart (call f ls) xs h c a = (
    h.0,
    refl,
    opened open_round (all_items ls (mark_item close_round ∷ xs)) (all_begin ls (mark_item close_round ∷ xs))
        (all_apart ls (mark_item close_round ∷ xs) h.1 refl (closed close_round xs refl c a)),
  )
  apart (round l) xs h c a =
      opened open_round (items l (mark_item close_round ∷ xs)) (begins l (mark_item close_round ∷ xs)) (apart l (mark_item close_round ∷ xs) h refl (closed close_round xs refl c a))
  apart (curly l) xs h c a =
      opened open_curly (items l (mark_item close_curly ∷ xs)) (begins l (mark_item close_curly ∷ xs)) (apart l (mark_item close_curly ∷ xs) h refl (closed close_curly xs refl c a))
  apart (listed ls) xs h c a =
      opened open_square (all_items ls (mark_item close_square ∷ xs)) (all_begin ls (mark_item close_square ∷ xs)) (all_apart ls (mark_item close_square ∷ xs) h refl (closed close_square xs refl c a))
  apart (partial ls l) xs h c a =
      let tail = mark_item bar ∷ items l (mark_item close_square ∷ xs) in
      opened open_square (all_items ls tail) (all_begin ls tail)
      (all_apart ls tail h.0 refl (opened bar (items l (mark_item close_square ∷ xs)) (begins l (mark_item close_square ∷ xs)) (apart l (mark_item close_square ∷ xs) h.1 refl (closed close_square xs refl c a))))
  apart (before f o l) xs h c a = (h.0, before_operand (prefix_item f) (items l xs) refl (begins l xs), apart l xs h.1 c a)
  apart (between l f o r) xs h c a =
      apart l (infix_item f ∷ items r xs) h.0 refl (h.1, before_operand (infix_item f) (items r xs) refl (begins r xs), apart r xs h.2 c a)

  all_apart : (ls : Layouts) (xs : List Item) → AllSound ls → Closes xs → AreApart xs → AreApart (all_items ls xs)
  all_apart (one l) xs h c a = apart l xs h c a
  all_apart (and l ls) xs h c a =
      apart l (mark_item comma ∷ all_items ls xs) h.0 refl (opened comma (all_items ls xs) (all_begin ls xs) (all_apart ls xs h.1 c a))

-- the items of a term
pub AreApart-items : (m : Mode) (t : Tree) (at : Place) → HasValues t → AreApart (items (layout m t at) [])
unfolding AreApart Closes
AreApart-items m t at h = apart (layout m t at) [] (sound m t at h) tt tt
