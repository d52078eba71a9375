-- Solutions of one key, taken from the last on.
use Rattle.std.proofs.Common.{◌≡◌, ◌≢◌, Bool, true, false, not, List, [], ◌∷◌, ◌++◌, if◌then◌else◌, map, reverse, ap, refl, sym, ◌∙◌, append_assoc, append-nil}
use Rattle.std.proofs.lemmas.List.{reverse-append, reverse-reverse, map-append}
use Rattle.std.specs.Ordering.{is_eq}
use Rattle.term_core.specs.Order.{tree_cmp}
use Rattle.builtin_table.specs.Solutions.{Keyed, joined, grouped}
use Rattle.tree_lists.specs.Groups.{first_is_other, groups_of}

-- these solutions, before groups that are made
abbrev pub joined_all : List Keyed → List (List Keyed) → List (List Keyed)
joined_all [] gs = gs
joined_all (a ∷ bs) gs = joined a (joined_all bs gs)

-- a group that is being made, where there is one, before the others
abbrev pub begun : List Keyed → List (List Keyed) → List (List Keyed)
begun [] gs = gs
begun (a ∷ bs) gs = (a ∷ bs) ∷ gs

pub joined_all-none : (bs : List Keyed) → joined_all bs [] ≡ grouped bs
joined_all-none [] = refl
joined_all-none (a ∷ bs) = ap (joined a) (joined_all-none bs)

joined_all-last : (bs : List Keyed) (a : Keyed) (gs : List (List Keyed)) → joined_all (bs ++ a ∷ []) gs ≡ joined_all bs (joined a gs)
joined_all-last [] a gs = refl
joined_all-last (b ∷ bs) a gs = ap (joined b) (joined_all-last bs a gs)

same_group : (a b : Keyed) (bs : List Keyed) (gs : List (List Keyed)) (e : Bool) → is_eq (tree_cmp a.0 b.0) ≡ e → not e ≡ false → (a ∷ b ∷ bs) ∷ gs ≡ joined a ((b ∷ bs) ∷ gs)
same_group a b bs gs true h k = ap (λ (e : Bool). if e then (a ∷ b ∷ bs) ∷ gs else (a ∷ []) ∷ (b ∷ bs) ∷ gs) (sym h)
same_group a b bs gs false h k = cc

other_group : (a b : Keyed) (bs : List Keyed) (gs : List (List Keyed)) (e : Bool) → is_eq (tree_cmp a.0 b.0) ≡ e → not e ≡ true → (a ∷ []) ∷ (b ∷ bs) ∷ gs ≡ joined a ((b ∷ bs) ∷ gs)
other_group a b bs gs true h k = cc
other_group a b bs gs false h k = ap (λ (e : Bool). if e then (a ∷ b ∷ bs) ∷ gs else (a ∷ []) ∷ (b ∷ bs) ∷ gs) (sym h)

reverse_none : {A : Type 0} (xs : List A) → reverse xs ≡ [] → xs ≡ []
reverse_none xs h = sym (reverse-reverse xs) ∙ ap reverse h

groups_more : (gs : List (List Keyed)) (g : List Keyed) → groups_of (gs ++ g ∷ []) ≡ reverse g ∷ groups_of gs
groups_more gs g = ap reverse (map-append reverse gs (g ∷ [])) ∙ reverse-append (map reverse gs) (reverse g ∷ [])

begun_some : (g : List Keyed) (gs : List (List Keyed)) → g ≢ [] → g ∷ gs ≡ begun g gs
begun_some [] gs n = absurd (n refl)
begun_some (a ∷ bs) gs n = refl

-- one more solution in the group that is being made
into_group : (a : Keyed) (g : List Keyed) (gs : List (List Keyed)) → (g ≡ [] → gs ≡ []) → first_is_other g a.0 ≡ false → begun (a ∷ g) gs ≡ joined a (begun g gs)
into_group a [] [] m e = refl
into_group a [] (h ∷ gs) m e = let x : h ∷ gs ≡ [] = m refl in cc
into_group a (b ∷ bs) gs m e = same_group a b bs gs (is_eq (tree_cmp a.0 b.0)) refl e

-- one more solution in a group of its own
into_other : (a : Keyed) (g : List Keyed) (gs : List (List Keyed)) → first_is_other g a.0 ≡ true → begun (a ∷ []) (g ∷ gs) ≡ joined a (begun g gs)
into_other a [] gs e = cc
into_other a (b ∷ bs) gs e = other_group a b bs gs (is_eq (tree_cmp a.0 b.0)) refl e

-- a step of the loop that takes the last solution, into the group or into a new one
pub more_in_group : (rest rest' : List Keyed) (a : Keyed) (g g' : List Keyed) (gs : List (List Keyed)) (all : List (List Keyed)) → rest ≡ rest' ++ a ∷ [] → g' ≡ g ++ a ∷ [] → (g ≡ [] → gs ≡ []) → first_is_other (reverse g) a.0 ≡ false →
    joined_all rest (begun (reverse g) (groups_of gs)) ≡ all → joined_all rest' (begun (reverse g') (groups_of gs)) ≡ all
more_in_group rest rest' a g g' gs all e d m o h =
    ap (λ (x : List Keyed). joined_all rest' (begun x (groups_of gs))) (ap reverse d ∙ reverse-append g (a ∷ []))
    ∙ ap (joined_all rest') (into_group a (reverse g) (groups_of gs) (λ k. ap groups_of (m (reverse_none g k))) o)
    ∙ sym (joined_all-last rest' a (begun (reverse g) (groups_of gs)))
    ∙ ap (λ (x : List Keyed). joined_all x (begun (reverse g) (groups_of gs))) (sym e)
    ∙ h

pub more_in_other : (rest rest' : List Keyed) (a : Keyed) (g g' : List Keyed) (gs gs' : List (List Keyed)) (all : List (List Keyed)) → rest ≡ rest' ++ a ∷ [] → g' ≡ [] ++ a ∷ [] → gs' ≡ gs ++ g ∷ [] → first_is_other (reverse g) a.0 ≡ true →
    joined_all rest (begun (reverse g) (groups_of gs)) ≡ all → joined_all rest' (begun (reverse g') (groups_of gs')) ≡ all
more_in_other rest rest' a g g' gs gs' all e d k o h =
    ap (λ (x : List Keyed). joined_all rest' (begun (reverse x) (groups_of gs'))) d
    ∙ ap (λ (x : List (List Keyed)). joined_all rest' (begun (a ∷ []) x)) (ap groups_of k ∙ groups_more gs g)
    ∙ ap (joined_all rest') (into_other a (reverse g) (groups_of gs) o)
    ∙ sym (joined_all-last rest' a (begun (reverse g) (groups_of gs)))
    ∙ ap (λ (x : List Keyed). joined_all x (begun (reverse g) (groups_of gs))) (sym e)
    ∙ h

pub groups_end : (rest g : List Keyed) (gs gs' : List (List Keyed)) (all : List (List Keyed)) → rest ≡ [] → g ≢ [] → gs' ≡ gs ++ g ∷ [] → joined_all rest (begun (reverse g) (groups_of gs)) ≡ all → groups_of gs' ≡ all
groups_end rest g gs gs' all e n k h =
    ap groups_of k ∙ groups_more gs g ∙ begun_some (reverse g) (groups_of gs) (λ d. n (reverse_none g d))
    ∙ ap (λ (x : List Keyed). joined_all x (begun (reverse g) (groups_of gs))) (sym e) ∙ h

pub groups_end_none : (rest g : List Keyed) (gs : List (List Keyed)) (all : List (List Keyed)) → rest ≡ [] → g ≡ [] → joined_all rest (begun (reverse g) (groups_of gs)) ≡ all → groups_of gs ≡ all
groups_end_none rest g gs all e n h =
    ap (λ (x : List Keyed). begun (reverse x) (groups_of gs)) (sym n)
    ∙ ap (λ (x : List Keyed). joined_all x (begun (reverse g) (groups_of gs))) (sym e) ∙ h

-- ---- what is made of a group's solutions, taken from the last on

pub taken_more : {A B : Type 0} (f : B → A) (g g' : List B) (a : B) (b : A) (done done' all : List A) → g ≡ g' ++ a ∷ [] → b ≡ f a → done' ≡ done ++ b ∷ [] → done ++ map f (reverse g) ≡ all → done' ++ map f (reverse g') ≡ all
taken_more f g g' a b done done' all e k d h =
    ap (λ xs. xs ++ map f (reverse g')) (d ∙ ap (λ x. done ++ x ∷ []) k)
    ∙ append_assoc done (f a ∷ []) (map f (reverse g'))
    ∙ ap (λ xs. done ++ map f xs) (sym (ap reverse e ∙ reverse-append g' (a ∷ [])))
    ∙ h

pub taken_all : {A B : Type 0} (f : B → A) (g : List B) (done all : List A) → g ≡ [] → done ++ map f (reverse g) ≡ all → done ≡ all
taken_all f g done all e h =
    sym (append-nil done) ∙ ap (λ xs. done ++ map f (reverse xs)) (sym e) ∙ h

pub not_none : {A : Type 0} (xs : List A) (x : A) → xs ++ x ∷ [] ≡ [] → ⊥
not_none [] x e = cc
not_none (y ∷ xs) x e = cc

map_reverse : {A B : Type 0} (f : B → A) (xs : List B) → map f (reverse xs) ≡ reverse (map f xs)
map_reverse f [] = refl
map_reverse f (x ∷ xs) =
    ap (map f) (reverse-append (x ∷ []) xs) ∙ map-append f (reverse xs) (x ∷ []) ∙ ap (λ ys. ys ++ f x ∷ []) (map_reverse f xs) ∙ sym (reverse-append (f x ∷ []) (map f xs))

each_reversed : {A : Type 0} (f : List Keyed → A) (gs : List (List Keyed)) → map f (map reverse gs) ≡ map (λ g. f (reverse g)) gs
each_reversed f [] = refl
each_reversed f (g ∷ gs) = ap (λ ys. f (reverse g) ∷ ys) (each_reversed f gs)

pub reversed_back : {A B : Type 0} (f : B → A) (xs ys : List B) → ys ≡ reverse xs → reverse (map f ys) ≡ map f xs
reversed_back f xs ys e =
    ap (λ zs. reverse (map f zs)) e ∙ ap reverse (map_reverse f xs) ∙ reverse-reverse (map f xs)

pub of_groups : {A : Type 0} (f : List Keyed → A) (gs : List (List Keyed)) → map (λ g. f (reverse g)) (reverse gs) ≡ map f (groups_of gs)
of_groups f gs =
    map_reverse (λ g. f (reverse g)) gs ∙ ap reverse (sym (each_reversed f gs)) ∙ sym (map_reverse f (map reverse gs))
