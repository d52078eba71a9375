-- The steps of the walk.
use Rattle.std.proofs.Common.{◌≡◌, ℕ, zero, suc, ◌+◌, ◌-◌, ◌<◌, ◌≤◌, Bool, true, false, cond, ◌&&◌, nat_lt, bytes_eq, List, [], ◌∷◌, ◌++◌, length, take, drop, get_or, refl, subst, ap, ◌∙◌, sym, append_assoc, append-nil, arith}
use Rattle.std.specs.Prelude.{codes, Some}
use Rattle.std.proofs.lemmas.List.{at_drop_more, length-append}
use Rattle.term_core.specs.declared.node.Node.{Node}
use Rattle.term_core.specs.declared.node.Node.TheVariants.{Var, Int, Atom, Comp}
use Rattle.term_core.specs.Tree.{Tree, variable, integer, atom, compound, Trees, no_trees, tree, tree_list, trees_of, arity, IsTerm, AreTerms}
use Rattle.term_core.specs.Flat.{flatten, flatten_all, build, grow, build-flatten, build-flatten_all}
use Rattle.op_table.specs.Table.{left_of, right_of}
use Rattle.prolog_write.specs.declared.mode.Mode.{Mode}
use Rattle.prolog_write.specs.declared.place.Place.{Place}
use Rattle.prolog_write.specs.declared.place.Place.TheVariants.{Whole, Argument, Operand}
use Rattle.prolog_write.specs.declared.form.Form.{Form}
use Rattle.prolog_write.specs.declared.form.Form.TheVariants.{Curly, Cell, Prefix, Infix, Call}
use Rattle.prolog_write.specs.declared.task.Want.{Want}
use Rattle.prolog_write.specs.declared.task.Want.TheVariants.{Term, Rest}
use Rattle.prolog_write.specs.Text.{Piece, piece, mark, prefix_piece, infix_piece, atom_text, is_operand, is_operator, most, in_brackets, form, after_bar, pieces, by_form, more_arguments, rest_of_list, rest_by_form, behind, text_at}
use Rattle.prolog_write.specs.State.{State, with_piece, whole}
use Rattle.prolog_write.specs.Duties.{Duty, write, take_term, take_arguments, owed, owed_arguments, owed_term, bracketed, operand, bar_duties, compound_duties, term_duties, is_cell_form, duties, Owing, pushed, HasArguments, FitsBefore, EachFits}
use Rattle.prolog_write.specs.Total.{total, awaiting}
use Rattle.prolog_write.proofs.Forms.{Takes, takes}

-- ---- the duties of a node write its term

module _ (m : Mode) where
  -- what duties write, where these trees come and those are left
  Writes : List Duty → List Tree → List Piece → List Tree → Type 0
  Writes ds us ps vs = (es : List Duty) → owed m (ds ++ es) us ≡ ps ++ owed m es vs

  in_brackets_written : (b : Bool) (ds : List Duty) (us vs : List Tree) (ps : List Piece) → Writes ds us ps vs → Writes (bracketed b ds) us (in_brackets b ps) vs
  unfolding Writes
  in_brackets_written true ds us vs ps h es =
      ap (λ qs. mark "(" ∷ qs)
      (ap (λ fs. owed m fs us) (append_assoc ds (write (mark ")") ∷ []) es)
      ∙ h (write (mark ")") ∷ es)
      ∙ sym (append_assoc ps (mark ")" ∷ []) (owed m es vs)))
  in_brackets_written false ds us vs ps h es = h es

  arguments_written : (k : ℕ) (then : List Tree → List Piece) (us : List Tree) → k ≤ length us → owed_arguments m k then us ≡ more_arguments m (trees_of (take k us)) ++ then (drop k us)
  arguments_written zero then us h = refl
  arguments_written (suc k) then [] h = absurd (omega arith)
  arguments_written (suc k) then (u ∷ us) h =
      ap (λ qs. mark "," ∷ (pieces m u Argument ++ qs)) (arguments_written k then us (omega arith))
      ∙ ap (λ qs. mark "," ∷ qs) (sym (append_assoc (pieces m u Argument) (more_arguments m (trees_of (take k us))) (then (drop k us))))

  cell_written : (u v : Tree) (us : List Tree) (es : List Duty) → owed m (take_term (Term Argument) ∷ take_term Rest ∷ es) (u ∷ v ∷ us) ≡ (pieces m u Argument ++ rest_of_list m v (pieces m v)) ++ owed m es us
  cell_written u v us es = sym (append_assoc (pieces m u Argument) (rest_of_list m v (pieces m v)) (owed m es us))

  compound_written : (at : Place) (f : List ℕ) (k : ℕ) (x : Form) → Takes k x → 1 ≤ k → (us : List Tree) → k ≤ length us → Writes (compound_duties m at f k x) us (by_form m x f (trees_of (take k us)) at) (drop k us)
  unfolding Writes
  compound_written at f zero x e h us g es = absurd (omega arith)
  compound_written at f (suc k) x e h [] g es = absurd (omega arith)
  compound_written at f (suc k) Call e h (u ∷ us) g es =
      let less : suc k - 1 ≡ k = omega arith in
      ap (λ (j : ℕ). piece (atom_text m f) ∷ mark "(" ∷ (pieces m u Argument ++ owed_arguments m j (owed m es) us)) less
      ∙ ap (λ qs. piece (atom_text m f) ∷ mark "(" ∷ (pieces m u Argument ++ qs)) (arguments_written k (owed m es) us (omega arith))
      ∙ ap (λ qs. piece (atom_text m f) ∷ mark "(" ∷ qs) (sym (append_assoc (pieces m u Argument) (more_arguments m (trees_of (take k us))) (owed m es (drop k us))))
  compound_written at f (suc zero) Curly e h (u ∷ us) g es =
      ap (λ qs. mark "{" ∷ qs) (sym (append_assoc (pieces m u Whole) (mark "}" ∷ []) (owed m es us)))
  compound_written at f (suc zero) (Prefix o) e h (u ∷ us) g es =
      in_brackets_written (nat_lt (most at) o.priority) (write (prefix_piece f) ∷ operand (right_of o) ∷ []) (u ∷ us) us (prefix_piece f ∷ pieces m u (Operand (right_of o))) (λ fs. refl) es
  compound_written at f (suc (suc zero)) Cell e h (u ∷ []) g es = absurd (omega arith)
  compound_written at f (suc (suc zero)) Cell e h (u ∷ v ∷ us) g es = ap (λ qs. mark "[" ∷ qs) (cell_written u v us es)
  compound_written at f (suc (suc zero)) (Infix o) e h (u ∷ []) g es = absurd (omega arith)
  compound_written at f (suc (suc zero)) (Infix o) e h (u ∷ v ∷ us) g es =
      in_brackets_written (nat_lt (most at) o.priority) (operand (left_of o) ∷ write (infix_piece f) ∷ operand (right_of o) ∷ []) (u ∷ v ∷ us) us (pieces m u (Operand (left_of o)) ++ infix_piece f ∷ pieces m v (Operand (right_of o)))
      (λ fs. sym (append_assoc (pieces m u (Operand (left_of o))) (infix_piece f ∷ pieces m v (Operand (right_of o))) (owed m fs us))) es
  compound_written at f (suc (suc k)) Curly e h (u ∷ us) g es = absurd (omega arith)
  compound_written at f (suc (suc k)) (Prefix o) e h (u ∷ us) g es = absurd (omega arith)
  compound_written at f (suc zero) Cell e h (u ∷ us) g es = absurd (omega arith)
  compound_written at f (suc zero) (Infix o) e h (u ∷ us) g es = absurd (omega arith)
  compound_written at f (suc (suc (suc k))) Cell e h (u ∷ us) g es = absurd (omega arith)
  compound_written at f (suc (suc (suc k))) (Infix o) e h (u ∷ us) g es = absurd (omega arith)

  arity_trees_of : (us : List Tree) → arity (trees_of us) ≡ length us
  arity_trees_of [] = refl
  arity_trees_of (u ∷ us) = ap suc (arity_trees_of us)

  length_take : (k : ℕ) (us : List Tree) → k ≤ length us → length (take k us) ≡ k
  length_take zero us h = refl
  length_take (suc k) [] h = absurd (omega arith)
  length_take (suc k) (u ∷ us) h = ap suc (length_take k us (omega arith))

  arity_taken : (k : ℕ) (us : List Tree) → k ≤ length us → arity (trees_of (take k us)) ≡ k
  arity_taken k us h = arity_trees_of (take k us) ∙ length_take k us h

  term_written : (at : Place) (n : Node) (us : List Tree) (es : List Duty) → FitsBefore n us → owed m (term_duties m at n ++ es) us ≡ owed m (take_term (Term at) ∷ es) (grow n us)
  unfolding Writes
  term_written at (Var n) us es h = refl
  term_written at (Int z) us es h = refl
  term_written at (Atom f) us es h =
      in_brackets_written (is_operand at && is_operator f) (write (piece (atom_text m f)) ∷ []) us us (piece (atom_text m f) ∷ []) (λ fs. refl) es
  term_written at (Comp f k) us es h =
      compound_written at f k (form m f k) (takes m f k) h.0 us h.1 es
      ∙ ap (λ (j : ℕ). by_form m (form m f j) f (trees_of (take k us)) at ++ owed m es (drop k us)) (sym (arity_taken k us h.1))

  bar_written : (n : Node) (t : Tree) (us vs : List Tree) (es : List Duty) → FitsBefore n us → grow n us ≡ t ∷ vs → owed m (bar_duties m n ++ es) us ≡ after_bar (pieces m t) ++ owed m es vs
  bar_written n t us vs es h e =
      ap (λ qs. mark "|" ∷ qs)
      (ap (λ fs. owed m fs us) (append_assoc (term_duties m Argument n) (write (mark "]") ∷ []) es)
      ∙ term_written Argument n us (write (mark "]") ∷ es) h
      ∙ ap (λ ts. owed_term m (Term Argument) (owed m (write (mark "]") ∷ es)) ts) e
      ∙ sym (append_assoc (pieces m t Argument) (mark "]" ∷ []) (owed m es vs)))

  rest_atom : (b : Bool) (f : List ℕ) (us : List Tree) (es : List Duty) → owed m (cond b (write (mark "]") ∷ []) (bar_duties m (Atom f)) ++ es) us ≡ cond b (mark "]" ∷ []) (after_bar (pieces m (atom f))) ++ owed m es us
  rest_atom true f us es = refl
  rest_atom false f us es = bar_written (Atom f) (atom f) us us es tt refl

  rest_compound : (f : List ℕ) (k : ℕ) (x : Form) → Takes k x → (us : List Tree) (es : List Duty) (h : (1 ≤ k) × (k ≤ length us))
      → owed m (cond (is_cell_form x) (write (mark ",") ∷ take_term (Term Argument) ∷ take_term Rest ∷ []) (bar_duties m (Comp f k)) ++ es) us
      ≡ rest_by_form m x (trees_of (take k us)) (pieces m (compound f (trees_of (take k us)))) ++ owed m es (drop k us)
  rest_compound f k Curly e us es h = bar_written (Comp f k) _ us (drop k us) es h refl
  rest_compound f k (Prefix o) e us es h = bar_written (Comp f k) _ us (drop k us) es h refl
  rest_compound f k (Infix o) e us es h = bar_written (Comp f k) _ us (drop k us) es h refl
  rest_compound f k Call e us es h = bar_written (Comp f k) _ us (drop k us) es h refl
  rest_compound f zero Cell e us es h = absurd (omega arith)
  rest_compound f (suc zero) Cell e us es h = absurd (omega arith)
  rest_compound f (suc (suc (suc k))) Cell e us es h = absurd (omega arith)
  rest_compound f (suc (suc zero)) Cell e [] es h = absurd (omega arith)
  rest_compound f (suc (suc zero)) Cell e (u ∷ []) es h = absurd (omega arith)
  rest_compound f (suc (suc zero)) Cell e (u ∷ v ∷ us) es h = ap (λ qs. mark "," ∷ qs) (cell_written u v us es)

  written : (w : Want) (n : Node) (us : List Tree) (es : List Duty) → FitsBefore n us → owed m (duties m w n ++ es) us ≡ owed m (take_term w ∷ es) (grow n us)
  written (Term at) n us es h = term_written at n us es h
  written Rest (Var n) us es h = bar_written (Var n) (variable n) us us es tt refl
  written Rest (Int z) us es h = bar_written (Int z) (integer z) us us es tt refl
  written Rest (Atom f) us es h = rest_atom (bytes_eq f (codes "[]")) f us es
  written Rest (Comp f k) us es h =
      rest_compound f k (form m f k) (takes m f k) us es h
      ∙ ap (λ (j : ℕ). rest_by_form m (form m f j) (trees_of (take k us)) (pieces m (compound f (trees_of (take k us)))) ++ owed m es (drop k us)) (sym (arity_taken k us h.1))

-- ---- a step

pub expanded : (s : State) (o o' : Owing) (w : Want) (n : Node) (us : List Tree) → FitsBefore n us → o' ≡ pushed o (duties o.mode w n) → total s o' us ≡ total s (awaiting (Some w) o) (grow n us)
expanded s o o' w n us h e = ap (λ p. total s p us) e ∙ ap (whole s) (written o.mode w n us o.duties h)

-- where no more duties are left, the trees don't matter
pub done : (s : State) (o : Owing) (us vs : List Tree) → o.duties ≡ [] → total s o us ≡ total s o vs
done s o us vs e = ap (λ ds. whole s (owed o.mode ds us)) e ∙ sym (ap (λ ds. whole s (owed o.mode ds vs)) e)

pub put_whole : (s : State) (p : Piece) (ps : List Piece) → whole (with_piece s p) ps ≡ whole s (p ∷ ps)
put_whole s p ps = simp append_assoc

pub whole_long : (s : State) (ps : List Piece) (n : ℕ) → n < length s.written → n < length (whole s ps)
whole_long s ps n h = omega (arith, length-append s.written (behind s.ending s.behind_prefix ps))

arguments_more : (m : Mode) (k : ℕ) (then : List Tree → List Piece) (us : List Tree) → 0 < k → owed_arguments m k then us ≡ mark "," ∷ owed_term m (Term Argument) (owed_arguments m (k - 1) then) us
arguments_more m zero then us h = absurd (omega arith)
arguments_more m (suc k) then [] h = refl
arguments_more m (suc k) then (u ∷ us) h =
    let less : suc k - 1 ≡ k = omega arith in
    sym (ap (λ (j : ℕ). mark "," ∷ (pieces m u Argument ++ owed_arguments m j then us)) less)

-- a further argument
pub next_argument : (s : State) (o : Owing) (k : ℕ) (us : List Tree) → 0 < k
    → total (with_piece s (mark ",")) (awaiting (Some (Term Argument)) (pushed o (take_arguments (k - 1) ∷ []))) us ≡ total s (pushed o (take_arguments k ∷ [])) us
next_argument s o k us h =
    put_whole s (mark ",") (owed_term o.mode (Term Argument) (owed_arguments o.mode (k - 1) (owed o.mode o.duties)) us)
    ∙ sym (ap (whole s) (arguments_more o.mode k (owed o.mode o.duties) us h))

-- ---- the nodes of a term

length_tree_list : (ts : Trees) → length (tree_list ts) ≡ arity ts
length_tree_list no_trees = refl
length_tree_list (tree t ts) = ap suc (length_tree_list ts)

mutual
  fits_flatten : (t : Tree) (ns : List Node) → IsTerm t → EachFits ns → EachFits (flatten t ++ ns)
  fits_flatten (variable n) ns h g = (tt, g)
  fits_flatten (integer z) ns h g = (tt, g)
  fits_flatten (atom a) ns h g = (tt, g)
  fits_flatten (compound f ts) ns h g =
      ((h.0, omega (arith, ap length (build-flatten_all ts ns), length-append (tree_list ts) (build ns), length_tree_list ts)), fits_flatten_all ts ns h.2 g)

  fits_flatten_all : (ts : Trees) (ns : List Node) → AreTerms ts → EachFits ns → EachFits (flatten_all ts ++ ns)
  fits_flatten_all no_trees ns h g = g
  fits_flatten_all (tree t ts) ns h g =
      rw (append_assoc (flatten t) (flatten_all ts) ns) (fits_flatten t (flatten_all ts ++ ns) h.0 (fits_flatten_all ts ns h.1 g))

pub fits_of : (t : Tree) (ns : List Node) → ns ≡ flatten t → IsTerm t → EachFits ns
fits_of t ns e h = subst EachFits (append-nil (flatten t) ∙ sym e) (fits_flatten t [] h tt)

pub has_arguments : (n : Node) (us : List Tree) → FitsBefore n us → HasArguments n
has_arguments (Var n) us h = tt
has_arguments (Int z) us h = tt
has_arguments (Atom a) us h = tt
has_arguments (Comp f k) us h = h.0

pub front : (ns : List Node) (i : ℕ) (n : Node) → i < length ns → n ≡ get_or ns i n → drop i ns ≡ n ∷ drop (i + 1) ns
front ns i n h e = at_drop_more (λ xs. xs) ns i n h ∙ ap (λ m. m ∷ drop (i + 1) ns) (sym e)

pub build_of : (t : Tree) (ns : List Node) → ns ≡ flatten t → build ns ≡ t ∷ []
build_of t ns e = ap build (e ∙ sym (append-nil (flatten t))) ∙ build-flatten t []

pub total_start : (m : Mode) (at : Place) (t : Tree) (ns : List Node) (s : State) (o : Owing) → ns ≡ flatten t
    → s.written ≡ [] → s.ending ≡ 0 → s.behind_prefix ≡ false → o.mode ≡ m → o.duties ≡ take_term (Term at) ∷ [] → total s o (build ns) ≡ text_at at m t
total_start m at t ns s o e w c b x y =
    ap (λ us. total s o us) (build_of t ns e)
    ∙ ap (λ ds. whole s (owed o.mode ds (t ∷ []))) y
    ∙ ap (λ ps. whole s ps) (append-nil (pieces o.mode t at))
    ∙ ap (λ (n : Mode). whole s (pieces n t at)) x
    ∙ ap (λ bs. bs ++ behind s.ending s.behind_prefix (pieces m t at)) w
    ∙ ap (λ (d : ℕ). behind d s.behind_prefix (pieces m t at)) c
    ∙ ap (λ q. behind 0 q (pieces m t at)) b
