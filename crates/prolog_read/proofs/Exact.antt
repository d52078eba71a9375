-- What is found is what a text reads as, both ways.
use Rattle.std.proofs.Common.{◌≡◌, ◌∙◌, ℕ, ◌≤◌, Bool, true, false, List, [], ◌∷◌, length, map, Result, Ok, Err, refl, ap, sym, subst, arith, if◌then◌else◌, All}
use Rattle.std.proofs.lemmas.List.Elements.{All-cons}
use Rattle.std.proofs.lemmas.List.{get_or-map, length-map}
use Rattle.std.specs.List.{list_all}
use Rattle.term_core.specs.Tokens.{Token}
use Rattle.term_core.specs.Tokens as lex
use Rattle.term_core.specs.declared.read_term.ReadTerm.{ReadTerm}
use Rattle.term_core.specs.Tree.{Tree}
use Rattle.term_core.specs.Flat.{flatten}
use Rattle.op_table.specs.Table.{Table}
use Rattle.prolog_lex.specs.Lexed.{tokens_of}
use Rattle.prolog_grammar.specs.declared.grammar.fault.Fault.{Fault}
use Rattle.prolog_grammar.specs.declared.grammar.fault.Fault.TheVariants.{Nesting}
use Rattle.prolog_grammar.specs.Readings.{Bytes, Reading, meaning}
use Rattle.prolog_grammar.specs.Machine.{start}
use Rattle.prolog_grammar.specs.Read.{is_within, limited, first_place}
use Rattle.prolog_grammar.specs.Read as grammar
use Rattle.prolog_grammar.proofs.Complete.{found}
use Rattle.prolog_grammar.proofs.Sound.{reads}
use Rattle.prolog_read.specs.declared.fault.ReadFault.{ReadFault}
use Rattle.prolog_read.specs.Variables.{Names, IsNumbered}
use Rattle.prolog_read.specs.Lexemes.{nothing_before, placed}
use Rattle.prolog_read.specs.Reads.{prefix_of, infix_of, before_end, from_end, has_range, names_of, IsTermOf, Reads}
use Rattle.prolog_read.specs.Clauses.{Sentence, sentences, obeyed, AreClauses, ReadsClauses}
use Rattle.prolog_read.specs.Outcome.{ReadAs, told, and_then, lexed, term_of, alone, only_term, term_read, refused_at, with_first, clauses_of, clauses, clauses_read, read_as, IsRefusal, Tells}
use Rattle.prolog_read.proofs.Faults.{ok_err, ok_same, refusal_told}
use Rattle.prolog_read.proofs.Numbering.{term_numbered}
use Rattle.prolog_read.proofs.Limits.{sized_range, reading_run, run_reading, start_sized}

-- ---- a term

module _ (ops : Table) (text : Bytes) (ts : List Token) where
  term_of_reading : (r : Reading) (end : ℕ) → grammar.reading (prefix_of ops) (infix_of ops) end (placed text nothing_before ts) start ≡ Ok r → is_within (meaning r) ≡ true → IsTermOf ops text ts (meaning r) (names_of text ts)
  term_of_reading r end e w =
      let h = reading_run (prefix_of ops) (infix_of ops) end (placed text nothing_before ts) start r (start_sized (prefix_of ops) (infix_of ops)) e in
      record {
        reading = r;
        is_reading = reads (prefix_of ops) (infix_of ops) _ r h.0;
        means = refl;
        named = refl;
        brackets = h.1;
        integers = sym (sized_range r) ∙ h.2;
        within = w;
      }

  pub is_term : (end : ℕ) (x : ReadAs) → term_of ops text end ts ≡ Ok x → IsTermOf ops text ts x.0 x.1
  unfolding grammar.term_of
  is_term end x e = by (grammar.reading (prefix_of ops) (infix_of ops) end (placed text nothing_before ts) start) refl e
    where
      at : ℕ
      at = first_place end (placed text nothing_before ts)

      within : (r : Reading) → grammar.reading (prefix_of ops) (infix_of ops) end (placed text nothing_before ts) start ≡ Ok r → (b : Bool) → is_within (meaning r) ≡ b →
          and_then (told (if b then Ok (meaning r) else Err (Nesting at))) (λ t. Ok (t, names_of text ts)) ≡ Ok x → IsTermOf ops text ts x.0 x.1
      within r h true w e = subst (λ y. IsTermOf ops text ts y.0 y.1) (ok_same _ x e) (term_of_reading r end h w)
      within r h false w e = absurd (ok_err x _ (sym e))

      by : (R : Result Reading Fault) → grammar.reading (prefix_of ops) (infix_of ops) end (placed text nothing_before ts) start ≡ R →
          and_then (told (grammar.and_then R (λ r. limited at (meaning r)))) (λ t. Ok (t, names_of text ts)) ≡ Ok x → IsTermOf ops text ts x.0 x.1
      by (Err f) h e = absurd (ok_err x _ (sym e))
      by (Ok r) h e = within r h (is_within (meaning r)) refl e

  pub term_is_found : (t : Tree) (names : Names) → IsTermOf ops text ts t names → (end : ℕ) → term_of ops text end ts ≡ Ok (t, names)
  unfolding grammar.term_of
  term_is_found t names h end =
      let run = found (prefix_of ops) (infix_of ops) _ h.reading h.is_reading in
      let sized = sized_range h.reading ∙ ap (λ u. list_all has_range (flatten u)) (sym h.means) ∙ h.integers in
      let read = run_reading (prefix_of ops) (infix_of ops) end (placed text nothing_before ts) start h.reading run h.brackets sized in
      let within : is_within (meaning h.reading) ≡ true = ap is_within (sym h.means) ∙ h.within in
      rw (read, within, h.means, h.named) refl

-- ---- a text that is one term

refused_not_ok : {A : Type 0} (at : ℕ) (r : Result Reading ReadFault) (x : A) → refused_at at r ≡ Ok x → ⊥
refused_not_ok at (Ok r) x e = ok_err x _ (sym e)
refused_not_ok at (Err f) x e = ok_err x _ (sym e)

module _ (ops : Table) (text : Bytes) where
  alone_reads : (ts es : List Token) (x : ReadAs) → alone ops text ts es ≡ Ok x → (length es ≤ 1) × IsTermOf ops text ts x.0 x.1
  alone_reads ts [] x e = (omega arith, is_term ops text ts _ x e)
  alone_reads ts (u ∷ []) x e = (omega arith, is_term ops text ts _ x e)
  alone_reads ts (u ∷ v ∷ us) x e = absurd (refused_not_ok _ _ x e)

  reads_alone : (ts es : List Token) (t : Tree) (names : Names) → length es ≤ 1 → IsTermOf ops text ts t names → alone ops text ts es ≡ Ok (t, names)
  reads_alone ts [] t names l h = term_is_found ops text ts t names h _
  reads_alone ts (u ∷ []) t names l h = term_is_found ops text ts t names h _
  reads_alone ts (u ∷ v ∷ us) t names l h = absurd (omega (arith, l))

  pub found_reads : (x : ReadAs) → term_read ops text ≡ Ok x → Reads ops text x.0 x.1
  found_reads x e = by (tokens_of text) refl e
    where
      by : (r : lex.Tokens) → tokens_of text ≡ r → and_then (lexed r) (only_term ops text) ≡ Ok x → Reads ops text x.0 x.1
      by (Ok ts) h e = let p = alone_reads (before_end ts) (from_end ts) x e in record { all = ts; tokens = h; one_end = p.0; term = p.1 }
      by (Err f) h e = absurd (ok_err x _ (sym e))

  pub reads_found : (t : Tree) (names : Names) → Reads ops text t names → term_read ops text ≡ Ok (t, names)
  reads_found t names h = rw h.tokens (reads_alone (before_end h.all) (from_end h.all) t names h.one_end h.term)

  pub none_reads : (e : ReadFault) → Tells (term_read ops text) e → IsRefusal e → (t : Tree) (names : Names) → Reads ops text t names → ⊥
  none_reads e h w t names r = ok_err _ e (sym (reads_found t names r) ∙ refusal_told _ e h w)

-- ---- a text that is clauses

module _ (text : Bytes) where
  are_clauses : (ops : Table) (ss : List Sentence) (rest : List Token) (xs : List ReadAs) → clauses_of ops text ss rest ≡ Ok xs → (rest ≡ []) × AreClauses ops text ss xs
  are_clauses ops [] [] xs e = (refl, subst (AreClauses ops text []) (ok_same _ xs e) tt)
  are_clauses ops [] (t ∷ ts) xs e = absurd (refused_not_ok _ _ xs e)
  are_clauses ops (s ∷ ss) rest xs e = by (λ x ys g. are_clauses (obeyed x.0 ops) ss rest ys g) (term_of ops text s.1 s.0) refl e
    where
      and_more : ((x : ReadAs) (ys : List ReadAs) → clauses_of (obeyed x.0 ops) text ss rest ≡ Ok ys → (rest ≡ []) × AreClauses (obeyed x.0 ops) text ss ys) →
          (x : ReadAs) → term_of ops text s.1 s.0 ≡ Ok x → (r : Result (List ReadAs) ReadFault) → clauses_of (obeyed x.0 ops) text ss rest ≡ r → with_first x r ≡ Ok xs →
          (rest ≡ []) × AreClauses ops text (s ∷ ss) xs
      and_more more x h (Err f) g e = absurd (ok_err xs _ (sym e))
      and_more more x h (Ok ys) g e = let m = more x ys g in (m.0, subst (AreClauses ops text (s ∷ ss)) (ok_same _ xs e) (is_term ops text s.0 s.1 x h, m.1))

      by : ((x : ReadAs) (ys : List ReadAs) → clauses_of (obeyed x.0 ops) text ss rest ≡ Ok ys → (rest ≡ []) × AreClauses (obeyed x.0 ops) text ss ys) →
          (r : Result ReadAs ReadFault) → term_of ops text s.1 s.0 ≡ r → and_then r (λ x. with_first x (clauses_of (obeyed x.0 ops) text ss rest)) ≡ Ok xs →
          (rest ≡ []) × AreClauses ops text (s ∷ ss) xs
      by more (Err f) h e = absurd (ok_err xs _ (sym e))
      by more (Ok x) h e = and_more more x h (clauses_of (obeyed x.0 ops) text ss rest) refl e

  clauses_are : (ops : Table) (ss : List Sentence) (xs : List ReadAs) → AreClauses ops text ss xs → clauses_of ops text ss [] ≡ Ok xs
  clauses_are ops [] [] h = refl
  clauses_are ops [] (x ∷ xs) h = absurd h
  clauses_are ops (s ∷ ss) [] h = absurd h
  clauses_are ops (s ∷ ss) (x ∷ xs) h =
      ap (λ r. and_then r (λ x. with_first x (clauses_of (obeyed x.0 ops) text ss []))) (term_is_found ops text s.0 x.0 x.1 h.0 s.1)
      ∙ ap (with_first x) (clauses_are (obeyed x.0 ops) ss xs h.1)

  pub found_clauses : (ops : Table) (xs : List ReadAs) → clauses_read ops text ≡ Ok xs → ReadsClauses ops text xs
  found_clauses ops xs e = by (tokens_of text) refl e
    where
      by : (r : lex.Tokens) → tokens_of text ≡ r → and_then (lexed r) (clauses ops text) ≡ Ok xs → ReadsClauses ops text xs
      by (Ok ts) h e = let p = are_clauses ops (sentences ts).0 (sentences ts).1 xs e in record { all = ts; tokens = h; no_more = p.0; clauses = p.1 }
      by (Err f) h e = absurd (ok_err xs _ (sym e))

  pub clauses_found : (ops : Table) (xs : List ReadAs) → ReadsClauses ops text xs → clauses_read ops text ≡ Ok xs
  clauses_found ops xs h = rw (h.tokens, h.no_more) (clauses_are ops (sentences h.all).0 xs h.clauses)

  pub none_clauses : (ops : Table) (e : ReadFault) → Tells (clauses_read ops text) e → IsRefusal e → (xs : List ReadAs) → ReadsClauses ops text xs → ⊥
  none_clauses ops e h w xs r = ok_err _ e (sym (clauses_found ops xs r) ∙ refusal_told _ e h w)

  -- ---- numbers of variables

  pub clauses_numbered : (ops : Table) (ss : List Sentence) (xs : List ReadAs) → AreClauses ops text ss xs → All (λ x. IsNumbered x.0) xs
  clauses_numbered ops [] [] h = λ k d l. absurd (omega (arith, l))
  clauses_numbered ops [] (x ∷ xs) h = absurd h
  clauses_numbered ops (s ∷ ss) [] h = absurd h
  clauses_numbered ops (s ∷ ss) (x ∷ xs) h =
      All-cons (λ y. IsNumbered y.0) x xs (term_numbered ops text s.0 x.0 x.1 h.0) (clauses_numbered (obeyed x.0 ops) ss xs h.1)

pub all_numbered : (rs : List ReadTerm) → All (λ x. IsNumbered x.0) (map read_as rs) → All (λ r. IsNumbered r.term) rs
all_numbered rs h k d l =
    subst (λ x. IsNumbered x.0) (get_or-map read_as rs k d (read_as d) l) (h k (read_as d) (omega (arith, l, length-map rs read_as)))
