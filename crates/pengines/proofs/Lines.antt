-- What is written of lines, line by line.
use Rattle.std.proofs.Common.{◌≡◌, ℕ, ◌≤◌, List, [], ◌∷◌, ◌++◌, Option, inl, inr, sym, ap, ◌∙◌, subst, append_assoc, append-nil, arith, codes}
use Rattle.std.proofs.lemmas.Grind.{flat_map-append}
use Rattle.std.specs.Io.KnownBytes.{Appends}
use Rattle.std.proofs.KnownBytes.{Appends-trans}
use Rattle.pengines.specs.Output.{AppendsPart, AppendsLines, Says, SaysMemory, line, text_of_lines}

-- lines and one more
pub text_of_lines-more : (first : List (List ℕ)) (text : List ℕ) → text_of_lines (first ++ text ∷ []) ≡ text_of_lines first ++ line text
text_of_lines-more first text = flat_map-append line first (text ∷ []) ∙ ap (λ (l : List ℕ). text_of_lines first ++ l) (append-nil (line text))

-- the lines written grow by one
pub Appends-line : (a b c : Option (List ℕ)) (first : List (List ℕ)) (text bytes : List ℕ) → Appends a b (text_of_lines first) → Appends b c bytes → bytes ≡ line text
    → Appends a c (text_of_lines (first ++ text ∷ []))
Appends-line a b c first text bytes written more is =
    subst (Appends a c) (ap (λ (l : List ℕ). text_of_lines first ++ l) is ∙ sym (text_of_lines-more first text)) (Appends-trans a b c _ _ written more)

-- a text was written, and then a part of another
pub AppendsPart-after : (a b c : Option (List ℕ)) (done text more all : List ℕ) → Appends a b done → AppendsPart b c text → all ≡ done ++ (text ++ more) → AppendsPart a c all
AppendsPart-after a b c done text more all written then split = record {
  part = done ++ then.part;
  rest = then.rest ++ more;
  split = split ∙ ap (λ (l : List ℕ). done ++ l) (ap (λ (l : List ℕ). l ++ more) then.split ∙ append_assoc then.part then.rest more) ∙ sym (append_assoc done then.part (then.rest ++ more));
  written = Appends-trans a b c done then.part written then.written;
}

-- some first lines were written, and then a part of the next
pub AppendsPart-of_line : (a b c : Option (List ℕ)) (lines first rest : List (List ℕ)) (text bytes : List ℕ) → lines ≡ first ++ (text ∷ rest) → Appends a b (text_of_lines first)
    → AppendsPart b c bytes → bytes ≡ line text → AppendsPart a c (text_of_lines lines)
AppendsPart-of_line a b c lines first rest text bytes split written part is =
    AppendsPart-after a b c (text_of_lines first) (line text) (text_of_lines rest) (text_of_lines lines) written (subst (AppendsPart b c) is part)
    (ap text_of_lines split ∙ flat_map-append line first (text ∷ rest))

-- some first lines were written, and then the line `memory` was said
pub SaysMemory-of_lines : {X : Type 0} (taken : X → Option (List ℕ)) (faults : X → ℕ) (a b c : X) (lines : List (List ℕ)) → AppendsLines (taken a) (taken b) lines
    → faults a ≤ faults b → Says taken faults b c (line (codes "memory")) → SaysMemory taken faults a c lines
SaysMemory-of_lines taken faults a b c lines written counted said = record {
  first = written.first;
  rest = written.rest;
  split = written.split;
  said = elim said [
    | inl whole ↦ inl (Appends-trans _ _ _ _ _ written.written whole)
    | inr part ↦ inr (AppendsPart-after _ _ _ _ _ [] _ written.written part.0 (ap (λ (l : List ℕ). text_of_lines written.first ++ l) (sym (append-nil (line (codes "memory"))))), omega (arith, counted, part.1))
  ];
}
