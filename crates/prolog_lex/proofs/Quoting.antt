-- What a turn of a loop over the parts in quotes takes.
use Rattle.std.specs.Prelude.{◌≡◌, refl, ℕ, zero, suc, ◌+◌, ◌-◌, ◌<◌, ◌≤◌, List, [], ◌∷◌, ◌++◌, length, drop, Option, Some, None, option_map, if◌then◌else◌}
use Rattle.std.specs.Option.{option_or}
use Rattle.std.proofs.Common.{arith, ap, ◌∙◌, sym, append_assoc}
use Rattle.std.proofs.lemmas.List.{drop-drop, length-drop}
use Rattle.term_core.specs.Tokens.{Text, Kind, Front, fault, unclosed, Part, character, joint, refused, closing, part, part_len, begun, parts, is_closed, parts_len, first_refused, characters_of, closed, quoted, held}

-- so many characters of what was read before
parts-skip : (quote n : ℕ) (t : Text) → n ≤ length t → parts quote n t ≡ parts quote 0 (drop n t)
unfolding parts
parts-skip quote zero t l = refl
parts-skip quote (suc n) [] l = absurd (omega arith)
parts-skip quote (suc n) (c ∷ t) l = parts-skip quote n t (omega arith)

parts-rest : (quote n c : ℕ) (t : Text) → 1 ≤ n → n ≤ suc (length t) → parts quote (n - 1) t ≡ parts quote 0 (drop n (c ∷ t))
parts-rest quote zero c t l u = absurd (omega arith)
parts-rest quote (suc n) c t l u = let less : suc n - 1 ≡ n = omega arith in rw less (parts-skip quote n t (omega arith))

parts-front : (quote : ℕ) (p : Part) (t : Text) → p ≡ part quote t → 1 ≤ length t → 1 ≤ part_len p → part_len p ≤ length t →
    parts quote 0 t ≡ begun p (parts quote 0 (drop (part_len p) t))
unfolding parts
parts-front quote p [] e z l u = absurd (omega arith)
parts-front quote p (c ∷ t) e z l u = rw (sym e) (ap (begun p) (parts-rest quote (part_len p) c t l (omega (arith, u))))

-- what is read from a place of a text on, by the part that stands there
pub parts-at : (quote at : ℕ) (p : Part) (cs rest : Text) → at < length cs → rest ≡ drop at cs → p ≡ part quote rest → (1 ≤ part_len p) × (part_len p ≤ length rest) →
    parts quote 0 (drop at cs) ≡ begun p (parts quote 0 (drop (at + part_len p) cs))
parts-at quote at p cs rest h r e w =
    let some : 1 ≤ length (drop at cs) = rw (length-drop at cs) (omega arith) in
    let same : p ≡ part quote (drop at cs) = rw (sym r) e in
    let fits : part_len p ≤ length (drop at cs) = rw (sym r) w.1 in
    parts-front quote p (drop at cs) same some w.0 fits ∙ ap (λ t. begun p (parts quote 0 t)) (drop-drop (part_len p) at cs)

pub part-within : (at n : ℕ) (cs rest : Text) → at < length cs → rest ≡ drop at cs → (1 ≤ n) × (n ≤ length rest) → at + n ≤ length cs
part-within at n cs rest h r w = let e = length-drop at cs in let same = ap length r in omega (arith, e, same, w)

pub no_parts : (quote at : ℕ) (cs : Text) → length cs ≤ at → parts quote 0 (drop at cs) ≡ []
unfolding parts
no_parts quote zero [] l = refl
no_parts quote zero (c ∷ cs) l = absurd (omega arith)
no_parts quote (suc at) [] l = refl
no_parts quote (suc at) (c ∷ cs) l = no_parts quote at cs (omega arith)

-- ---- the token that is in quotes

-- the token or the fault, where these parts stand behind so many characters, among which the first bad escape stands there
abbrev pub resumed : Kind → ℕ → Option ℕ → List Part → Front
resumed kind at bad ps =
    if is_closed ps then closed kind (at + parts_len ps) (option_or bad (option_map (λ m. at + m) (first_refused ps))) else fault unclosed 0

further : (at n : ℕ) (o : Option ℕ) → option_map (λ m. at + m) (option_map (λ m. n + m) o) ≡ option_map (λ m. (at + n) + m) o
further at n None = refl
further at n (Some m) = ap Some (omega arith)

summed : (at n m : ℕ) → at + (n + m) ≡ (at + n) + m
summed at n m = omega arith

pub resumed-closing : (kind : Kind) (at : ℕ) (bad : Option ℕ) (ps : List Part) → resumed kind at bad (begun closing ps) ≡ closed kind (at + 1) bad
resumed-closing kind at None ps = ap (λ n. closed kind n None) (omega arith)
resumed-closing kind at (Some m) ps = refl

pub resumed-character : (kind : Kind) (at c n : ℕ) (bad : Option ℕ) (ps : List Part) → resumed kind at bad (begun (character c n) ps) ≡ resumed kind (at + n) bad ps
resumed-character kind at c n bad ps = rw (summed at n (parts_len ps), further at n (first_refused ps)) refl

pub resumed-joint : (kind : Kind) (at n : ℕ) (bad : Option ℕ) (ps : List Part) → resumed kind at bad (begun (joint n) ps) ≡ resumed kind (at + n) bad ps
resumed-joint kind at n bad ps = rw (summed at n (parts_len ps), further at n (first_refused ps)) refl

pub resumed-refused : (kind : Kind) (at n : ℕ) (bad : Option ℕ) (ps : List Part) → resumed kind at bad (begun (refused n) ps) ≡ resumed kind (at + n) (option_or bad (Some at)) ps
resumed-refused kind at n None ps = let same : at + 0 ≡ at = omega arith in rw same refl
resumed-refused kind at n (Some m) ps = refl

-- a turn, by what the part that it reads changes
pub quoted-turn : (next : List Part → Front) (kind : Kind) (at : ℕ) (bad : Option ℕ) (quote : ℕ) (p : Part) (cs rest : Text) (whole : Front) →
    whole ≡ resumed kind at bad (parts quote 0 (drop at cs)) → at < length cs → rest ≡ drop at cs → p ≡ part quote rest → (1 ≤ part_len p) × (part_len p ≤ length rest) →
    ((ps : List Part) → resumed kind at bad (begun p ps) ≡ next ps) → whole ≡ next (parts quote 0 (drop (at + part_len p) cs))
quoted-turn next kind at bad quote p cs rest whole i h r e w step =
    i ∙ ap (resumed kind at bad) (parts-at quote at p cs rest h r e w) ∙ step (parts quote 0 (drop (at + part_len p) cs))

pub quoted-resumed : (quote : ℕ) (kind : Kind) (cs : Text) → quoted quote kind cs ≡ resumed kind 1 None (parts quote 0 (drop 1 cs))
unfolding quoted
quoted-resumed quote kind cs = refl

-- ---- the characters that quotes hold

pub held-first : (quote : ℕ) (cs : Text) → held quote cs ≡ [] ++ characters_of (parts quote 0 (drop 1 cs))
unfolding held
held-first quote cs = refl

pub nothing_held : (quote : ℕ) (cs : Text) → length cs ≤ 1 → held quote cs ≡ []
unfolding held
nothing_held quote cs l = ap characters_of (no_parts quote 1 cs l)

pub held-character : (done : Text) (c n : ℕ) (ps : List Part) → done ++ characters_of (begun (character c n) ps) ≡ (done ++ c ∷ []) ++ characters_of ps
held-character done c n ps = sym (append_assoc done (c ∷ []) (characters_of ps))
