-- The names of variables in a written text are the writer's.
use Rattle.std.proofs.Common.{◌≡◌, ℕ, Bool, true, false, List, [], ◌∷◌, ◌++◌, suc, if◌then◌else◌, codes, refl}
use Rattle.std.specs.List.{list_all}
use Rattle.std.specs.Option.{is_some}
use Rattle.std.specs.Str.{bytes_eq}
use Rattle.std.proofs.lemmas.Bool.{and_parts}
use Rattle.term_core.specs.Tokens.{Value, Token, value}
use Rattle.prolog_read.specs.Variables.{Names, Numbering, lookup}
use Rattle.prolog_read.specs.Lexemes.{Before, is_pair, variables_behind, behind, behind_pair}
use Rattle.prolog_read.specs.Lexemes as reader
use Rattle.read_back.specs.Laws.{is_hidden, AreHidden}
use Rattle.read_back.proofs.Spelled.{Item, variable_item, integer_item, name_item, mark_item, prefix_item, infix_item}
use Rattle.read_back.proofs.Segments.{Segment, space, written}
use Rattle.read_back.proofs.Seen.{Seen, seen, seen_of}
use Rattle.read_back.proofs.Keys.{item_names, variable_name}

-- what it stands for adds hidden names alone
abbrev pub Hides : Value → Type 0
Hides v = (s : Numbering) → AreHidden s.names → AreHidden (variables_behind v s).names

abbrev pub Hide : List Segment → Type 0
Hide [] = Unit {0}
Hide (space ∷ ss) = Hide ss
Hide (written kind w ∷ ss) = Hides (value kind w) × Hide ss

abbrev pub AllHide : List Seen → Type 0
AllHide [] = Unit {0}
AllHide (t ∷ ts) = Hides t.value × AllHide ts

hidden_more : (ns : Names) (w : List ℕ) (k : ℕ) → AreHidden ns → is_hidden w ≡ true → AreHidden (ns ++ (w, k) ∷ [])
hidden_more [] w k h e = rw e refl
hidden_more (p ∷ ps) w k h e =
    let q = and_parts (is_hidden p.0) (list_all (λ r. is_hidden r.0) ps) h in
    rw (q.0, hidden_more ps w k q.1 e) refl

pub item_hides : (x : Item) (s : Numbering) → AreHidden s.names → AreHidden (item_names s x).names
item_hides (variable_item n) s h = by (bytes_eq (variable_name n) (codes "_")) (is_some (lookup (variable_name n) s.names))
  where
    by : (b c : Bool) →
        AreHidden (if b then record { names = s.names; next = suc s.next } else (if c then s else record { names = s.names ++ (variable_name n, s.next) ∷ []; next = suc s.next })).names
    by true c = h
    by false true = h
    by false false = hidden_more s.names (variable_name n) s.next h refl
item_hides (integer_item z) s h = h
item_hides (name_item f) s h = h
item_hides (mark_item m) s h = h
item_hides (prefix_item f) s h = h
item_hides (infix_item f) s h = h

pub seen_hide : (d : Bool) (ss : List Segment) → Hide ss → AllHide (seen d ss)
seen_hide d [] h = tt
seen_hide d (space ∷ ss) h = seen_hide false ss h
seen_hide d (written kind w ∷ ss) h = (h.0, seen_hide true ss h.1)

pub names_hidden : (text : List ℕ) (b : Before) (ts : List Token) → AllHide (seen_of text b.to ts) → AreHidden b.variables.names → AreHidden (reader.behind_all text b ts).variables.names
unfolding reader.behind_all
names_hidden text b [] h a = a
names_hidden text b (t ∷ []) h a = h.0 b.variables a
names_hidden text b (t ∷ u ∷ ts) h a =
    by (is_pair t.kind u.kind) (names_hidden text (behind_pair b u) ts h.1.1 a) (names_hidden text (behind text b t) (u ∷ ts) h.1 (h.0 b.variables a))
  where
    by : (c : Bool) → AreHidden (reader.behind_all text (behind_pair b u) ts).variables.names → AreHidden (reader.behind_all text (behind text b t) (u ∷ ts)).variables.names →
        AreHidden (if c then reader.behind_all text (behind_pair b u) ts else reader.behind_all text (behind text b t) (u ∷ ts)).variables.names
    by true p q = p
    by false p q = q
