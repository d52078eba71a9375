-- What is written of what is sent is read as that again.
use Rattle.std.proofs.Common.{◌≡◌, ◌≢◌, ℕ, zero, suc, ◌≤◌, Bool, true, false, not, List, [], ◌∷◌, ◌++◌, length, Option, Some, None, Ok, refl, ap, sym, arith, codes, if◌then◌else◌}
use Rattle.std.specs.Ordering.{is_eq}
use Rattle.std.specs.declared.cmp.Ordering.{Ordering}
use Rattle.std.specs.declared.cmp.Ordering.TheVariants.{Less, Equal, Greater}
use Rattle.std.specs.List.{list_all}
use Rattle.std.proofs.lemmas.Bool.{and_parts, le-leb, false≢true}
use Rattle.term_core.specs.Tree.{Tree}
use Rattle.term_core.specs.Order.{tree_cmp}
use Rattle.term_core.specs.OrderLaws.{same_from_tree_cmp}
use Rattle.term_core.specs.Variables.{map_variables, place_of, variables, numbered}
use Rattle.prolog_write.specs.declared.mode.Mode.TheVariants.{Quoted}
use Rattle.prolog_read.specs.Clauses.{iso}
use Rattle.prolog_read.specs.Outcome.{term_read}
use Rattle.prolog_read.proofs.Exact.{reads_found}
use Rattle.prolog_read.specs.Variables.{Names}
use Rattle.read_back.specs.Laws.{is_hidden, AreHidden, WhatIsWrittenIsReadAgain}
use Rattle.builtin_table.specs.Lists as lists
use Rattle.builtin_table.specs.Errors.{one_argument}
use Rattle.event_core.specs.declared.request.Request.TheVariants as request
use Rattle.event_core.specs.declared.limits.TheConstants.{MAX_CHUNK}
use Rattle.request_text.specs.declared.sent.Sent.{Sent}
use Rattle.request_text.specs.declared.sent.Sent.TheVariants.{Request as Asks, Abort, Destroy}
use Rattle.request_text.specs.Shapes.{number_up_to}
use Rattle.request_text.specs.Requests.{named, request_of}
use Rattle.request_text.specs.Templates.{is_told, told_before, told_names}
use Rattle.request_text.specs.Written.{number_term, next_term, chunk_option, goal_with, sent_term, sent_text, sent_mapped, HasChunk, IsChunk, RequestsAreReadAgain}

number_found : (n : ℕ) → 1 ≤ n → n ≤ MAX_CHUNK → number_up_to MAX_CHUNK (number_term n) ≡ Some n
number_found n low high = rw (le-leb 1 n low, le-leb n MAX_CHUNK high) refl

pub chunk_named : (n : ℕ) → n ≢ 0 → chunk_option n ≡ one_argument (codes "chunk") (number_term n) ∷ []
chunk_named zero h = absurd (h refl)
chunk_named (suc n) h = refl

module _ (f : ℕ → ℕ) (bytes : ℕ) where
  abbrev asked : Tree → Tree → ℕ → Option Sent
  asked g t c = Some (Asks (request.Ask (record { goal = map_variables f g; template = map_variables f t; names = []; chunk = c; bytes = bytes })))

  -- an ask with these options, where `same` says whether the template is the goal
  ask_with_options : (g t : Tree) (same : Bool) (c : ℕ) → IsChunk c → (same ≡ true → t ≡ g) →
      request_of bytes (map_variables f (goal_with g ((if same then [] else one_argument (codes "template") t ∷ []) ++ chunk_option c))) ≡ asked g t c
  unfolding lists.elements lists.elements_of_cell lists.rest lists.rest_of_cell
  ask_with_options g t true zero h e = ap (λ x. asked g x zero) (sym (e refl))
  ask_with_options g t false zero h e = refl
  ask_with_options g t true (suc n) h e = rw (number_found (suc n) (omega arith) h) (ap (λ x. asked g x (suc n)) (sym (e refl)))
  ask_with_options g t false (suc n) h e = rw (number_found (suc n) (omega arith) h) refl

  same_template : (g t : Tree) (o : Ordering) → o ≡ tree_cmp t g → is_eq o ≡ true → t ≡ g
  same_template g t Less e h = absurd (false≢true h)
  same_template g t Greater e h = absurd (false≢true h)
  same_template g t Equal e h = same_from_tree_cmp t g (sym e)

  next_again : (c : Option ℕ) → HasChunk (Asks (request.Next c)) → request_of bytes (map_variables f (next_term c)) ≡ Some (Asks (request.Next c))
  next_again None h = refl
  next_again (Some n) h = rw (number_found n h.0 h.1) refl

  sent_found : (s : Sent) → HasChunk s → request_of bytes (map_variables f (sent_term s)) ≡ Some (sent_mapped f bytes s)
  sent_found (Asks (request.Ask a)) h =
      ask_with_options a.goal a.template (is_eq (tree_cmp a.template a.goal)) a.chunk h (same_template a.goal a.template (tree_cmp a.template a.goal) refl)
  sent_found (Asks (request.Next c)) h = next_again c h
  sent_found (Asks request.Stop) h = refl
  sent_found (Asks (request.Respond t)) h = refl
  sent_found Abort h = refl
  sent_found Destroy h = refl

-- no name of the writer's is told
none_told : (ns : Names) → AreHidden ns → told_names ns ≡ []
unfolding told_before
none_told [] h = refl
none_told (p ∷ ps) h =
    let q = and_parts (is_hidden p.0) (list_all (λ r. is_hidden r.0) ps) h in
    rw (not_told p.0 q.0) (none_told ps q.1)
  where
    not_told : (w : List ℕ) → is_hidden w ≡ true → is_told w ≡ false
    not_told [] e = cc
    not_told (c ∷ cs) e = ap not e

unnamed : (f : ℕ → ℕ) (bytes : ℕ) (s : Sent) → named [] (sent_mapped f bytes s) ≡ sent_mapped f bytes s
unnamed f bytes (Asks (request.Ask a)) = refl
unnamed f bytes (Asks (request.Next c)) = refl
unnamed f bytes (Asks request.Stop) = refl
unnamed f bytes (Asks (request.Respond t)) = refl
unnamed f bytes Abort = refl
unnamed f bytes Destroy = refl

pub read_again : WhatIsWrittenIsReadAgain → RequestsAreReadAgain
read_again law s h sound shallow =
    let r = (law Quoted (sent_term s) refl sound shallow).alone in
    let found : term_read iso (sent_text s) ≡ Ok (numbered (sent_term s), r.names) = reads_found iso (sent_text s) (numbered (sent_term s)) r.names r.reads in
    let f : ℕ → ℕ = λ n. place_of n (variables (sent_term s)) in
    let bytes : ℕ = length (sent_text s) in
    rw (found, sent_found f bytes s h, none_told r.names r.hidden) (ap Ok (unnamed f bytes s))
