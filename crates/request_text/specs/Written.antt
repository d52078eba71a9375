-- The text of what is sent, and what it is read as again.
use Rattle.std.specs.Prelude.{◌≡◌, ℕ, zero, suc, ◌≤◌, ⊤, List, [], ◌∷◌, ◌++◌, length, pos, Option, Some, None, Ok, if◌then◌else◌, codes}
use Rattle.std.specs.Ordering.{is_eq}
use Rattle.term_core.specs.Tree.{Tree, integer, atom, depth}
use Rattle.term_core.specs.Order.{tree_cmp}
use Rattle.term_core.specs.Variables.{map_variables, place_of, variables}
use Rattle.prolog_write.specs.declared.mode.Mode.TheVariants.{Quoted}
use Rattle.prolog_write.specs.Text.{text}
use Rattle.read_back.specs.Sound.{IsSound}
use Rattle.builtin_table.specs.Errors.{one_argument, two_arguments}
use Rattle.builtin_table.specs.Lists.{list_of}
use Rattle.event_core.specs.declared.request.Ask.{Ask}
use Rattle.event_core.specs.declared.request.Request.TheVariants as request
use Rattle.event_core.specs.declared.request.Request.{Request}
use Rattle.event_core.specs.declared.limits.TheConstants.{MAX_CHUNK}
use Rattle.request_text.specs.declared.sent.Sent.{Sent}
use Rattle.request_text.specs.declared.sent.Sent.TheVariants.{Request as Asks, Abort, Destroy}
use Rattle.request_text.specs.Spelled.{sent_in}

-- ---- the text

abbrev pub number_term : ℕ → Tree
number_term n = integer (pos n)

-- the template of an ask, where it isn't the goal
abbrev pub template_option : Ask → List Tree
template_option a = if is_eq (tree_cmp a.template a.goal) then [] else one_argument (codes "template") a.template ∷ []

-- a chunk, where it isn't the pengine's
abbrev pub chunk_option : ℕ → List Tree
chunk_option zero = []
chunk_option (suc n) = one_argument (codes "chunk") (number_term (suc n)) ∷ []

abbrev pub goal_with : Tree → (options : List Tree) → Tree
goal_with goal [] = one_argument (codes "ask") goal
goal_with goal (o ∷ os) = two_arguments (codes "ask") goal (list_of (o ∷ os))

abbrev pub ask_term : Ask → Tree
ask_term a = goal_with a.goal (template_option a ++ chunk_option a.chunk)

abbrev pub next_term : Option ℕ → Tree
next_term None = atom (codes "next")
next_term (Some n) = one_argument (codes "next") (number_term n)

abbrev pub request_term : Request → Tree
request_term (request.Ask a) = ask_term a
request_term (request.Next c) = next_term c
request_term request.Stop = atom (codes "stop")
request_term (request.Respond t) = one_argument (codes "respond") t

-- the term that is written
abbrev pub sent_term : Sent → Tree
sent_term (Asks r) = request_term r
sent_term Abort = atom (codes "abort")
sent_term Destroy = atom (codes "destroy")

-- An ask names its template where that isn't its goal, and its chunk where that isn't 0.
abbrev pub sent_text : Sent → List ℕ
sent_text s = text Quoted (sent_term s)

-- ---- what it is read as again

-- f of each variable's number, and how many bytes the text has
module _ (f : ℕ → ℕ) (bytes : ℕ) where
  abbrev pub ask_mapped : Ask → Ask
  ask_mapped a = record { goal = map_variables f a.goal; template = map_variables f a.template; names = []; chunk = a.chunk; bytes = bytes }

  abbrev pub request_mapped : Request → Request
  request_mapped (request.Ask a) = request.Ask (ask_mapped a)
  request_mapped (request.Next c) = request.Next c
  request_mapped request.Stop = request.Stop
  request_mapped (request.Respond t) = request.Respond (map_variables f t)

  abbrev pub sent_mapped : Sent → Sent
  sent_mapped (Asks r) = Asks (request_mapped r)
  sent_mapped Abort = Abort
  sent_mapped Destroy = Destroy

-- its variables numbered from 0 by first occurrence in the text
abbrev pub sent_again : Sent → Sent
sent_again s = sent_mapped (λ n. place_of n (variables (sent_term s))) (length (sent_text s)) s

abbrev pub IsChunk : ℕ → Type 0
IsChunk zero = ⊤
IsChunk (suc n) = suc n ≤ MAX_CHUNK

-- the numbers of answers are in their limits: a `next` has none, or from 1 to 1,000
abbrev pub HasChunk : Sent → Type 0
HasChunk (Asks (request.Ask a)) = IsChunk a.chunk
HasChunk (Asks (request.Next (Some n))) = (1 ≤ n) × (n ≤ MAX_CHUNK)
HasChunk s = ⊤

-- What is written of what is sent is read as that again, and its text is no longer than what a reader takes: the depth of the written term is at most 1,000.
-- No names are told, since those of the text's variables are the writer's.
abbrev pub RequestsAreReadAgain : Type 0
RequestsAreReadAgain =
    (s : Sent) → HasChunk s → IsSound (sent_term s) → depth (sent_term s) ≤ 1000 →
    sent_in (sent_text s) ≡ Ok (sent_again s)
