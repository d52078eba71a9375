-- The request that a term spells (after Lager and Wielemaker, TPLP 2014, section 3).
use Rattle.std.specs.Prelude.{ℕ, List, [], ◌∷◌, Option, Some, None, if◌then◌else◌, codes, bytes_eq}
use Rattle.term_core.specs.Tree.{Tree, atom, compound, tree_list}
use Rattle.event_core.specs.declared.request.Request.TheVariants as request
use Rattle.request_text.specs.declared.sent.Sent.{Sent}
use Rattle.request_text.specs.declared.sent.Sent.TheVariants.{Request, Abort, Destroy}
use Rattle.prolog_read.specs.Variables.{Names}
use Rattle.request_text.specs.Shapes.{number_up_to}
use Rattle.event_core.specs.declared.limits.TheConstants.{MAX_CHUNK}
use Rattle.request_text.specs.Options.{and_then, ask_with}

abbrev pub atom_request : List ℕ → Option Sent
atom_request f =
    if bytes_eq f (codes "next") then Some (Request (request.Next None))
    else if bytes_eq f (codes "stop") then Some (Request request.Stop)
    else if bytes_eq f (codes "abort") then Some Abort
    else if bytes_eq f (codes "destroy") then Some Destroy
    else None

-- an ask with these names, which its answers may carry
abbrev pub named : Names → Sent → Sent
named ns (Request (request.Ask a)) = Request (request.Ask (record a { names = ns }))
named ns s = s

-- The answers to an ask without a template are instances of its goal.
abbrev pub one_argument_request : ℕ → List ℕ → Tree → Option Sent
one_argument_request bytes f t =
    if bytes_eq f (codes "ask") then Some (Request (request.Ask (record { goal = t; template = t; names = []; chunk = 0; bytes = bytes })))
    else if bytes_eq f (codes "next") then and_then (number_up_to MAX_CHUNK t) (λ n. Some (Request (request.Next (Some n))))
    else if bytes_eq f (codes "respond") then Some (Request (request.Respond t))
    else None

abbrev pub two_argument_request : ℕ → List ℕ → Tree → Tree → Option Sent
two_argument_request bytes f t u =
    if bytes_eq f (codes "ask") then and_then (ask_with bytes t u) (λ a. Some (Request (request.Ask a)))
    else None

abbrev pub compound_request : ℕ → List ℕ → List Tree → Option Sent
compound_request bytes f (t ∷ []) = one_argument_request bytes f t
compound_request bytes f (t ∷ u ∷ []) = two_argument_request bytes f t u
compound_request bytes f ts = None

-- the request of a term that was read from so many bytes
abbrev pub request_of : ℕ → Tree → Option Sent
request_of bytes (atom f) = atom_request f
request_of bytes (compound f ts) = compound_request bytes f (tree_list ts)
request_of bytes t = None
