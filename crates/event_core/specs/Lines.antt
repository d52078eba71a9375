-- The line of an event, without its line end.
use Rattle.std.specs.Prelude.{ℕ, Bool, true, false, List, [], ◌∷◌, ◌++◌, codes}
use Rattle.std.specs.List.{flat_map}
use Rattle.term_core.specs.Tree.{Tree}
use Rattle.event_core.specs.declared.event.Kind.{Kind}
use Rattle.event_core.specs.declared.event.Kind.TheVariants as kind
use Rattle.event_core.specs.declared.event.Event.{Event}
use Rattle.event_core.specs.declared.event.Event.TheVariants as event

abbrev pub bool_text : Bool → List ℕ
bool_text true = codes "true"
bool_text false = codes "false"

abbrev pub kind_text : Kind → List ℕ
kind_text kind.Ask = codes "ask"
kind_text kind.Next = codes "next"
kind_text kind.Stop = codes "stop"
kind_text kind.Respond = codes "respond"

-- `argument` is the text of a term with quotes, as the argument of a compound
module _ (argument : Tree → List ℕ) where
  -- a comma before each term
  abbrev pub further_text : List Tree → List ℕ
  further_text ts = flat_map (λ t. codes "," ++ argument t) ts

  -- terms with commas between them
  abbrev pub list_text : List Tree → List ℕ
  list_text [] = []
  list_text (t ∷ ts) = argument t ++ further_text ts

  abbrev pub line_of : Event → List ℕ
  line_of event.Create = codes "create"
  line_of (event.Success ts names more) = codes "success([" ++ list_text ts ++ codes "]," ++ bool_text more ++ codes ")"
  line_of event.Failure = codes "failure"
  line_of (event.Error t) = codes "error(" ++ argument t ++ codes ")"
  line_of (event.Protocol k) = codes "error(protocol_error(" ++ kind_text k ++ codes "))"
  line_of (event.Output t) = codes "output(" ++ argument t ++ codes ")"
  line_of (event.Prompt t) = codes "prompt(" ++ argument t ++ codes ")"
  line_of event.Stop = codes "stop"
  line_of event.Abort = codes "abort"
  line_of event.Destroy = codes "destroy"
  line_of event.Limit = codes "limit"
  line_of event.Memory = codes "memory"
