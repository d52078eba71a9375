-- What a request asks, of its method, its target and its body.
use Rattle.std.specs.Prelude.{ℕ, List, Result, Ok, Err}
use Rattle.routes.specs.declared.asked.Asked.{Asked}
use Rattle.routes.specs.declared.asked.Asked.TheVariants as asked
use Rattle.routes.specs.declared.creation.Creation.{Creation}
use Rattle.routes.specs.declared.endpoint.Endpoint.{Endpoint}
use Rattle.routes.specs.declared.endpoint.Endpoint.TheVariants.{Create, Send, Pull, Abort, Destroy}
use Rattle.routes.specs.declared.fault.RouteFault.{RouteFault}
use Rattle.routes.specs.Asked.{◌>>=◌, send_by, pull_by, abort_by, destroy_by, endpoint_by}
use Rattle.routes.specs.Creations.{creation_by}
use Rattle.routes.specs.Params.{first_param}
use Rattle.routes.specs.Paths.{Text, path_of, query_of}

abbrev pub create_by : (body : List ℕ) → Result Asked RouteFault
create_by body = creation_by body >>= λ c. Ok (asked.Create c)

-- at a path of the server, by its one method
abbrev pub asked_at : Endpoint → (query body : List ℕ) → Result Asked RouteFault
asked_at Create query body = create_by body
asked_at Send query body = send_by body (first_param query)
asked_at Pull query body = pull_by (first_param query)
asked_at Abort query body = abort_by (first_param query)
asked_at Destroy query body = destroy_by (first_param query)

abbrev pub asked_by : (method target : Text) (body : List ℕ) → Result Asked RouteFault
asked_by method target body = endpoint_by method (path_of target) >>= λ e. asked_at e (query_of target) body
