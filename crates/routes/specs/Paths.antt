-- The paths of the server, and the parts of a request's target (RFC 3986, sections 3.3 and 3.4).
use Rattle.std.specs.Prelude.{ℕ, List, [], ◌∷◌, Option, Some, None, codes, cond, ◌==◌}
use Rattle.std.specs.List.{before_first, after_first}
use Rattle.std.specs.Str.{bytes_eq}
use Rattle.routes.specs.declared.endpoint.Endpoint.{Endpoint}
use Rattle.routes.specs.declared.endpoint.Endpoint.TheVariants.{Create, Send, Pull, Abort, Destroy}
use Rattle.routes.specs.declared.endpoint.Allowed.{Allowed}
use Rattle.routes.specs.declared.endpoint.Allowed.TheVariants.{Get, Post}

abbrev pub Text : Type 0
Text = List ℕ

-- up to the first `?`, and what stands behind it
abbrev pub path_of : Text → Text
path_of target = before_first (λ b. b == 63) target

abbrev pub query_of : Text → Text
query_of target = after_first (λ b. b == 63) target

-- the first row whose text is the path
abbrev pub find_row : {K : Type 0} → List (Text × K) → Text → Option K
find_row [] path = None
find_row (r ∷ rest) path = cond (bytes_eq r.0 path) (Some r.1) (find_row rest path)

abbrev pub endpoints : List (Text × Endpoint)
endpoints = (codes "/pengine/abort", Abort) ∷ (codes "/pengine/create", Create) ∷ (codes "/pengine/destroy", Destroy)
    ∷ (codes "/pengine/pull_response", Pull) ∷ (codes "/pengine/send", Send) ∷ []

abbrev pub endpoint_of : Text → Option Endpoint
endpoint_of path = find_row endpoints path

-- the one method of an endpoint
abbrev pub allowed : Endpoint → Allowed
allowed Pull = Get
allowed _ = Post

abbrev pub method_name : Allowed → Text
method_name Get = codes "GET"
method_name Post = codes "POST"
