use Rattle.std.proofs.Common.{◌≡◌, ◌∙◌, ap, map, option_map, refl}
use Rattle.matchit.specs.Seek.{first}
use Rattle.matchit.specs.Rows.{RowsOf}
use Rattle.matchit.specs.Router.{RouteOf}
use Rattle.matchit.proofs.OnLiterals.{matchit_on_literals}
use Rattle.routes.specs.Paths.{endpoints}
use Rattle.routes.specs.declared.endpoint.Endpoint.{Endpoint}
use Rattle.routes.proofs.Static.{static_first, find_mapped, plain_row}
use Rattle.routes.proofs.router.router.Goals as goal

pub returns : goal.returns
unfolding matchit_on_literals
returns c =
    let a = c.in_ok-insert.ensures in
    let b = c.in_ok-insert-2.ensures in
    let d = c.in_ok-insert-3.ensures in
    let e = c.in_ok-insert-4.ensures in
    let f = c.in_ok-insert-5.ensures in
    let rows : c.insert-5.new.self ≡ map plain_row endpoints = rw (f.1, e.1, d.1, b.1, a.1, c.new-router.ensures) refl in
    λ path. ap (λ (r : RowsOf (RouteOf Endpoint)). option_map (λ e. e.value) (first r path)) rows
    ∙ ap (option_map (λ e. e.value)) (static_first (map plain_row endpoints) path refl)
    ∙ find_mapped (λ e. e.value) (map plain_row endpoints) path
