use Rattle.std.proofs.Common.{◌≡◌, ◌∙◌, subst, IfOk}
use Rattle.std.specs.Ordering.{nat_cmp}
use Rattle.std.specs.BTreeMap.{get}
use Rattle.term_core.specs.Flat.{flatten}
use Rattle.term_core.proofs.Preorder.{AreTermNodes-flatten}
use Rattle.term_core.proofs.Renaming.{IsTerm-map_variables}
use Rattle.term_core.proofs.Storing.{parse_of}
use Rattle.prolog_read.specs.Outcome.{read_as}
use Rattle.request_text.specs.Templates.{beside, number_beside}
use Rattle.request_text.proofs.Sharing.{nodes_beside, some_nodes}
use Rattle.request_text.proofs.template.beside.Goals as goal
use Rattle.request_text.proofs.template.beside.Goals.{After-deref}

are : (c : After-deref) → c.deref.result.now ≡ flatten (beside (read_as c.args.goal.now) (read_as c.args.template.now))
are c =
    c.deref.ensures.value
    ∙ nodes_beside (read_as c.args.goal.now) (read_as c.args.template.now) (get nat_cmp c.in_ok-shared.shared) c.in_ok-free.free c.as_slice.result.now c.as_slice-2.result.now c.nodes.result.now _ c.as_slice.ensures c.as_slice-2.ensures c.in_ok-shared.ensures c.in_ok-free.ensures.ok c.nodes.ensures.nodes c.in_ok-nodes.ensures

pub first_of-requires-clause-some : goal.first_of-requires-clause-some
first_of-requires-clause-some c = some_nodes (beside (read_as c.args.goal.now) (read_as c.args.template.now)) _ (are (goal.at.first_of-requires-clause-some c).After-deref)

pub first_of-requires-clause-terms : goal.first_of-requires-clause-terms
first_of-requires-clause-terms c =
    AreTermNodes-flatten (beside (read_as c.args.goal.now) (read_as c.args.template.now)) _ (are (goal.at.first_of-requires-clause-terms c).After-deref)
    (IsTerm-map_variables (number_beside (read_as c.args.goal.now) (read_as c.args.template.now)) c.args.template.now.term c.nodes.ensures.is_term)

pub returns : goal.returns
returns c = subst (λ x. IfOk c.first_of.result (λ t. t ≡ x)) (parse_of (beside (read_as c.args.goal.now) (read_as c.args.template.now)) _ (are (goal.at.returns c).After-deref)) c.first_of.ensures
