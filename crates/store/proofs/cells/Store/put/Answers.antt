use Rattle.std.proofs.Common.{◌≡◌, List, ℕ, ap, ◌∙◌, arith}
use Rattle.term_core.specs.Tree.{Tree}
use Rattle.term_core.specs.Substitution.{apply}
use Rattle.term_core.specs.Variables.{renamed}
use Rattle.store.specs.Cells.{Cells}
use Rattle.store.proofs.Terms.{apply-nil}
use Rattle.store.proofs.Making.{renumbered}
use Rattle.store.proofs.cells.Store.put.Goals as goal

pub returns-clause-ok : goal.returns-clause-ok
returns-clause-ok c =
    let t = renamed c.args.base c.args.t.now in
    let made = c.in_ok-cell.ensures in
    let same : apply c.args.self.now.bound t ≡ t = ap (λ (b : List (ℕ × Tree)). apply b t) made.bound ∙ apply-nil t in
    renumbered c.args.self.now c.put_alone.new.self _ c.in_ok-cell.cell t (apply c.args.self.now.bound t) made.ok (ap (λ (s : Cells). s.trees) c.self.view_is) (omega (arith, c.max-self-inside.ensures, ap (λ (s : Cells). s.next) c.self.view_is)) (ap (λ (s : Cells). s.bound) c.self.view_is) same
