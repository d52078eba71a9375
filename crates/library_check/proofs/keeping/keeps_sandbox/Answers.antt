use Rattle.std.proofs.Common.{map, ap, ◌∙◌}
use Rattle.std.proofs.lemmas.Result.{IfOk-weaker}
use Rattle.std.specs.List.{list_all}
use Rattle.builtin_table.specs.Table.{Rows}
use Rattle.sandbox_walk.specs.Keeping.{clause_keeps}
use denote.Bor.{Bor}
use Rattle.program.specs.declared.clause.Clause as kept
use Rattle.program.specs.Kept.{clause_of}
use Rattle.library_check.proofs.Kept.{refused_clause, refused_open, there_keeps}
use Rattle.library_check.proofs.keeping.keeps_sandbox.Goals as goal

pub clauses_keep-requires : goal.clauses_keep-requires
clauses_keep-requires c = (c.args.program.now.app, c.in_ok-table.ensures)

pub returns-then-not-branch : goal.returns-then-not-branch
returns-then-not-branch c =
    refused_clause c.args.program.now.app c.args.program.now.clauses (map (λ (x : Bor kept.Clause). clause_of x.now) c.deref.result.now) c.in_ok-clauses_keep.field-0
    (ap (map (λ (x : Bor kept.Clause). clause_of x.now)) c.deref.ensures.value ∙ c.in_ok-clauses.ensures) (c.in_ok-clauses_keep.ensures ∙ ap (λ (rows : Rows). list_all (clause_keeps rows) (map (λ (x : Bor kept.Clause). clause_of x.now) c.deref.result.now)) c.in_ok-table.ensures) c.if-not-branch.true

pub returns-then-not-branch-2 : goal.returns-then-not-branch-2
returns-then-not-branch-2 c =
    refused_open c.args.program.now.app c.args.program.now.clauses (map (λ (x : Bor kept.Clause). clause_of x.now) c.deref.result.now) c.in_ok-clauses_keep.field-0
    (ap (map (λ (x : Bor kept.Clause). clause_of x.now)) c.deref.ensures.value ∙ c.in_ok-clauses.ensures) (c.in_ok-clauses_keep.ensures ∙ ap (λ (rows : Rows). list_all (clause_keeps rows) (map (λ (x : Bor kept.Clause). clause_of x.now) c.deref.result.now)) c.in_ok-table.ensures) c.if-not-branch.false
    c.in_ok-are_closed.field-0 c.in_ok-are_closed.ensures c.if-not-branch-2.true

pub returns : goal.returns
returns c =
    IfOk-weaker c.are_there.result _ _
    (λ b h. there_keeps c.args.program.now.app c.args.program.now.clauses (map (λ (x : Bor kept.Clause). clause_of x.now) c.deref.result.now) c.in_ok-clauses_keep.field-0
    (ap (map (λ (x : Bor kept.Clause). clause_of x.now)) c.deref.ensures.value ∙ c.in_ok-clauses.ensures) (c.in_ok-clauses_keep.ensures ∙ ap (λ (rows : Rows). list_all (clause_keeps rows) (map (λ (x : Bor kept.Clause). clause_of x.now) c.deref.result.now)) c.in_ok-table.ensures) c.if-not-branch.false
    c.in_ok-are_closed.field-0 c.in_ok-are_closed.ensures c.if-not-branch-2.false b h)
    c.are_there.ensures
