use Rattle.std.proofs.Common.{ℕ, List, ◌++◌, ap, arith, sym, ◌∙◌}
use Rattle.term_core.specs.Tree.{Tree}
use Rattle.solve_model.specs.Goals.{ready_compound}
use Rattle.solve_model.proofs.RowLemmas.{none_added, some_added, added_none, added_by_symbol}
use Rattle.solve_model.proofs.ready.with_arguments.Goals as goal

pub returns-then-is_empty : goal.returns-then-is_empty
returns-then-is_empty c =
    c.in_ok-ready.ensures
    ∙ added_none c.args.goal c.args.added.items (none_added c.args.added.items c.args.added.len (omega (arith, c.args.added.ok.0)) (sym c.is_empty.ensures ∙ c.if-is_empty.true))

pub returns-in-Var : goal.returns-in-Var
returns-in-Var c =
    rw c.in_ok-unbound_goal-in-Var.ensures
    (added_by_symbol c.args.goal _ c.args.added.items (sym c.symbol.ensures ∙ c.in-Var.is) (some_added c.args.added.items c.args.added.len (omega (arith, c.args.added.ok.0)) (sym c.is_empty.ensures ∙ c.if-is_empty.false)))

pub returns-in-Int : goal.returns-in-Int
returns-in-Int c =
    rw (c.in_ok-not_callable-in-Int.ensures, c.in_ok-copied-in-Int.ensures)
    (added_by_symbol c.args.goal _ c.args.added.items (sym c.symbol.ensures ∙ c.in-Int.is) (some_added c.args.added.items c.args.added.len (omega (arith, c.args.added.ok.0)) (sym c.is_empty.ensures ∙ c.if-is_empty.false)))

pub returns-in-Atom : goal.returns-in-Atom
returns-in-Atom c =
    c.in_ok-ready-in-Atom.ensures
    ∙ ap (λ (f : List ℕ). ready_compound f c.args.added.items) c.as_str.ensures
    ∙ added_by_symbol c.args.goal _ c.args.added.items (sym c.symbol.ensures ∙ c.in-Atom.is) (some_added c.args.added.items c.args.added.len (omega (arith, c.args.added.ok.0)) (sym c.is_empty.ensures ∙ c.if-is_empty.false))

pub returns : goal.returns
returns c =
    c.in_ok-ready-in-Comp.ensures
    ∙ ap (λ (f : List ℕ). ready_compound f c.append.new.self.items) c.as_str-in-Comp.ensures
    ∙ ap (λ (ts : List Tree). ready_compound c.in-Comp.name ts) (c.in_ok-append-in-Comp.ensures.items ∙ ap (λ (ts : List Tree). ts ++ c.args.added.items) c.in_ok-arguments-in-Comp.ensures)
    ∙ added_by_symbol c.args.goal _ c.args.added.items (sym c.symbol.ensures ∙ c.in-Comp.is) (some_added c.args.added.items c.args.added.len (omega (arith, c.args.added.ok.0)) (sym c.is_empty.ensures ∙ c.if-is_empty.false))
