use Rattle.std.proofs.Common.{◌≡◌, ◌∙◌, ap, sym, map}
use Rattle.std.proofs.lemmas.Result.{IfOk-weaker, IfErr-weaker}
use Rattle.prolog_read.specs.Clauses.{iso}
use Rattle.prolog_read.specs.Outcome.{clauses_read, read_as, and_then, lexed, clauses}
use Rattle.prolog_read.specs.Views.{tokens_in}
use Rattle.prolog_read.proofs.Placing.{all_tokens}
use Rattle.prolog_read.proofs.Exact.{found_clauses, none_clauses, clauses_numbered, all_numbered}
use Rattle.prolog_read.proofs.Least.{told_syntax, source_syntax_at}
use Rattle.prolog_read.proofs.read.read_clauses.Goals as goal
use Rattle.prolog_read.proofs.read.read_clauses.Goals.{After-drop-tokens}

pub clauses-requires : goal.clauses-requires
clauses-requires c = rw c.deref.ensures.value (all_tokens c.args.text.now c.in_ok-tokens.tokens.items c.in_ok-tokens.ensures.tokens)

at_tokens : (c : After-drop-tokens) → clauses_read iso c.args.text.now ≡ clauses iso c.args.text.now (tokens_in c.deref.result.now)
at_tokens c =
    ap (λ r. and_then (lexed r) (clauses iso c.args.text.now)) c.in_ok-tokens.ensures.tokens
    ∙ ap (λ ts. clauses iso c.args.text.now (tokens_in ts)) (sym c.deref.ensures.value)

pub returns-clause-reads : goal.returns-clause-reads
returns-clause-reads c = IfOk-weaker c.clauses.result _ _ (λ v e. found_clauses c.args.text.now iso (map read_as v.items) (at_tokens c ∙ e)) c.clauses.ensures.ok

pub returns-clause-numbered : goal.returns-clause-numbered
returns-clause-numbered c =
    IfOk-weaker c.clauses.result _ _ (λ v e. let read = found_clauses c.args.text.now iso (map read_as v.items) (at_tokens c ∙ e) in all_numbered v.items (clauses_numbered c.args.text.now iso _ _ read.clauses)) c.clauses.ensures.ok

pub returns-clause-refused : goal.returns-clause-refused
returns-clause-refused c =
    IfErr-weaker c.clauses.result _ _ (λ e h. none_clauses c.args.text.now iso e (rw (at_tokens c) h)) c.clauses.ensures.err

pub returns-clause-syntax : goal.returns-clause-syntax
returns-clause-syntax c =
    IfErr-weaker c.clauses.result _ _ (λ e h. told_syntax (clauses_read iso c.args.text.now) e _ (source_syntax_at c.args.text.now iso) (rw (at_tokens c) h)) c.clauses.ensures.err
