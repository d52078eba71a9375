use Rattle.std.proofs.Common.{◌≡◌, ◌∙◌, ap, sym}
use Rattle.std.proofs.lemmas.Result.{IfOk-weaker, IfErr-weaker}
use Rattle.prolog_read.specs.Outcome.{term_read, read_as, and_then, lexed, only_term}
use Rattle.prolog_read.specs.Views.{tokens_in}
use Rattle.prolog_read.proofs.Placing.{all_tokens}
use Rattle.prolog_read.proofs.Exact.{found_reads, none_reads}
use Rattle.prolog_read.proofs.Least.{told_syntax, syntax_at}
use Rattle.prolog_read.proofs.Numbering.{term_numbered}
use Rattle.prolog_read.proofs.read.read_term.Goals as goal
use Rattle.prolog_read.proofs.read.read_term.Goals.{After-drop-tokens}

pub only_term-requires : goal.only_term-requires
only_term-requires c = rw c.deref.ensures.value (all_tokens c.args.text.now c.in_ok-tokens.tokens.items c.in_ok-tokens.ensures.tokens)

at_tokens : (c : After-drop-tokens) → term_read c.args.ops.now c.args.text.now ≡ only_term c.args.ops.now c.args.text.now (tokens_in c.deref.result.now)
at_tokens c =
    ap (λ r. and_then (lexed r) (only_term c.args.ops.now c.args.text.now)) c.in_ok-tokens.ensures.tokens
    ∙ ap (λ ts. only_term c.args.ops.now c.args.text.now (tokens_in ts)) (sym c.deref.ensures.value)

pub returns-clause-reads : goal.returns-clause-reads
returns-clause-reads c = IfOk-weaker c.only_term.result _ _ (λ r e. found_reads c.args.ops.now c.args.text.now (read_as r) (at_tokens c ∙ e)) c.only_term.ensures.ok

pub returns-clause-numbered : goal.returns-clause-numbered
returns-clause-numbered c =
    IfOk-weaker c.only_term.result _ _ (λ r e. let read = found_reads c.args.ops.now c.args.text.now (read_as r) (at_tokens c ∙ e) in term_numbered c.args.ops.now c.args.text.now _ r.term r.names read.term) c.only_term.ensures.ok

pub returns-clause-refused : goal.returns-clause-refused
returns-clause-refused c =
    IfErr-weaker c.only_term.result _ _ (λ e h. none_reads c.args.ops.now c.args.text.now e (rw (at_tokens c) h)) c.only_term.ensures.err

pub returns-clause-syntax : goal.returns-clause-syntax
returns-clause-syntax c =
    IfErr-weaker c.only_term.result _ _ (λ e h. told_syntax (term_read c.args.ops.now c.args.text.now) e _ (syntax_at c.args.text.now c.args.ops.now) (rw (at_tokens c) h)) c.only_term.ensures.err
