use Rattle.std.proofs.Common.{◌≡◌, ◌∙◌, true, map, string_bytes, ap, sym}
use Rattle.std.proofs.lemmas.Result.{IfOk-weaker, IfErr-weaker}
use Rattle.clap.specs.Words.{App, fault_of, first_of, found_of, matches_of, is_simple_and_free}
use Rattle.clap.proofs.WalkLemmas.{first_value-rows}
use Rattle.cmdline.specs.Words.{has_no_lone_hyphen}
use Rattle.cmdline.specs.Jobs.{syntax_of}
use Rattle.cmdline.proofs.Parses.{words_ok, lone_refused}
use Rattle.cmdline.proofs.Shapes.{tells, refuses}
use Rattle.cmdline.proofs.Asked.{plain_syntax, simple_parser}
use Rattle.cmdline.proofs.arguments.arguments.Goals as goal

pub returns-then-not-has_no_lone_hyphen-clause-refused : goal.returns-then-not-has_no_lone_hyphen-clause-refused
returns-then-not-has_no_lone_hyphen-clause-refused c =
    λ _. lone_refused (syntax_of c.args.verb) (map string_bytes c.args.words.now) (sym c.has_no_lone_hyphen.ensures ∙ c.if-not-has_no_lone_hyphen.true)

pub matches_of-requires : goal.matches_of-requires
matches_of-requires c = ap is_simple_and_free c.in-Ok.ensures ∙ simple_parser c.args.verb

pub returns-clause-ok : goal.returns-clause-ok
returns-clause-ok c =
    let ws = map string_bytes c.args.words.now in
    let lone : has_no_lone_hyphen ws ≡ true = sym c.has_no_lone_hyphen.ensures ∙ c.if-not-has_no_lone_hyphen.false in
    IfOk-weaker c.matches_of.result _ _ (λ m h.
    let told = tells (syntax_of c.args.verb) (plain_syntax c.args.verb) ws (words_ok c.args.words.now) lone (sym (ap (λ (a : App). fault_of a ws) c.in-Ok.ensures) ∙ h.0) in
    let rows = h.1 ∙ ap (λ (a : App). matches_of a ws) c.in-Ok.ensures in
    (told.0, told.1, λ n some. first_value-rows (found_of m) n ∙ ap (first_of n) rows ∙ told.2 n some)
    ) c.matches_of.ensures.ok

pub returns-clause-refused : goal.returns-clause-refused
returns-clause-refused c =
    let ws = map string_bytes c.args.words.now in
    let lone : has_no_lone_hyphen ws ≡ true = sym c.has_no_lone_hyphen.ensures ∙ c.if-not-has_no_lone_hyphen.false in
    IfErr-weaker c.matches_of.result _ _ (λ e h r.
    refuses (syntax_of c.args.verb) (plain_syntax c.args.verb) ws (words_ok c.args.words.now) lone (λ none. h r (ap (λ (a : App). fault_of a ws) c.in-Ok.ensures ∙ none))
    ) c.matches_of.ensures.refused
