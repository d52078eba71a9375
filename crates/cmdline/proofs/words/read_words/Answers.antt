use Rattle.std.proofs.Common.{◌∙◌, List, String, Global, map, string_bytes, ap, sym}
use Rattle.cmdline.specs.Jobs.{verb_named, job_asked}
use Rattle.cmdline.proofs.Asked.{asked_with, asked_named}
use Rattle.cmdline.proofs.words.read_words.Goals as goal

pub returns-in-Some-command_of-clause-ok : goal.returns-in-Some-command_of-clause-ok
returns-in-Some-command_of-clause-ok c =
    let rest = map string_bytes c.in-Some.rest.now in
    ap (λ (ws : List (String Global)). job_asked (map string_bytes ws)) c.in-Some.ensures.cases.0
    ∙ asked_named (string_bytes c.in-Some.name.now) rest c.in-Some-named.verb (c.in-Some-named.ensures ∙ ap verb_named c.as_str.ensures.value)
    ∙ asked_with c.in-Some-named.verb rest c.in-Ok.given c.in-Ok.ensures.ok
    ∙ sym c.in-Some-command_of.ensures

pub returns-clause-refused : goal.returns-clause-refused
returns-clause-refused c =
    let rest = map string_bytes c.in-Some.rest.now in
    λ _. ap (λ (ws : List (String Global)). job_asked (map string_bytes ws)) c.in-Some.ensures.cases.0
    ∙ asked_named (string_bytes c.in-Some.name.now) rest c.in-Some-named.verb (c.in-Some-named.ensures ∙ ap verb_named c.as_str.ensures.value)
    ∙ asked_with c.in-Some-named.verb rest c.in-Ok.given c.in-Ok.ensures.ok
    ∙ sym c.in-None.ensures
