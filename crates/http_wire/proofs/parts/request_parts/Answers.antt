use Rattle.std.proofs.Common.{◌∙◌, ℕ, List, sym, ap, subst, Err}
use Rattle.http_header.specs.Token as header
use Rattle.httparse.specs.Grammar as grammar
use Rattle.http_wire.proofs.parts.request_parts.Goals as goal

-- both crates have the same tokens
same_token : (bytes : List ℕ) → grammar.IsToken bytes → header.IsToken bytes
unfolding grammar.is_token_byte header.is_token_byte
same_token bytes token = (token.0, token.1)

pub unreachable-requires : goal.unreachable-requires
unreachable-requires c =
    let at = c.requires.1.1 in
    let token : header.IsToken c.of.result.now = subst header.IsToken (sym (c.of.ensures ∙ at.method)) (same_token _ at.reads.0.method) in
    c.from_bytes.ensures.invalid.0 (c.in-Err-from_bytes.is ∙ ap Err c.in-Invalid.is) token
