-- A response's head ends in an empty line behind another line, so bytes without one bring none.
use Rattle.std.proofs.Common.{◌≡◌, ◌∙◌, ◌++◌, false, ℕ, List, ◌∷◌, drop, true≢false, ap, sym, append_assoc}
use Rattle.std.specs.List.{flat_map}
use Rattle.httparse.specs.declared.spans.HeaderSpan.{HeaderSpan}
use Rattle.httparse.specs.declared.spans.ResponseSpans.{ResponseSpans}
use Rattle.httparse.specs.Grammar.{print_end, print_blank, print_version, print_reason, print_field, ResponseHead, print_response, HasNoResponse}
use Rattle.http_wire.specs.declared.ending.Place.TheVariants.{Before, Over}
use Rattle.http_wire.specs.Endings.{places, is_over, ends_head}
use Rattle.http_wire.specs.HeadLaws.{first_line, section_over, blank_passed, regroup}
use Rattle.http_wire.specs.Answered.{IsResponseHeadAt}

pub response_no_head : (b : List ℕ) (f : List HeaderSpan) (s : ResponseSpans) → IsResponseHeadAt b f s → HasNoResponse b → ⊥
response_no_head b f s at none = none at.1.0 _ at.1.1.reads

status_line : (k v d r e s : List ℕ) → k ++ v ++ 32 ∷ d ++ r ++ e ++ s ≡ k ++ (((v ++ 32 ∷ d ++ r) ++ e) ++ s)
status_line k v d r e s = simp append_assoc

response_over : (h : ResponseHead) (rest : List ℕ) → places Before (print_response h ++ rest) ≡ Over
unfolding print_response
response_over h rest =
    let v : List ℕ = print_version h.minor in
    let line : List ℕ = v ++ 32 ∷ h.digits ++ print_reason h.reason in
    let section : List ℕ = flat_map print_field h.fields ++ print_end h.last in
    let parts : print_response h ≡ print_blank h.blank ++ ((line ++ print_end h.line_end) ++ section) =
    status_line (print_blank h.blank) v h.digits (print_reason h.reason) (print_end h.line_end) section in
    ap (λ (l : List ℕ). places Before (l ++ rest)) parts
    ∙ ap (places Before) (regroup (print_blank h.blank) line (print_end h.line_end) section rest)
    ∙ blank_passed h.blank ((line ++ print_end h.line_end) ++ (section ++ rest))
    ∙ section_over (line ++ print_end h.line_end) rest h.fields h.last (first_line 72 (drop 1 line) h.line_end tt)

pub response_none_open : (b : List ℕ) → ends_head b ≡ false → HasNoResponse b
response_none_open b unended h rest reads =
    let over : places Before b ≡ Over = ap (places Before) reads.1 ∙ response_over h rest in
    true≢false (sym (ap is_over over) ∙ unended)
