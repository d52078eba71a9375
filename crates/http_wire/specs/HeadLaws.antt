-- A head ends in an empty line behind another line, so bytes without one bring none.
use Rattle.std.proofs.Common.{◌≡◌, ◌∙◌, ◌++◌, ◌<◌, ◌==◌, ◌||◌, Bool, true, false, ℕ, List, [], ◌∷◌, length, true≢false, refl, ap, sym, subst, append_assoc, arith, cond}
use Rattle.std.specs.Prelude.{⊤}
use Rattle.std.specs.List.{flat_map}
use Rattle.httparse.specs.declared.spans.HeaderSpan.{HeaderSpan}
use Rattle.httparse.specs.declared.spans.RequestSpans.{RequestSpans}
use Rattle.httparse.specs.Grammar.{is_token_byte, AllPass, LineEnd, crlf, lf, print_end, print_blank, print_version, Field, print_field, RequestHead, print_request, HasNoRequest}
use Rattle.httparse.proofs.PieceLemmas.{token_is_no_newline}
use Rattle.std.proofs.lemmas.List.Elements.{All-head}
use Rattle.http_wire.specs.declared.ending.Place.{Place}
use Rattle.http_wire.specs.declared.ending.Place.TheVariants.{Before, Line, Start, Over}
use Rattle.http_wire.specs.Endings.{after, places, is_over, ends_head}
use Rattle.http_wire.specs.Requests.{IsRequestHeadAt}

pub request_no_head : (b : List ℕ) (f : List HeaderSpan) (s : RequestSpans) → IsRequestHeadAt b f s → HasNoRequest b → ⊥
request_no_head b f s at none = none at.1.0 _ at.1.1.reads

-- a line that isn't empty was begun
abbrev pub Begun : Place → Type 0
Begun Before = ⊥
Begun Line = ⊤
Begun Start = ⊤
Begun Over = ⊤

-- and it has ended
abbrev pub AtStart : Place → Type 0
AtStart Before = ⊥
AtStart Line = ⊥
AtStart Start = ⊤
AtStart Over = ⊤

either : (P : Place → Type 0) (t : Bool) (p q : Place) → P p → P q → P (cond t p q)
either P true p q x y = x
either P false p q x y = y

begun_after : (p : Place) (b : ℕ) → Begun p → Begun (after p b)
begun_after Before b begun = absurd begun
begun_after Line b begun = either Begun (b == 10) Start Line tt tt
begun_after Start b begun = either Begun (b == 10) Over (cond (b == 13) Start Line) tt (either Begun (b == 13) Start Line tt tt)
begun_after Over b begun = tt

begun_behind : (p : Place) (bytes : List ℕ) → Begun p → Begun (places p bytes)
begun_behind p [] begun = begun
begun_behind p (b ∷ bytes) begun = begun_behind (after p b) bytes (begun_after p b begun)

begun_at : (p : Place) → AtStart p → Begun p
begun_at Before at = at
begun_at Line at = tt
begun_at Start at = tt
begun_at Over at = tt

pub places_append : (p : Place) (a b : List ℕ) → places p (a ++ b) ≡ places (places p a) b
places_append p [] b = refl
places_append p (x ∷ a) b = places_append (after p x) a b

over_stays : (bytes : List ℕ) → places Over bytes ≡ Over
over_stays [] = refl
over_stays (b ∷ bytes) = over_stays bytes

line_fed : (p : Place) → Begun p → AtStart (after p 10)
line_fed Before begun = begun
line_fed Line begun = tt
line_fed Start begun = tt
line_fed Over begun = tt

-- a line end ends a line that was begun
line_ends : (p : Place) (e : LineEnd) → Begun p → AtStart (places p (print_end e))
line_ends p crlf begun = line_fed (after p 13) (begun_after p 13 begun)
line_ends p lf begun = line_fed p begun

-- and where a line has ended it is an empty line
empty_line : (p : Place) (e : LineEnd) → AtStart p → places p (print_end e) ≡ Over
empty_line Before e at = absurd at
empty_line Line e at = absurd at
empty_line Start crlf at = refl
empty_line Start lf at = refl
empty_line Over crlf at = refl
empty_line Over lf at = refl

-- bytes that end in a line end
whole_line : (p : Place) (bytes : List ℕ) (e : LineEnd) → Begun (places p bytes) → AtStart (places p (bytes ++ print_end e))
whole_line p bytes e begun = subst AtStart (sym (places_append p bytes (print_end e))) (line_ends (places p bytes) e begun)

field_ends : (p : Place) (f : Field) → AtStart p → AtStart (places p (print_field f))
field_ends p f at =
    whole_line p (f.name ++ 58 ∷ f.raw) f.end (begun_behind p (f.name ++ 58 ∷ f.raw) (begun_at p at))

fields_end : (p : Place) (fields : List Field) → AtStart p → AtStart (places p (flat_map print_field fields))
fields_end p [] at = at
fields_end p (f ∷ fields) at =
    subst AtStart (sym (places_append p (print_field f) (flat_map print_field fields)))
    (fields_end (places p (print_field f)) fields (field_ends p f at))

-- a first line, fields, and the empty line behind them
pub section_over : (line rest : List ℕ) (fields : List Field) (last : LineEnd) → AtStart (places Before line)
    → places Before (line ++ ((flat_map print_field fields ++ print_end last) ++ rest)) ≡ Over
section_over line rest fields last at =
    let lines : List ℕ = flat_map print_field fields in
    let section : places (places Before line) (lines ++ print_end last) ≡ Over =
    places_append (places Before line) lines (print_end last) ∙ empty_line _ last (fields_end (places Before line) fields at) in
    places_append Before line ((lines ++ print_end last) ++ rest)
    ∙ places_append (places Before line) (lines ++ print_end last) rest
    ∙ ap (λ (p : Place). places p rest) section ∙ over_stays rest

blank_stays : (ends : List LineEnd) → places Before (print_blank ends) ≡ Before
blank_stays [] = refl
blank_stays (crlf ∷ ends) = blank_stays ends
blank_stays (lf ∷ ends) = blank_stays ends

-- empty lines before it are passed over
pub blank_passed : (ends : List LineEnd) (bytes : List ℕ) → places Before (print_blank ends ++ bytes) ≡ places Before bytes
blank_passed ends bytes =
    places_append Before (print_blank ends) bytes ∙ ap (λ (p : Place). places p bytes) (blank_stays ends)

-- a line whose first byte is no line end
pub first_line : (b : ℕ) (bytes : List ℕ) (e : LineEnd) → Begun (after Before b) → AtStart (places Before ((b ∷ bytes) ++ print_end e))
first_line b bytes e begun = whole_line Before (b ∷ bytes) e (begun_behind (after Before b) bytes begun)

token_begins : (b : ℕ) → is_token_byte b ≡ true → Begun (after Before b)
token_begins b token = subst (λ (t : Bool). Begun (cond t Before Line)) (sym (token_is_no_newline b token)) tt

method_line : (m w : List ℕ) (e : LineEnd) → 0 < length m → AllPass is_token_byte m → AtStart (places Before ((m ++ w) ++ print_end e))
method_line [] w e some all = absurd (omega arith)
method_line (b ∷ m) w e some all = first_line b (m ++ w) e (token_begins b (All-head (λ v. is_token_byte v ≡ true) b m all))

pub regroup : (k x e s rest : List ℕ) → (k ++ ((x ++ e) ++ s)) ++ rest ≡ k ++ ((x ++ e) ++ (s ++ rest))
regroup k x e s rest = simp append_assoc

request_line : (k m t v e s : List ℕ) → k ++ m ++ 32 ∷ t ++ 32 ∷ v ++ e ++ s ≡ k ++ (((m ++ (32 ∷ t ++ 32 ∷ v)) ++ e) ++ s)
request_line k m t v e s = simp append_assoc

pub request_over : (h : RequestHead) (rest : List ℕ) → 0 < length h.method → AllPass is_token_byte h.method
    → places Before (print_request h ++ rest) ≡ Over
unfolding print_request
request_over h rest some all =
    let v : List ℕ = print_version h.minor in
    let w : List ℕ = 32 ∷ h.target ++ 32 ∷ v in
    let section : List ℕ = flat_map print_field h.fields ++ print_end h.last in
    let parts : print_request h ≡ print_blank h.blank ++ (((h.method ++ w) ++ print_end h.line_end) ++ section) =
    request_line (print_blank h.blank) h.method h.target v (print_end h.line_end) section in
    ap (λ (l : List ℕ). places Before (l ++ rest)) parts
    ∙ ap (places Before) (regroup (print_blank h.blank) (h.method ++ w) (print_end h.line_end) section rest)
    ∙ blank_passed h.blank (((h.method ++ w) ++ print_end h.line_end) ++ (section ++ rest))
    ∙ section_over ((h.method ++ w) ++ print_end h.line_end) rest h.fields h.last (method_line h.method w h.line_end some all)

pub request_none_open : (b : List ℕ) → ends_head b ≡ false → HasNoRequest b
request_none_open b unended h rest reads =
    let over : places Before b ≡ Over = ap (places Before) reads.1 ∙ request_over h rest reads.0.method.0 reads.0.method.1 in
    true≢false (sym (ap is_over over) ∙ unended)
