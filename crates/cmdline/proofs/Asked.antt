-- From what the matches tell to the job that the words ask for.
use Rattle.std.proofs.Common.{◌≡◌, ◌∙◌, false, List, [], ◌∷◌, Option, Some, refl, ap, sym, codes}
use Rattle.std.specs.Prelude.{option_and_then}
use Rattle.std.specs.Str.{bytes_eq}
use Rattle.clap.specs.Words.{first_value, found_of, is_simple_and_free}
use Rattle.clap.specs.declared.parser.matches.ArgMatches.{ArgMatches}
use Rattle.cmdline.specs.declared.verb.Verb.{Verb}
use Rattle.cmdline.specs.declared.verb.Verb.TheVariants as verb
use Rattle.cmdline.specs.Words.{Text, Given, given_for}
use Rattle.cmdline.specs.Parsers.{Gives, app_for}
use Rattle.cmdline.specs.Jobs.{Values, operands_of, syntax_of, verb_named, job_by, job_with, job_asked}
use Rattle.cmdline.proofs.Shapes.{IsPlainSyntax}
use Rattle.std.proofs.Common.{arith, true}

-- ---- the commands' names are apart

pub plain_syntax : (v : Verb) → IsPlainSyntax (syntax_of v)
plain_syntax verb.Session = (refl, refl, omega arith)
plain_syntax verb.Local = (refl, refl, omega arith)
plain_syntax verb.Check = (refl, refl, omega arith)
plain_syntax verb.Demo = (refl, refl, omega arith)
plain_syntax verb.Serve = (refl, refl, omega arith)
plain_syntax verb.Rpc = (refl, refl, omega arith)

pub simple_parser : (v : Verb) → is_simple_and_free (app_for (syntax_of v)) ≡ true
simple_parser verb.Session = refl
simple_parser verb.Local = refl
simple_parser verb.Check = refl
simple_parser verb.Demo = refl
simple_parser verb.Serve = refl
simple_parser verb.Rpc = refl

-- ---- a job goes by what stands under its names

abbrev pub SameValues : Values → Values → Type 0
SameValues f g = (n : Text) → bytes_eq [] n ≡ false → f n ≡ g n

same_job : (v : Verb) (f g : Values) → SameValues f g → job_by v f ≡ job_by v g
same_job verb.Session f g h = refl
same_job verb.Local f g h = rw (h (codes "goal") refl, h (codes "application") refl, h (codes "limit") refl) refl
same_job verb.Check f g h = rw (h (codes "goal") refl, h (codes "application") refl) refl
same_job verb.Demo f g h = rw (h (codes "people") refl, h (codes "chunk") refl) refl
same_job verb.Serve f g h =
    rw (h (codes "port") refl, h (codes "doors") refl, h (codes "workers") refl, h (codes "slots") refl, h (codes "connections") refl, h (codes "idle") refl) refl
same_job verb.Rpc f g h =
    rw (h (codes "host") refl, h (codes "port") refl, h (codes "goal") refl, h (codes "application") refl, h (codes "chunk") refl, h (codes "limit") refl) refl

pub asked_with : (v : Verb) (ws : List Text) (m : ArgMatches) → Gives (syntax_of v) ws m → job_with v ws ≡ job_by v (first_value (found_of m))
asked_with v ws m h =
    ap (λ (o : Option (List Given)). option_and_then (λ gs. job_by v (given_for (operands_of v) gs)) o) h.1
    ∙ sym (same_job v (first_value (found_of m)) (given_for (operands_of v) h.0) h.2)

pub asked_named : (w : Text) (ws : List Text) (v : Verb) → Some v ≡ verb_named w → job_asked (w ∷ ws) ≡ job_with v ws
asked_named w ws v e = ap (λ (o : Option Verb). option_and_then (λ u. job_with u ws) o) (sym e)
