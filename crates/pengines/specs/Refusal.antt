-- The text that says why a script, a source text or a goal is refused.
use Rattle.std.specs.Prelude.{ℕ, List, ◌++◌, codes, decimal}
use Rattle.program.specs.declared.fault.ProgFault.{ProgFault}
use Rattle.program.specs.declared.fault.ProgFault.TheVariants as program
use Rattle.request_text.specs.declared.fault.SpecFault.TheVariants as spec
use Rattle.request_text.specs.declared.fault.ScriptFault.{ScriptFault}
use Rattle.request_text.specs.declared.fault.ScriptFault.TheVariants.{Utf8, Spec, Line, Memory}
use Rattle.request_text.specs.Spelled.{place_of}
use Rattle.pengines.specs.declared.refusal.Refusal.{Refusal}
use Rattle.pengines.specs.declared.refusal.Refusal.TheVariants as refusal

-- the number of the clause that is refused
abbrev pub clause_of : ProgFault → ℕ
clause_of (program.BadDirective n) = n
clause_of (program.NotCallable n) = n
clause_of (program.Redefines n pi) = n
clause_of program.Memory = 0

abbrev pub source_text : (at : ℕ) → List ℕ
source_text at = codes "pengines: source refused at byte " ++ decimal at

abbrev pub clause_text : (clause : ℕ) → List ℕ
clause_text n = codes "pengines: source refused at clause " ++ decimal n

abbrev pub goal_text : (at : ℕ) → List ℕ
goal_text at = codes "pengines: goal refused at byte " ++ decimal at

abbrev pub line_text : (line at : ℕ) → List ℕ
line_text n at = ((codes "pengines: line " ++ decimal n) ++ codes " refused at byte ") ++ decimal at

-- Want of memory is no refusal. A script has no query or template outside of its lines.
abbrev pub refusal_text : ScriptFault → List ℕ
refusal_text (Utf8 at) = source_text at
refusal_text (Spec (spec.Source e)) = source_text (place_of e)
refusal_text (Spec (spec.Clause f)) = clause_text (clause_of f)
refusal_text (Spec (spec.Ask e)) = goal_text (place_of e)
refusal_text (Spec (spec.Template e)) = goal_text (place_of e)
refusal_text (Line n at) = line_text n at
refusal_text (Spec spec.Memory) = codes "pengines: no memory"
refusal_text Memory = codes "pengines: no memory"

abbrev pub text_of : Refusal → List ℕ
text_of (refusal.Script f) = refusal_text f
text_of (refusal.Goal at) = goal_text at
text_of refusal.Memory = codes "pengines: no memory"

-- Want of memory stays what it is.
abbrev pub script_refusal : ScriptFault → Refusal
script_refusal Memory = refusal.Memory
script_refusal f = refusal.Script f
