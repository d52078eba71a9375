-- Error terms: error(E, Context), where E says what is wrong (ISO/IEC 13211-1, 7.12.2).
use Rattle.std.specs.Prelude.{ℕ, pos, List, codes}
use Rattle.term_core.specs.declared.pi.Pi.{Pi}
use Rattle.term_core.specs.Tree.{Tree, integer, atom, compound, no_trees, tree}

abbrev pub one_argument : List ℕ → Tree → Tree
one_argument f a = compound f (tree a no_trees)

abbrev pub two_arguments : List ℕ → Tree → Tree → Tree
two_arguments f a b = compound f (tree a (tree b no_trees))

-- Name/Arity
abbrev pub indicator_term : Pi → Tree
indicator_term pi = two_arguments (codes "/") (atom pi.name) (integer (pos pi.arity))

-- the whole error: what is wrong, and where it was found
abbrev pub error_term : (formal context : Tree) → Tree
error_term e c = two_arguments (codes "error") e c

-- The context of an error of a primitive is the primitive's indicator; the errors of control have none.
abbrev pub no_context : Tree
no_context = atom (codes "none")

-- What is wrong.

-- 7.12.2 a: a variable stands where a value is needed
abbrev pub instantiation_error : Tree
instantiation_error = atom (codes "instantiation_error")

-- 7.12.2 b: the culprit isn't of this kind
abbrev pub type_error : (kind : List ℕ) → Tree → Tree
type_error kind t = two_arguments (codes "type_error") (atom kind) t

-- 7.12.2 c: the culprit is of the right kind, and out of this range
abbrev pub domain_error : (range : List ℕ) → Tree → Tree
domain_error range t = two_arguments (codes "domain_error") (atom range) t

-- 7.12.2 d: there is no such predicate
abbrev pub existence_error : Pi → Tree
existence_error pi = two_arguments (codes "existence_error") (atom (codes "procedure")) (indicator_term pi)

-- 7.12.2 f: this limit is passed
abbrev pub representation_error : (limit : List ℕ) → Tree
representation_error limit = one_argument (codes "representation_error") (atom limit)

-- 7.12.2 g: an expression has no value, for this reason
abbrev pub evaluation_error : (reason : List ℕ) → Tree
evaluation_error reason = one_argument (codes "evaluation_error") (atom reason)

-- 7.12.2 h: want of this resource
abbrev pub resource_error : (resource : List ℕ) → Tree
resource_error resource = one_argument (codes "resource_error") (atom resource)

-- 7.12.2 i: a text is no such term
abbrev pub syntax_error : (fault : List ℕ) → Tree
syntax_error fault = one_argument (codes "syntax_error") (atom fault)
