-- What is wrong with a refused goal, as an error term says it.
use Rattle.std.specs.Prelude.{codes}
use Rattle.term_core.specs.declared.pi.Pi.{Pi}
use Rattle.term_core.specs.Tree.{Tree, atom, compound, no_trees, tree}
use Rattle.builtin_table.specs.Errors.{indicator_term, instantiation_error, type_error, resource_error}
use Rattle.sandbox_walk.specs.declared.unsafe_goal.Unsafe.{Unsafe}
use Rattle.sandbox_walk.specs.declared.unsafe_goal.Unsafe.TheVariants.{Sandboxed, Uninstantiated, NotCallable, Memory}

-- ISO 13211-1, 7.12.2 e: the sandbox doesn't permit a call of this predicate
abbrev pub sandboxed_error : Pi → Tree
sandboxed_error pi =
    compound (codes "permission_error") (tree (atom (codes "call")) (tree (atom (codes "sandboxed")) (tree (indicator_term pi) no_trees)))

-- Want of memory is no verdict on a goal.
abbrev pub formal_of : Unsafe → Tree
formal_of (Sandboxed pi) = sandboxed_error pi
formal_of Uninstantiated = instantiation_error
formal_of (NotCallable t) = type_error (codes "callable") t
formal_of Memory = resource_error (codes "memory")
