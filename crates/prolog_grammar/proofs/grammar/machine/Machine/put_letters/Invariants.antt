use Rattle.std.proofs.Common.{◌≡◌, ◌++◌, map, take}
use Rattle.prolog_grammar.specs.Stack.{letter_node}
use Rattle.prolog_grammar.proofs.grammar.machine.Machine.put_letters.Given as goal

abbrev pub invariant-loop-character : goal.invariant-loop-character
invariant-loop-character l = (l.self.nodes.items ≡ l.fn.self.nodes.items ++ map letter_node (take l.character-index l.text)) × (l.self.frames.items ≡ l.fn.self.frames.items)
