use Rattle.std.proofs.Common.{[]}
use Rattle.std.proofs.lemmas.List.{get_or_read}
use Rattle.store.specs.Heap.{known_of}
use Rattle.store.proofs.Reading.{is_compound, compound_symbol}
use Rattle.store.proofs.heap.Heap.symbol.Goals as goal

pub returns-in-Comp : goal.returns-in-Comp
returns-in-Comp c =
    let k = known_of c.args.self.now in
    let fits = is_compound k c.args.word c.in-Comp.name c.in-Comp.count c.in-Comp.first c.in-Comp.closed c.in-Comp.ensures.shape c.requires in
    compound_symbol k c.args.word c.in-Comp.name c.in-Comp.count c.in-Comp.first c.in-Comp.closed c.in-Comp.ensures.shape c.requires c.index-in-Comp.result.now
    (get_or_read c.args.self.now.names.items c.in-Comp.name c.index-in-Comp.result.now fits.named c.index-in-Comp.ensures [])
