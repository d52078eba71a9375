use Rattle.std.proofs.Common.{◌≡◌, ◌++◌, length, take, arith, length-append, length-take-le}
use Rattle.std.proofs.KnownBytes.{Consumes-trans}
use Rattle.pengines.proofs.input.read_input.Goals as goal

pub returns-then-count-len-clause-too_long : goal.returns-then-count-len-clause-too_long
returns-then-count-len-clause-too_long g c =
    let input = c.loop-turn.input.items in
    let piece = take c.in-Got.count c.read.new.buf in
    let size : length piece ≡ c.in-Got.count = length-take-le _ _ c.in-Got.ensures.count.1 in
    λ _. record {
      bytes = input ++ piece;
      read = Consumes-trans _ _ _ _ _ c.loop-turn.invariant.read c.in-Got.ensures.bytes;
      long = omega (arith, length-append input piece, size, c.loop-turn.input.ok.0);
    }
