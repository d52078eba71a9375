use Rattle.std.proofs.Common.{rules, ◌≡◌, ◌≤◌, ◌++◌, ℕ, List, length, take, drop, sym, ap, ◌∙◌, arith}
use Rattle.std.proofs.lemmas.List.{drop-append-le}
use Rattle.std.proofs.Math.Seq.{take-append_seam}
use Rattle.http_wire.proofs.Reading.{reads_none, reads_one, reads_kept}
use Rattle.http_wire.proofs.buffer.Buffer.fill.Goals as goal

-- what was written over the whole of a list
whole : (buf items : List ℕ) (n : ℕ) → length buf ≡ n → take n (buf ++ drop (length buf) items) ≡ buf
whole buf items n e = ap (λ (k : ℕ). take k (buf ++ drop (length buf) items)) (sym e) ∙ take-append_seam buf _

-- what was put behind the bytes stands behind those that are held
grown_by : (held xs xs' xs'' part part' : List ℕ) (at : ℕ) → at ≤ length xs → held ≡ drop at xs → xs' ≡ xs → xs'' ≡ xs' ++ part'
    → part' ≡ part → drop at xs'' ≡ held ++ part
grown_by held xs xs' xs'' part part' at le view same put is =
    ap (drop at) (put ∙ ap (λ (l : List ℕ). l ++ part') same ∙ ap (λ (l : List ℕ). xs ++ l) is)
    ∙ drop-append-le at xs part le ∙ ap (λ (l : List ℕ). l ++ part) (sym view)

pub returns-then-is_err-clause-reads : goal.returns-then-is_err-clause-reads
returns-then-is_err-clause-reads g c = reads_none g.S.Source.left g.S.Source.faults g.S.Source.reads _ _ _ (search rules)

pub returns-in-Ok-clause-reads : goal.returns-in-Ok-clause-reads
returns-in-Ok-clause-reads g c =
    let view : c.args.self.now ≡ drop c.self.inside.at c.self.inside.bytes.items = cc in
    let full : length c.read.new.buf ≡ c.self.inside.piece.len = omega arith in
    let part : take c.in-Got.count c.deref.result.now ≡ take c.in-Got.count c.read.new.buf = ap (take c.in-Got.count) (c.deref.ensures.value ∙ whole _ _ _ full) in
    reads_one g.S.Source.left g.S.Source.faults g.S.Source.reads _ _ _ _ _ _ c.read.ensures.step c.in-Got.ensures.bytes c.in-Got.ensures.cause
    (grown_by _ _ _ _ _ _ _ c.self.invariant.0 view c.reserve.ensures.items c.in-Ok.ensures.items part)

pub returns-in-End-clause-reads : goal.returns-in-End-clause-reads
returns-in-End-clause-reads g c = reads_kept g.S.Source.left g.S.Source.faults g.S.Source.reads _ _ _ _ _ c.read.ensures.step c.in-End.ensures.bytes.0 c.in-End.ensures.cause (search rules)

pub returns-in-Failed-clause-reads : goal.returns-in-Failed-clause-reads
returns-in-Failed-clause-reads g c = reads_kept g.S.Source.left g.S.Source.faults g.S.Source.reads _ _ _ _ _ c.read.ensures.step c.in-Failed.ensures.bytes c.in-Failed.ensures.cause.0 (search rules)
