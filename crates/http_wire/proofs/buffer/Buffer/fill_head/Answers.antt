use Rattle.std.proofs.Common.{◌≡◌, ◌<◌, ◌+◌, ◌-◌, ◌++◌, false, inl, inr, ℕ, List, length, take, drop, refl, sym, ap, ◌∙◌, subst, arith, length-append}
use Rattle.std.proofs.lemmas.List.{take_all}
use Rattle.std.proofs.Math.Seq.{drop-append_seam}
use Rattle.http_wire.specs.declared.ending.Place.{Place}
use Rattle.http_wire.specs.declared.ending.Place.TheVariants.{Before, Over}
use Rattle.http_wire.specs.Endings.{places, is_over, ends_head, IsOpen}
use Rattle.http_wire.specs.HeadLaws.{places_append}
use Rattle.http_wire.proofs.Reading.{reads_none, reads_on}
use Rattle.http_wire.proofs.buffer.Buffer.fill_head.Goals as goal

-- the last bytes, so many as were read
tail_is : (b c read : List ℕ) (n : ℕ) → c ≡ b ++ read → length c ≡ length b + n → take (length c - (length c - n)) (drop (length c - n) c) ≡ read
tail_is b c read n grown count =
    let at : length c - n ≡ length b = omega (arith, count) in
    let size : length c ≡ length b + length read = ap length grown ∙ length-append b read in
    let tail : drop (length c - n) c ≡ read = ap (λ (k : ℕ). drop k c) at ∙ ap (drop (length b)) grown ∙ drop-append_seam b read in
    ap (take (length c - (length c - n))) tail ∙ take_all _ read (omega (arith, size, count))

-- the place behind them too
behind_more : (b c bytes read : List ℕ) (n : ℕ) (p : Place) → p ≡ places Before b → bytes ≡ c → c ≡ b ++ read → length c ≡ length b + n
    → places p (take (length bytes - (length bytes - n)) (drop (length bytes - n) bytes)) ≡ places Before c
behind_more b c bytes read n p behind same grown count =
    ap (λ (l : List ℕ). places p (take (length l - (length l - n)) (drop (length l - n) l))) same
    ∙ ap (places p) (tail_is b c read n grown count)
    ∙ ap (λ (q : Place). places q read) behind
    ∙ sym (places_append Before b read) ∙ ap (places Before) (sym grown)

pub pieces-init : goal.pieces-init
pieces-init g c = record {
  reads = reads_none g.S.Source.left g.S.Source.faults g.S.Source.reads _ _ _ refl;
  behind = c.behind-place.ensures ∙ ap (places Before) c.bytes.ensures;
  unended = inl refl;
  few = c.requires;
}

pub returns-in_err-count-clause-reads : goal.returns-in_err-count-clause-reads
returns-in_err-count-clause-reads g c = reads_on g.S.Source.left g.S.Source.faults g.S.Source.reads _ _ _ _ _ _ c.pieces.invariant.reads c.fill.ensures.reads

pub returns-then-is_over-clause-reads : goal.returns-then-is_over-clause-reads
returns-then-is_over-clause-reads g c = reads_on g.S.Source.left g.S.Source.faults g.S.Source.reads _ _ _ _ _ _ c.pieces.invariant.reads c.fill.ensures.reads

pub pieces-preserved : goal.pieces-preserved
pieces-preserved g c =
    let behind : c.behind-place-in-pieces.result ≡ places Before c.fill.new.self =
    c.behind-place-in-pieces.ensures
    ∙ behind_more _ _ _ _ c.in_ok-count.count _ c.pieces.invariant.behind c.bytes-bytes.ensures c.fill.ensures.reads.grown c.in_ok-count.ensures.some.1 in
    record {
      reads = reads_on g.S.Source.left g.S.Source.faults g.S.Source.reads _ _ _ _ _ _ c.pieces.invariant.reads c.fill.ensures.reads;
      behind = behind;
      unended = inr (ap is_over (sym behind) ∙ sym c.is_over.ensures ∙ c.if-is_over.false);
      few = subst (λ (l : List ℕ). length l < c.args.most) c.bytes-bytes.ensures c.if-bytes-most.false;
    }
