-- The source, the sink and the wire in memory as values, and what a call does beyond the traits' clauses.
use Rattle.std.specs.Prelude.{◌≡◌, ◌+◌, ◌≤◌, ◌↔◌, ℕ, List, Some, Contains, ⊤}
use Rattle.std.proofs.Common.{ap}
use Rattle.outside.specs.declared.source.ReadGot.{ReadGot}
use Rattle.outside.specs.declared.source.ReadGot.TheVariants.{Got, End, Failed}
use Rattle.outside.specs.declared.sink.Wrote.{Wrote}
use Rattle.outside.specs.declared.sink.Wrote.TheVariants.{Failed as WriteFailed}
use Rattle.outside.specs.Faults.{one_more}

-- a source in memory: the bytes not given yet, the most that a read gives, the numbers of the reads
-- that fail, how many reads were made and how many failed
pub record SourceState : Type 0 where
  pub left : List ℕ
  pub piece : ℕ
  pub fails : List ℕ
  pub reads : ℕ
  pub faults : ℕ

-- a sink in memory: the bytes taken, the numbers of the writes that fail, how many writes were made
-- and how many failed
pub record SinkState : Type 0 where
  pub taken : List ℕ
  pub fails : List ℕ
  pub writes : ℕ
  pub faults : ℕ

-- no more than so many bytes
abbrev pub IsWithin : ℕ → ReadGot → Type 0
IsWithin piece (Got n) = n ≤ piece
IsWithin piece End = ⊤
IsWithin piece Failed = ⊤

-- A read is counted. It gives a piece at most, and fails exactly where its number is told.
pub record ReadsInMemory (old : SourceState) (result : ReadGot) (new : SourceState) : Type 0 where
  pub counted : new.reads ≡ one_more old.reads
  pub piecewise : IsWithin old.piece result
  pub fails : (result ≡ Failed) ↔ Contains old.fails new.reads
  pub same_piece : new.piece ≡ old.piece
  pub same_fails : new.fails ≡ old.fails

-- A write is counted. It fails where its number is told; else only want of memory may make it fail.
pub record WritesInMemory (old : SinkState) (result : Wrote) (new : SinkState) : Type 0 where
  pub counted : new.writes ≡ one_more old.writes
  pub fails : Contains old.fails new.writes → result ≡ WriteFailed
  pub same_fails : new.fails ≡ old.fails

-- a wire in memory: its two ways
pub record WireState : Type 0 where
  pub source : SourceState
  pub sink : SinkState

-- the faults of both ways
abbrev pub wire_faults : WireState → ℕ
wire_faults w = w.source.faults + w.sink.faults

-- A read is the source's, and leaves the sink as it was.
pub record WireReads (old : WireState) (result : ReadGot) (new : WireState) : Type 0 where
  pub source : ReadsInMemory old.source result new.source
  pub sink : new.sink ≡ old.sink

-- A write is the sink's, and leaves the source as it was.
pub record WireWrites (old : WireState) (result : Wrote) (new : WireState) : Type 0 where
  pub sink : WritesInMemory old.sink result new.sink
  pub source : new.source ≡ old.source

pub wire_read_keeps : (w v : WireState) (r : ReadGot) → WireReads w r v → Some v.sink.taken ≡ Some w.sink.taken
wire_read_keeps w v r reads = ap (λ (s : SinkState). Some s.taken) reads.sink

pub wire_write_keeps : (w v : WireState) (r : Wrote) → WireWrites w r v → Some v.source.left ≡ Some w.source.left
wire_write_keeps w v r writes = ap (λ (s : SourceState). Some s.left) writes.source
