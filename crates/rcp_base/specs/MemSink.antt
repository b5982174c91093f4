-- What a write leaves in a sink in memory. This project's own.
use Rattle.std.specs.Prelude.{◌≡◌, ℕ, List, ◌++◌, take, Option, None, Some, Result, Ok, Err}
use Rattle.rcp_base.specs.declared.sink.WriteError.{WriteError}
use Rattle.rcp_base.specs.declared.sink.WriteError.TheVariants as write
use Rattle.rcp_base.specs.Calls.{CallState}
use Rattle.rcp_base.specs.States.{SinkState}

-- the bytes written so far, and the writes so far with those that are to fail
pub record MemoryState : Type 0 where
  pub bytes : List ℕ
  pub calls : CallState

-- what every sink shows of it
abbrev pub memory_sink_state : MemoryState → SinkState
memory_sink_state memory = record { written = Some memory.bytes; faults = memory.calls.faults }

-- what a write of a piece leaves: all of it, or the first bytes where the call is listed, or nothing where memory ran out
abbrev pub WritesBy : {T : Type 0} → Option ℕ → List ℕ → List ℕ → Result T WriteError → List ℕ → Type 0
WritesBy None old new (Ok _) piece = new ≡ old ++ piece
WritesBy None old new (Err write.Failed) piece = ⊥
WritesBy (Some after) old new (Ok _) piece = ⊥
WritesBy (Some after) old new (Err write.Failed) piece = new ≡ old ++ take after piece
WritesBy _ old new (Err write.Memory) piece = new ≡ old
