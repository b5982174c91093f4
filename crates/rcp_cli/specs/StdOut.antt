-- What is seen of the sink over a writer. This project's own.
use Rattle.std.specs.Prelude.{ℕ, List, Option}
use Rattle.rcp_base.specs.States.{SinkState}
use Rattle.rcp_cli.specs.declared.sink.StdOut.{StdOut}

-- what its writer tells of the bytes, and how often bytes or a flush were refused
abbrev pub std_out_state : {W : Type 0} → (W → Option (List ℕ)) → StdOut W → SinkState
std_out_state told out = record { written = told out.writer; faults = out.faults }
