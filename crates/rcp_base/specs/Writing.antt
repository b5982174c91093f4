-- What a write leaves in a sink, and when it may fail. This project's own.
use Rattle.std.specs.Prelude.{◌≡◌, ℕ, ◌≤◌, List, ◌++◌, Option, Result, Err, OnOk, OnErr}
use Rattle.std.specs.Io.KnownBytes.{Appends}
use Rattle.rcp_base.specs.declared.sink.WriteError.{WriteError}
use Rattle.rcp_base.specs.declared.sink.WriteError.TheVariants as write
use Rattle.rcp_base.specs.Files.{Rises}
use Rattle.rcp_base.specs.States.{SinkState}

-- a front of the text was written
pub record AppendsFront (old new : Option (List ℕ)) (text : List ℕ) : Type 0 where
  pub front : List ℕ
  pub rest : List ℕ
  pub parts : text ≡ front ++ rest
  pub appended : Appends old new front

-- a text was written, or a front of it; a failure has raised the count of faults
pub record Writes {T : Type 0} (old new : SinkState) (result : Result T WriteError) (text : List ℕ) : Type 0 where
  pub ok : OnOk result (Appends old.written new.written text)
  pub err : OnErr result (AppendsFront old.written new.written text)
  pub failed : result ≡ Err write.Failed → Rises old.faults new.faults
  pub later : old.faults ≤ new.faults
