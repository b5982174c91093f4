-- What is added to a text that is being written. This project's own.
use Rattle.std.specs.Prelude.{◌≡◌, ℕ, List, ◌++◌, Result}
use Rattle.rcp_base.specs.declared.sink.WriteError.{WriteError}
use Rattle.rcp_base.specs.States.{SinkState}
use Rattle.rcp_base.specs.Writing.{Writes}

-- whatever was being written with this result, this text was added with that one
abbrev pub Adds : {T U : Type 0} → SinkState → SinkState → Result T WriteError → Result U WriteError → List ℕ → Type 0
Adds old new so_far result text =
    (start : SinkState) (before : List ℕ) → Writes start old so_far before → Writes start new result (before ++ text)

-- so much was written of a text, with this result, and this is left
pub record IsHalfway {T : Type 0} (old new : SinkState) (so_far : Result T WriteError) (rest whole : List ℕ) : Type 0 where
  pub done : List ℕ
  pub wrote : Writes old new so_far done
  pub joined : done ++ rest ≡ whole
