-- The rows of all frames. This project's own.
use Rattle.std.specs.Prelude.{ℕ, ℤ, List, map, reverse, take}
use Rattle.rcp_model.specs.FrameRows.{FrameRows}

-- the rows of all frames, the oldest first
abbrev pub History : Type 0
History = List FrameRows

-- those of the first so many frames, the newest first
abbrev pub past_of : History → ℕ → List FrameRows
past_of history frames = reverse (take frames history)

-- the sensor values of these frames
abbrev pub sensors_of : List FrameRows → List (List ℤ)
sensors_of frames = map (λ (rows : FrameRows). rows.sensors) frames
