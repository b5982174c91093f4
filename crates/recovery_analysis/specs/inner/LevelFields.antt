-- What the fields of levels say together. This project's own.
use Rattle.std.specs.Prelude.{ℕ, ◌<◌, List, [], length, get_or}
use Rattle.rcp_model.specs.Walk.{Graph}
use Rattle.recovery_analysis.specs.declared.levels.Levels.TheInside.{Inside}
use Rattle.recovery_analysis.specs.Graphs.{IsOneSize}
use Rattle.recovery_analysis.specs.inner.Levels.{Levels, IsLevel, graph_in}

-- what the fields hold
abbrev pub levels_in : Inside → Levels
levels_in levels = record { rows = levels.rows.now; votes = levels.pattern.now; count = length levels.words.items }

-- the words are levels, one after the other
abbrev pub AreLevels : Graph → List (List ℕ) → Type 0
AreLevels g words = (k : ℕ) → k < length words → IsLevel g k (get_or words k [])

-- the fields of levels
pub record IsLevels (levels : Inside) : Type 0 where
  pub size : IsOneSize levels.rows.now levels.pattern.now
  pub each : AreLevels (graph_in (levels_in levels)) levels.words.items
