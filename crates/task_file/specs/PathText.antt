-- The text of a place in a task file, as refusals print it.
-- This project's own.
use Rattle.std.specs.Prelude.{ℕ, List, [], ◌++◌, codes, Option, Some, None}
use Rattle.std.specs.Fmt.{decimal}
use Rattle.task_file.specs.declared.path.Key.{Key}
use Rattle.task_file.specs.declared.path.Key.TheVariants as key
use Rattle.task_file.specs.declared.path.Path.{Path}
use Rattle.task_file.specs.declared.path.Section.{Section}
use Rattle.task_file.specs.declared.path.Section.TheVariants as section

-- the word of a section in the file, and `?` for any other
abbrev pub section_word : Section → List ℕ
section_word section.Format = codes "format"
section_word section.Replicas = codes "replicas"
section_word section.RecoveryLimit = codes "recovery_limit"
section_word section.Timing = codes "timing"
section_word section.Sensor = codes "sensor"
section_word section.Cell = codes "cell"
section_word section.Task = codes "task"
section_word section.Slot = codes "slot"
section_word section.Actuator = codes "actuator"
section_word section.Unknown = codes "?"

-- the word of a key, and `?` for any other
abbrev pub key_word : Key → List ℕ
key_word key.Compute = codes "compute"
key_word key.Broadcast = codes "broadcast"
key_word key.Vote = codes "vote"
key_word key.Sync = codes "sync"
key_word key.Skew = codes "skew"
key_word key.DriftPpm = codes "drift_ppm"
key_word key.DelayMin = codes "delay_min"
key_word key.DelayMax = codes "delay_max"
key_word key.SkewLimit = codes "skew_limit"
key_word key.DriftLimitPpm = codes "drift_limit_ppm"
key_word key.Name = codes "name"
key_word key.Initial = codes "initial"
key_word key.Body = codes "body"
key_word key.Tasks = codes "tasks"
key_word key.Votes = codes "votes"
key_word key.Value = codes "value"
key_word key.Unknown = codes "?"

-- a number in brackets, where there is one
abbrev pub bracketed : Option ℕ → List ℕ
bracketed None = []
bracketed (Some number) = codes "[" ++ decimal number ++ codes "]"

-- a key after a dot, where there is one
abbrev pub dotted : Option Key → List ℕ
dotted None = []
dotted (Some key) = codes "." ++ key_word key

-- `slot[0].tasks[1]`, as far as the place goes
abbrev pub path_text : Path → List ℕ
path_text path = section_word path.section ++ bracketed path.index ++ dotted path.key ++ bracketed path.item
