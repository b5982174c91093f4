-- The shape of a task file: what its sections give, or the first thing that is not there, is of another type or out of
-- range, or should not be there.
-- This project's own.
use Rattle.std.specs.Prelude.{ℕ, ℤ, pos, Bool, true, false, List, [], ◌∷◌, codes, Option, Some, None, Result, Ok}
use Rattle.std.specs.Ordering.{int_eq}
use Rattle.toml.specs.Data.{Members}
use Rattle.rcp_base.specs.declared.TheConstants.{MAX_REPLICAS, MAX_SENSORS, MAX_CELLS, MAX_TASKS, MAX_SLOTS, MAX_ACTUATORS, MAX_RECOVERY}
use Rattle.rcp_base.specs.Answers.{◌>>=◌, each_from}
use Rattle.task_file.specs.declared.fault.FileFault.{FileFault}
use Rattle.task_file.specs.declared.path.Key.TheVariants as key
use Rattle.task_file.specs.declared.path.Section.TheVariants as section
use Rattle.task_file.specs.declared.sections.Settings.{Settings}
use Rattle.task_file.specs.Items.{variable_of, named_text_of, slot_of}
use Rattle.task_file.specs.Lookups.{only_keys, top_integer, maybe_integer, tables_at, maybe_tables_at}
use Rattle.task_file.specs.Places.{of_section}
use Rattle.task_file.specs.Sections.{RawVariable, RawText, RawSlot, Sections}
use Rattle.task_file.specs.TimingSection.{timing_section}

-- the format, where the file says one
abbrev pub format_in : Members → Result (Option ℤ) FileFault
format_in members = maybe_integer section.Format (pos 1) (pos 2) (codes "format") members

-- the file is of format 2, which has keys that format 1 has not
abbrev pub is_second : Option ℤ → Bool
is_second None = false
is_second (Some format) = int_eq format (pos 2)

abbrev pub replicas_in : Members → Result ℤ FileFault
replicas_in members = top_integer section.Replicas (pos 1) (pos MAX_REPLICAS) (codes "replicas") members

-- the limit on the recovery length, which format 2 may have
abbrev pub limit_in : Bool → Members → Result (Option ℤ) FileFault
limit_in false _ = Ok None
limit_in true members = maybe_integer section.RecoveryLimit (pos 1) (pos MAX_RECOVERY) (codes "recovery_limit") members

-- what stands before the lists
abbrev pub settings_of : Members → Result Settings FileFault
settings_of members = do
  format ← format_in members
  let second = is_second format
  replicas ← replicas_in members
  limit ← limit_in second members
  timing ← timing_section members
  Ok (record { second = second; replicas = replicas; limit = limit; timing = timing })

abbrev pub sensor_section : Members → Result (List RawVariable) FileFault
sensor_section members =
    maybe_tables_at section.Sensor MAX_SENSORS (codes "sensor") members >>= each_from (variable_of section.Sensor false) 0

-- the cells, which may have `vote` in format 2
abbrev pub cell_section : Bool → Members → Result (List RawVariable) FileFault
cell_section second members =
    tables_at section.Cell 1 MAX_CELLS (codes "cell") members >>= each_from (variable_of section.Cell second) 0

abbrev pub task_section : Members → Result (List RawText) FileFault
task_section members =
    tables_at section.Task 1 MAX_TASKS (codes "task") members
    >>= each_from (named_text_of section.Task key.Body (codes "body")) 0

abbrev pub slot_section : Members → Result (List RawSlot) FileFault
slot_section members = tables_at section.Slot 1 MAX_SLOTS (codes "slot") members >>= each_from slot_of 0

abbrev pub actuator_section : Members → Result (List RawText) FileFault
actuator_section members =
    maybe_tables_at section.Actuator MAX_ACTUATORS (codes "actuator") members
    >>= each_from (named_text_of section.Actuator key.Value (codes "value")) 0

-- the keys of both formats
abbrev pub common_keys : List (List ℕ)
common_keys =
    codes "format" ∷ codes "replicas" ∷ codes "timing" ∷ codes "sensor" ∷ codes "cell" ∷ codes "task" ∷ codes "slot"
    ∷ codes "actuator" ∷ []

-- the keys of a format
abbrev pub top_keys : Bool → List (List ℕ)
top_keys false = common_keys
top_keys true = codes "recovery_limit" ∷ common_keys

-- the sections in their order, and no other key
unfoldable pub sections_of : Members → Result Sections FileFault
sections_of members = do
  settings ← settings_of members
  sensors ← sensor_section members
  cells ← cell_section settings.second members
  tasks ← task_section members
  slots ← slot_section members
  actuators ← actuator_section members
  only_keys (of_section section.Unknown) (top_keys settings.second) members (record {
    replicas = settings.replicas;
    limit = settings.limit;
    timing = settings.timing;
    sensors = sensors;
    cells = cells;
    tasks = tasks;
    slots = slots;
    actuators = actuators;
  })
