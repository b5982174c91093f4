-- The answer to the bytes of a task file: the parts of its plan, or the first test that it fails.
-- This project's own.
use Rattle.std.specs.Prelude.{ℕ, ◌+◌, List, [], ◌∷◌, map, nat_le, length, Option, Some, None, option_map, Result, Ok, Err, if◌then◌else◌}
use Rattle.std.specs.Str.{is_utf8}
use Rattle.toml.specs.Data.{Members}
use Rattle.toml.specs.Parse.{parse_document}
use Rattle.rcp_base.specs.declared.TheConstants.{MAX_TASK_FILE}
use Rattle.rcp_base.specs.Answers.{◌>>=◌, found_or, unless_fault, natural_of}
use Rattle.rcp_model.specs.declared.plan.Variable.{Variable}
use Rattle.rcp_model.specs.declared.plan.SlotRow.{SlotRow}
use Rattle.rcp_model.specs.declared.plan.Timing.{Timing}
use Rattle.rcp_model.specs.declared.plan.PlanParts.{PlanParts}
use Rattle.rcp_model.specs.TimingRules.{first_failed_rule}
use Rattle.task_file.specs.declared.fault.FileFault.{FileFault}
use Rattle.task_file.specs.declared.fault.FileFault.TheVariants as fault
use Rattle.task_file.specs.Names.{first_bad_name, raw_names, text_names}
use Rattle.task_file.specs.Sections.{RawVariable, Sections}
use Rattle.task_file.specs.Shape.{sections_of}
use Rattle.task_file.specs.Slots.{slot_rows_of, clash_from}
use Rattle.task_file.specs.Texts.{TextRows, text_rows_of}

-- the document that bytes are, where they are text
unfoldable pub document_of : List ℕ → Result Members FileFault
document_of bytes = found_or fault.NotToml (if is_utf8 bytes then parse_document bytes else None)

-- sensors or cells, with their names
abbrev pub variables_of : List RawVariable → List Variable
variables_of raws = map (λ raw. record { name = raw.name; initial = raw.initial }) raws

-- the numbers of those that the median votes, where the first has this number
abbrev pub medians_from : ℕ → List RawVariable → List ℕ
medians_from i [] = []
medians_from i (raw ∷ raws) = if raw.median then i ∷ medians_from (i + 1) raws else medians_from (i + 1) raws

-- the parts of the plan of these sections, texts and slots
abbrev pub plan_parts : Sections → TextRows → List SlotRow → PlanParts
plan_parts sections rows slots = record {
  replicas = natural_of sections.replicas;
  timing = sections.timing;
  sensors = variables_of sections.sensors;
  cells = variables_of sections.cells;
  tasks = rows.tasks;
  slots = slots;
  actuators = rows.actuators;
  medians = medians_from 0 sections.cells;
  recovery_limit = option_map natural_of sections.limit;
}

-- the first rule of the timing that fails
abbrev pub timing_fault : Timing → Option FileFault
timing_fault timing = option_map fault.Timing (first_failed_rule timing)

-- the tests after the shape, group by group: names, texts, entries of slots, clashes, timing
unfoldable pub parts_of_sections : Sections → Result PlanParts FileFault
parts_of_sections sections = do
  named ← unless_fault (first_bad_name sections)
  rows ← text_rows_of sections
  slots ← slot_rows_of (text_names sections.tasks) (raw_names sections.cells) sections.slots
  apart ← unless_fault (clash_from rows.tasks 0 slots)
  timed ← unless_fault (timing_fault sections.timing)
  Ok (plan_parts sections rows slots)

-- what the bytes of a task file give
unfoldable pub task_file_result : List ℕ → Result PlanParts FileFault
task_file_result bytes =
    if nat_le (length bytes) MAX_TASK_FILE then document_of bytes >>= sections_of >>= parts_of_sections
    else Err fault.TooLong
