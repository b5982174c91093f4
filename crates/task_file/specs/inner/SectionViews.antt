-- What contracts see of the sections that the code holds.
-- This project's own.
use Rattle.std.specs.Prelude.{map}
use Rattle.task_file.specs.declared.sections.RawVariable as code_variable
use Rattle.task_file.specs.declared.sections.RawText as code_text
use Rattle.task_file.specs.declared.sections.RawSlot as code_slot
use Rattle.task_file.specs.declared.sections.Sections as code_sections
use Rattle.task_file.specs.Sections.{RawVariable, RawText, RawSlot, Sections}

abbrev pub variable_view : code_variable.RawVariable → RawVariable
variable_view variable = record { name = variable.name.now; initial = variable.initial; median = variable.median }

abbrev pub text_view : code_text.RawText → RawText
text_view text = record { name = text.name.now; text = text.text.now }

abbrev pub slot_view : code_slot.RawSlot → RawSlot
slot_view slot = record { tasks = map (λ name. name.now) slot.tasks; votes = map (λ name. name.now) slot.votes }

abbrev pub sections_view : code_sections.Sections → Sections
sections_view sections = record {
  replicas = sections.replicas;
  limit = sections.limit;
  timing = sections.timing;
  sensors = map variable_view sections.sensors;
  cells = map variable_view sections.cells;
  tasks = map text_view sections.tasks;
  slots = map slot_view sections.slots;
  actuators = map text_view sections.actuators;
}
