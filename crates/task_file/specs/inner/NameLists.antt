-- The names of the sections of a task file, where none is bad.
-- This project's own.
use Rattle.std.specs.Prelude.{ℕ, List, Bool, ◌&&◌, not, Result, Ok}
use Rattle.rcp_base.specs.Answers.{◌>>=◌, unless_fault, has_text}
use Rattle.rcp_base.specs.Name.{is_name}
use Rattle.task_file.specs.declared.fault.FileFault.{FileFault}
use Rattle.task_file.specs.declared.fault.FileFault.TheVariants.{BadName}
use Rattle.task_file.specs.declared.names.NameLists.{NameLists}
use Rattle.task_file.specs.declared.path.Key.TheVariants as key
use Rattle.task_file.specs.declared.path.Section.{Section}
use Rattle.task_file.specs.Names.{bad_name_from, first_bad_name, raw_names, text_names}
use Rattle.task_file.specs.Places.{of_table_key}
use Rattle.task_file.specs.Sections.{Sections}

-- a bad name at a table of a section
abbrev pub bad_name : Section → ℕ → FileFault
bad_name at i = BadName (of_table_key at i key.Name)

-- a text is a name that does not stand before
abbrev pub is_new_name : List (List ℕ) → List ℕ → Bool
is_new_name before text = is_name text && not (has_text before text)

-- the names of a section, where none is bad
abbrev pub names_from : Section → List (List ℕ) → List (List ℕ) → Result (List (List ℕ)) FileFault
names_from at before names = unless_fault (bad_name_from at before 0 names) >>= λ _. Ok names

-- the names of all sections
abbrev pub lists_of : Sections → NameLists
lists_of sections = record {
  sensors = raw_names sections.sensors;
  cells = raw_names sections.cells;
  tasks = text_names sections.tasks;
  actuators = text_names sections.actuators;
}

-- the names of the sections, where none is bad
abbrev pub names_of_sections : Sections → Result NameLists FileFault
names_of_sections sections = unless_fault (first_bad_name sections) >>= λ _. Ok (lists_of sections)
