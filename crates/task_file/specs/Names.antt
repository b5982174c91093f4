-- Names of a task file: each is a name, and none stands twice in its set.
-- This project's own.
use Rattle.std.specs.Prelude.{ℕ, ◌+◌, List, [], ◌∷◌, ◌++◌, map, ◌&&◌, not, Option, Some, None, if◌then◌else◌}
use Rattle.rcp_base.specs.Answers.{first_fault, has_text}
use Rattle.rcp_base.specs.Name.{is_name}
use Rattle.task_file.specs.declared.fault.FileFault.{FileFault}
use Rattle.task_file.specs.declared.fault.FileFault.TheVariants.{BadName}
use Rattle.task_file.specs.declared.path.Key.TheVariants as key
use Rattle.task_file.specs.declared.path.Section.{Section}
use Rattle.task_file.specs.declared.path.Section.TheVariants as section
use Rattle.task_file.specs.Places.{of_table_key}
use Rattle.task_file.specs.Sections.{RawVariable, RawText, Sections}

-- the first bad name of a section from number i on, where these names stand before
abbrev pub bad_name_from : Section → List (List ℕ) → ℕ → List (List ℕ) → Option FileFault
bad_name_from at before i [] = None
bad_name_from at before i (name ∷ names) =
    if is_name name && not (has_text before name) then bad_name_from at (before ++ name ∷ []) (i + 1) names
    else Some (BadName (of_table_key at i key.Name))

-- the texts for names of variables
abbrev pub raw_names : List RawVariable → List (List ℕ)
raw_names variables = map (λ variable. variable.name) variables

-- those of tasks or actuators
abbrev pub text_names : List RawText → List (List ℕ)
text_names texts = map (λ text. text.name) texts

-- the first bad name: sensors and cells have one set of names, tasks have one, and actuators have one
unfoldable pub first_bad_name : Sections → Option FileFault
first_bad_name sections =
    first_fault (bad_name_from section.Sensor [] 0 (raw_names sections.sensors))
    (first_fault (bad_name_from section.Cell (raw_names sections.sensors) 0 (raw_names sections.cells))
    (first_fault (bad_name_from section.Task [] 0 (text_names sections.tasks))
    (bad_name_from section.Actuator [] 0 (text_names sections.actuators))))
