-- The first bad name of a file is the first of the first section that has one.
-- This project's own.
use Rattle.std.proofs.Common.{◌≡◌, ℕ, List, [], Option, Some, None, Ok, Err, ap, ◌∙◌, Result}
use Rattle.rcp_base.specs.Answers.{◌>>=◌, unless_fault, first_fault, IsFaultOr}
use Rattle.rcp_base.proofs.ReaderLaws.{fault_along}
use Rattle.task_file.specs.Fault.{is_file_memory}
use Rattle.task_file.specs.declared.fault.FileFault.{FileFault}
use Rattle.task_file.specs.declared.names.NameLists.{NameLists}
use Rattle.task_file.specs.Names.{bad_name_from, first_bad_name, raw_names, text_names}
use Rattle.task_file.specs.inner.NameLists.{names_from, names_of_sections, lists_of}
use Rattle.task_file.specs.Sections.{Sections}
use Rattle.task_file.specs.declared.path.Section.TheVariants as section

same_fault : {X : Type 0} (f fault : FileFault) → ◌≡◌ {A = Result X FileFault} (Err f) (Err fault) → f ≡ fault
same_fault f fault same = cc

-- a fault of one section, with those behind it
this_is_told : (found behind : Option FileFault) (names : List (List ℕ)) (lists : NameLists) (fault : FileFault)
    → IsFaultOr (is_file_memory fault) fault (unless_fault found >>= λ _. Ok names) → IsFaultOr (is_file_memory fault) fault (unless_fault (first_fault found behind) >>= λ _. Ok lists)
this_is_told (Some f) behind names lists fault told =
    let this : Result (List (List ℕ)) FileFault = Err f in
    fault_along (is_file_memory fault) fault this (Err f) told (λ is. ap Err (same_fault f fault is))
this_is_told None behind names lists fault told =
    let this : Result (List (List ℕ)) FileFault = Ok names in
    fault_along (is_file_memory fault) fault this (unless_fault behind >>= λ _. Ok lists) told (λ is. cc)

-- the same of the last section
last_is_told : (found : Option FileFault) (names : List (List ℕ)) (lists : NameLists) (fault : FileFault)
    → IsFaultOr (is_file_memory fault) fault (unless_fault found >>= λ _. Ok names) → IsFaultOr (is_file_memory fault) fault (unless_fault found >>= λ _. Ok lists)
last_is_told (Some f) names lists fault told = this_is_told (Some f) None names lists fault told
last_is_told None names lists fault told = this_is_told None None names lists fault told

-- where a section has no fault, one behind it is the first
later_is_told : (found behind : Option FileFault) (names good : List (List ℕ)) (lists : NameLists) (fault : FileFault)
    → (unless_fault found >>= λ _. Ok names) ≡ Ok good → IsFaultOr (is_file_memory fault) fault (unless_fault behind >>= λ _. Ok lists)
    → IsFaultOr (is_file_memory fault) fault (unless_fault (first_fault found behind) >>= λ _. Ok lists)
later_is_told (Some f) behind names good lists fault none told = cc
later_is_told None behind names good lists fault none told = told

all_names : (found : Option FileFault) (x y : List (List ℕ)) → (unless_fault found >>= λ _. Ok x) ≡ Ok y → x ≡ y
all_names None x y is = cc
all_names (Some fault) x y is = cc

module _ (sections : Sections) (sensors cells : List (List ℕ)) (fault : FileFault) (one : names_from section.Sensor [] (raw_names sections.sensors) ≡ Ok sensors)
    (two : names_from section.Cell sensors (raw_names sections.cells) ≡ Ok cells) where
  -- behind sensors and cells
  behind_variables : IsFaultOr (is_file_memory fault) fault (unless_fault (first_fault (bad_name_from section.Task [] 0 (text_names sections.tasks))
      (bad_name_from section.Actuator [] 0 (text_names sections.actuators))) >>= λ _. Ok (lists_of sections))
      → IsFaultOr (is_file_memory fault) fault (names_of_sections sections)
  unfolding first_bad_name
  behind_variables told =
      let same : raw_names sections.sensors ≡ sensors = all_names (bad_name_from section.Sensor [] 0 (raw_names sections.sensors)) _ sensors one in
      let two' : names_from section.Cell (raw_names sections.sensors) (raw_names sections.cells) ≡ Ok cells =
      ap (λ before. names_from section.Cell before (raw_names sections.cells)) same ∙ two
      in
      later_is_told (bad_name_from section.Sensor [] 0 (raw_names sections.sensors)) _ (raw_names sections.sensors) sensors (lists_of sections) fault one
      (later_is_told (bad_name_from section.Cell (raw_names sections.sensors) 0 (raw_names sections.cells)) _ (raw_names sections.cells) cells (lists_of sections)
      fault two' told)

  pub task_fault_is_told : IsFaultOr (is_file_memory fault) fault (names_from section.Task [] (text_names sections.tasks)) → IsFaultOr (is_file_memory fault) fault (names_of_sections sections)
  task_fault_is_told told = behind_variables (this_is_told (bad_name_from section.Task [] 0 (text_names sections.tasks)) _ (text_names sections.tasks) (lists_of sections) fault told)

  pub actuator_fault_is_told : (tasks : List (List ℕ)) → names_from section.Task [] (text_names sections.tasks) ≡ Ok tasks
      → IsFaultOr (is_file_memory fault) fault (names_from section.Actuator [] (text_names sections.actuators)) → IsFaultOr (is_file_memory fault) fault (names_of_sections sections)
  actuator_fault_is_told tasks three told =
      behind_variables (later_is_told (bad_name_from section.Task [] 0 (text_names sections.tasks)) _ (text_names sections.tasks) tasks (lists_of sections) fault three
      (last_is_told (bad_name_from section.Actuator [] 0 (text_names sections.actuators)) (text_names sections.actuators) (lists_of sections) fault told))
