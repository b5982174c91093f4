-- The tasks and actuators that the texts of a file write keep the rules of a plan.
-- This project's own.
use Rattle.std.specs.Prelude.{All}
use Rattle.std.proofs.Common.{◌≡◌, ℕ, true, List, ◌++◌, length, map, Result, Ok, Err, refl, ap, subst}
use Rattle.rcp_base.specs.Answers.{each_from}
use Rattle.rcp_base.proofs.StepLaws.{then_ok, as_many_read, all_read, same_read}
use Rattle.rcp_model.specs.declared.task.Task.{Task}
use Rattle.rcp_model.specs.declared.plan.ActuatorRow.{ActuatorRow}
use Rattle.rcp_model.specs.Plan.{AreNames, is_over, IsTaskOver}
use Rattle.task_lang.specs.declared.fault.LangFault.{LangFault}
use Rattle.task_lang.specs.TextReaders.{read_body, read_expr}
use Rattle.task_lang.proofs.PlanRuleLaws.{read_expr_keeps_rules, read_body_keeps_rules, read_body_keeps_name}
use Rattle.task_file.specs.declared.path.Path.{Path}
use Rattle.task_file.specs.Names.{raw_names, text_names}
use Rattle.task_file.specs.Sections.{RawText, Sections}
use Rattle.task_file.specs.Fault.{of_text}
use Rattle.task_file.specs.Texts.{task_of, actuator_of, TextRows, text_rows_of}

text_ok : {A : Type 0} (path : Path) (answer : Result A LangFault) (x : A) → of_text path answer ≡ Ok x → answer ≡ Ok x
text_ok path (Ok y) x is = let same : y ≡ x = cc in ap Ok same
text_ok path (Err fault) x is = cc

module _ (sensors cells : List (List ℕ)) where
  task_named : (i : ℕ) (raw : RawText) (task : Task) → task_of sensors cells i raw ≡ Ok task → task.name ≡ raw.name
  task_named i raw task is = read_body_keeps_name sensors cells raw.name raw.text task (text_ok _ (read_body sensors cells raw.name raw.text) task is)

  task_over : AreNames (sensors ++ cells) → (i : ℕ) (raw : RawText) (task : Task) → task_of sensors cells i raw ≡ Ok task → IsTaskOver sensors cells task
  task_over are i raw task is = read_body_keeps_rules sensors cells are raw.name raw.text task (text_ok _ (read_body sensors cells raw.name raw.text) task is)

  -- an actuator is over the sensors and cells
  abbrev pub IsValueOver : ActuatorRow → Type 0
  IsValueOver actuator = is_over (length sensors) (length cells) 0 actuator.value ≡ true

  actuator_right : (i : ℕ) (raw : RawText) (actuator : ActuatorRow) → actuator_of sensors cells i raw ≡ Ok actuator → (actuator.name ≡ raw.name) × IsValueOver actuator
  actuator_right i raw actuator is =
      let (value, found, end) = then_ok (of_text _ (read_expr sensors cells raw.text)) _ actuator is in
      let row : ActuatorRow = record { name = raw.name; value = value } in
      let same : row ≡ actuator = cc in
      let over : IsValueOver row = read_expr_keeps_rules sensors cells raw.text value (text_ok _ (read_expr sensors cells raw.text) value found) in
      subst (λ (actuator : ActuatorRow). (actuator.name ≡ raw.name) × IsValueOver actuator) same (refl, over)

-- what the texts of these sections write
pub record KeepRules (sections : Sections) (written : TextRows) : Type 0 where
  pub task_names : map (λ (task : Task). task.name) written.tasks ≡ text_names sections.tasks
  pub actuator_names : map (λ (actuator : ActuatorRow). actuator.name) written.actuators ≡ text_names sections.actuators
  pub as_many_tasks : length written.tasks ≡ length sections.tasks
  pub as_many_actuators : length written.actuators ≡ length sections.actuators
  pub tasks : All (IsTaskOver (raw_names sections.sensors) (raw_names sections.cells)) written.tasks
  pub actuators : All (IsValueOver (raw_names sections.sensors) (raw_names sections.cells)) written.actuators

-- where no text has a fault
pub texts_right : (sections : Sections) (written : TextRows) → AreNames (raw_names sections.sensors ++ raw_names sections.cells) → text_rows_of sections ≡ Ok written
    → KeepRules sections written
unfolding text_rows_of
texts_right sections written are is =
    let sensors = raw_names sections.sensors in
    let cells = raw_names sections.cells in
    let (tasks, tasks_are, is) = then_ok (each_from (task_of sensors cells) 0 sections.tasks) _ written is in
    let (actuators, actuators_are, is) = then_ok (each_from (actuator_of sensors cells) 0 sections.actuators) _ written is in
    let both : TextRows = record { tasks = tasks; actuators = actuators } in
    let same : both ≡ written = cc in
    subst (KeepRules sections) same (record {
      task_names = same_read (task_of sensors cells) (λ raw. raw.name) (λ task. task.name) (task_named sensors cells) 0 sections.tasks tasks tasks_are;
      actuator_names = same_read (actuator_of sensors cells) (λ raw. raw.name) (λ actuator. actuator.name) (λ i raw actuator is. (actuator_right sensors cells i raw actuator is).0) 0
          sections.actuators actuators actuators_are;
      as_many_tasks = as_many_read (task_of sensors cells) 0 sections.tasks tasks tasks_are;
      as_many_actuators = as_many_read (actuator_of sensors cells) 0 sections.actuators actuators actuators_are;
      tasks = all_read (task_of sensors cells) (IsTaskOver sensors cells) (task_over sensors cells are) 0 sections.tasks tasks tasks_are;
      actuators = all_read (actuator_of sensors cells) (IsValueOver sensors cells) (λ i raw actuator is. (actuator_right sensors cells i raw actuator is).1) 0
          sections.actuators actuators actuators_are;
    })
