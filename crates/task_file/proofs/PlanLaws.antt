-- The parts of a file that passes every test keep the rules of a plan.
-- This project's own.
use Rattle.std.specs.Prelude.{negsuc, All, option_map, IfSome}
use Rattle.std.proofs.Common.{◌≡◌, ℕ, ◌<◌, ◌≤◌, ℤ, pos, ◌≤ℤ◌, Bool, true, false, cond, List, [], ◌∷◌, ◌++◌, length, Option, Some, None, Ok, Err, refl, sym, ap, ◌∙◌, subst, arith, nat_le}
use Rattle.std.proofs.lemmas.Int.{ints}
use Rattle.std.proofs.lemmas.List.{length-map}
use Rattle.rcp_base.specs.declared.TheConstants.{MAX_REPLICAS, MAX_RECOVERY, MAX_TASK_FILE}
use Rattle.rcp_base.specs.Answers.{◌>>=◌, unless_fault, natural_of}
use Rattle.rcp_base.proofs.StepLaws.{then_ok, none_found}
use Rattle.rcp_model.specs.declared.plan.Variable.{Variable}
use Rattle.rcp_model.specs.declared.plan.SlotRow.{SlotRow}
use Rattle.rcp_model.specs.declared.plan.Timing.{Timing}
use Rattle.rcp_model.specs.declared.plan.ActuatorRow.{ActuatorRow}
use Rattle.rcp_model.specs.declared.plan.PlanParts.{PlanParts}
use Rattle.rcp_model.specs.TimingRules.{KeepsRules, first_failed_rule}
use Rattle.rcp_model.specs.Laws.{TellsFirstFailedRule}
use Rattle.rcp_model.specs.Plan as plan
use Rattle.rcp_model.proofs.TimingLaws.{first_failed_rule-tells}
use Rattle.task_file.specs.Sections.{RawVariable, Sections}
use Rattle.task_file.specs.Shape.{sections_of}
use Rattle.task_file.specs.inner.Limits.{AreShortSections}
use Rattle.task_file.specs.Names.{raw_names, text_names, first_bad_name}
use Rattle.task_file.specs.Texts.{TextRows, text_rows_of}
use Rattle.task_file.specs.Slots.{slot_rows_of, clash_from}
use Rattle.task_file.specs.TaskFile.{document_of, variables_of, plan_parts, timing_fault, parts_of_sections, task_file_result}
use Rattle.task_file.specs.Laws.{AcceptedFilesArePlans}
use Rattle.task_file.specs.declared.fault.FileFault.TheVariants as fault
use Rattle.task_file.proofs.LimitLemmas.{sections_within}
use Rattle.task_file.proofs.MedianLemmas.{are_medians}
use Rattle.task_file.proofs.PlanNames.{HasNames, names_right}
use Rattle.task_file.proofs.PlanTexts.{KeepRules, texts_right}
use Rattle.task_file.proofs.PlanSlots.{AreEntries, rows_there, as_many_rows}
use Rattle.task_file.proofs.PlanClashes.{IsApart, rows_apart}

some_natural : (n : ℤ) → pos 1 ≤ℤ n → 1 ≤ natural_of n
some_natural (pos n) some = omega (arith, ints)
some_natural (negsuc n) some = absurd (omega (arith, ints))

few_natural : (most : ℕ) (n : ℤ) → n ≤ℤ pos most → natural_of n ≤ most
few_natural most (pos n) few = omega (arith, ints)
few_natural most (negsuc n) few = omega arith

-- a limit on the recovery length, as the plan has it
natural_limit : (limit : Option ℤ) → IfSome limit (λ nodes. (pos 1 ≤ℤ nodes) × (nodes ≤ℤ pos MAX_RECOVERY))
    → plan.IsRecoveryLimit (option_map natural_of limit)
natural_limit None within = tt
natural_limit (Some nodes) within = (some_natural nodes within.0, few_natural MAX_RECOVERY nodes within.1)

no_rule : (rule : Option ℕ) → option_map fault.Timing rule ≡ None → rule ≡ None
no_rule None none = refl
no_rule (Some rule) none = cc

timing_kept : (timing : Timing) → timing_fault timing ≡ None → KeepsRules timing
timing_kept timing none =
    let told : TellsFirstFailedRule timing (first_failed_rule timing) = first_failed_rule-tells timing in
    told.none.0 (no_rule (first_failed_rule timing) none)

named : (raws : List RawVariable) → plan.variable_names (variables_of raws) ≡ raw_names raws
named [] = refl
named (raw ∷ raws) = ap (λ names. raw.name ∷ names) (named raws)

counted : (raws : List RawVariable) → length (variables_of raws) ≡ length raws
counted raws = length-map raws _

as_many_named : (raws : List RawVariable) → length (raw_names raws) ≡ length (variables_of raws)
as_many_named raws = length-map raws _ ∙ sym (counted raws)

module _ (sections : Sections) (written : TextRows) (slots : List SlotRow) (keep : KeepRules sections written) where
  abbrev sensors : List Variable
  sensors = variables_of sections.sensors

  abbrev cells : List Variable
  cells = variables_of sections.cells

  slot_right : (slot : SlotRow) → AreEntries (length (text_names sections.tasks)) (length (raw_names sections.cells)) slot → IsApart written.tasks slot
      → plan.IsSlotOver written.tasks (length cells) slot
  slot_right slot entries clashes =
      let as_many_tasks : length (text_names sections.tasks) ≡ length written.tasks = length-map sections.tasks _ ∙ sym keep.as_many_tasks in
      record {
        few_tasks = entries.few_tasks;
        few_votes = entries.few_votes;
        tasks_there = subst (λ n. All (λ number. number < n) slot.tasks) as_many_tasks entries.tasks_there;
        votes_there = subst (λ n. All (λ number. number < n) slot.votes) (as_many_named sections.cells) entries.votes_there;
        tasks_distinct = clashes.tasks_distinct;
        votes_distinct = clashes.votes_distinct;
        apart = clashes.apart;
      }

  plan_right : AreShortSections sections → HasNames sections → KeepsRules sections.timing → length slots ≡ length sections.slots
      → All (plan.IsSlotOver written.tasks (length cells)) slots → plan.IsPlan (plan_parts sections written slots)
  plan_right limits names timed as_many rows =
      let counted_sensors = counted sections.sensors in
      let counted_cells = counted sections.cells in
      let own_sensors = sym (named sections.sensors) in
      let own_cells = sym (named sections.cells) in
      record {
        some_replicas = some_natural sections.replicas limits.some_replicas;
        few_replicas = few_natural MAX_REPLICAS sections.replicas limits.few_replicas;
        timing_range = limits.timing;
        timing_rules = timed;
        sensors = omega (arith, limits.sensors);
        cells = record { some = omega (arith, limits.cells.some); few = omega (arith, limits.cells.few) };
        tasks = record { some = omega (arith, limits.tasks.some, keep.as_many_tasks); few = omega (arith, limits.tasks.few, keep.as_many_tasks) };
        slots = record { some = omega (arith, limits.slots.some); few = omega (arith, limits.slots.few) };
        actuators = omega (arith, limits.actuators, keep.as_many_actuators);
        variables = subst (λ list. plan.AreNames (plan.variable_names sensors ++ list)) own_cells
            (subst (λ list. plan.AreNames (list ++ raw_names sections.cells)) own_sensors names.variables);
        task_names = subst plan.AreNames (sym keep.task_names) names.tasks;
        actuator_names = subst plan.AreNames (sym keep.actuator_names) names.actuators;
        each_task = subst (λ list. All (plan.IsTaskOver (plan.variable_names sensors) list) written.tasks) own_cells
            (subst (λ list. All (plan.IsTaskOver list (raw_names sections.cells)) written.tasks) own_sensors keep.tasks);
        each_slot = rows;
        each_value = subst (λ n. All (λ (actuator : ActuatorRow). plan.is_over (length sensors) n 0 actuator.value ≡ true) written.actuators) (as_many_named sections.cells)
            (subst (λ n. All (λ (actuator : ActuatorRow). plan.is_over n (length (raw_names sections.cells)) 0 actuator.value ≡ true) written.actuators) (as_many_named sections.sensors) keep.actuators);
        medians = are_medians sections.cells (length cells) (sym counted_cells);
        limit = natural_limit sections.limit limits.limit;
      }

sections_right : (sections : Sections) (parts : PlanParts) → AreShortSections sections → parts_of_sections sections ≡ Ok parts → plan.IsPlan parts
unfolding parts_of_sections
sections_right sections parts limits is =
    let tasks = text_names sections.tasks in
    let cells = raw_names sections.cells in
    let (fine, no_fault, is) = then_ok (unless_fault (first_bad_name sections)) _ parts is in
    let (written, texts, is) = then_ok (text_rows_of sections) _ parts is in
    let (slots, rows, is) = then_ok (slot_rows_of tasks cells sections.slots) _ parts is in
    let (fine, no_clash, is) = then_ok (unless_fault (clash_from written.tasks 0 slots)) _ parts is in
    let (fine, no_rule, is) = then_ok (unless_fault (timing_fault sections.timing)) _ parts is in
    let same : plan_parts sections written slots ≡ parts = cc in
    let names : HasNames sections = names_right sections (none_found (first_bad_name sections) _ no_fault) in
    let keep : KeepRules sections written = texts_right sections written names.variables texts in
    let apart : All (IsApart written.tasks) slots = rows_apart written.tasks 0 slots (none_found (clash_from written.tasks 0 slots) _ no_clash) in
    subst plan.IsPlan same
    (plan_right sections written slots keep limits names
    (timing_kept sections.timing (none_found (timing_fault sections.timing) _ no_rule))
    (as_many_rows tasks cells sections.slots slots rows)
    (λ k d below. slot_right sections written slots keep _ (rows_there tasks cells sections.slots slots limits.short_slots rows k d below) (apart k d below)))

-- the parts of an answer
pub accepted_files_are_plans : AcceptedFilesArePlans
unfolding task_file_result
accepted_files_are_plans bytes parts is = by_case (nat_le (length bytes) MAX_TASK_FILE) is
  where
    by_case : (short : Bool) → cond short (document_of bytes >>= sections_of >>= parts_of_sections) (Err fault.TooLong) ≡ Ok parts → plan.IsPlan parts
    by_case true is =
        let (sections, shape, is) = then_ok (document_of bytes >>= sections_of) parts_of_sections parts is in
        let (members, document, shape) = then_ok (document_of bytes) sections_of sections shape in
        sections_right sections parts (sections_within members sections shape) is
    by_case false is = cc
