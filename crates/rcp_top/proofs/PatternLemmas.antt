-- What is due of a vote pattern, by the statements on cycles and walks.
use Rattle.std.specs.Prelude.{⊤}
use Rattle.std.proofs.Common.{◌≡◌, ℕ, List, Option, Some, None, Result, Ok, Err, refl, inl, inr, sym, ap, ◌∙◌, subst}
use Rattle.std.proofs.lemmas.Bool.{cases_Bool, cond-true, cond-false, both_ways}
use Rattle.rcp_base.specs.Files.{Files}
use Rattle.rcp_model.specs.History.{History}
use Rattle.rcp_model.specs.Levels.{has_cycle}
use Rattle.rcp_model.specs.PlanGraph.{graph_of_plan}
use Rattle.rcp_model.specs.Shown.{recovery_length, witness_walk, witness_cycle}
use Rattle.rcp_model.specs.declared.plan.PlanParts.{PlanParts}
use Rattle.fault_journal.specs.History.{journal_result}
use Rattle.fault_journal.specs.declared.fault.JournalFault.{JournalFault}
use Rattle.task_file.specs.TaskFile.{task_file_result}
use Rattle.task_file.specs.declared.fault.FileFault.{FileFault}
use Rattle.rcp_model.proofs.ShownLaws.{cycle_found, cycle_is_right, none_found, recovery_is_right}
use Rattle.rcp_top.specs.declared.status.Status.TheVariants as status
use Rattle.rcp_top.specs.declared.stop.Refusal.{Refusal}
use Rattle.rcp_top.specs.declared.stop.Refusal.TheVariants as refusal
use Rattle.rcp_top.specs.Forms.{Form, work_of}
use Rattle.rcp_top.specs.Laws.{GivesPlan, IsRefusedAtCycles, PatternsAreRefusedAtCycles, AnalysesAreRight, file_of}
use Rattle.rcp_top.specs.Outcome.{Outcome, outcome_at, outcome_by, outcome_of}
use Rattle.rcp_top.specs.Check.{analysis_text}
use Rattle.rcp_top.specs.Reading.{Reading, End, end_at, end_over, ◌>>=◌}
use Rattle.rcp_top.specs.Ideal.{ideal_text, sensors_of_history}
use Rattle.rcp_top.specs.Events.{events_for}
use Rattle.rcp_top.specs.Frames.{recovery_of_plan}
use Rattle.rcp_top.specs.Replay.{replay_text}
use Rattle.rcp_top.specs.Read.{plan_at, history_at, good_plan, good_history, shown}
use Rattle.journal_gen.specs.Generator.{journal_text}
use Rattle.rcp_top.specs.Summary.{summary_text}
use Rattle.rcp_top.specs.Thin.{thinning_text}

-- the end of two readings by the end of the first
abbrev end_then : {X Y : Type 0} → Files → (X → Reading Y) → End X → End Y
end_then files next (End.gave (Ok x)) = end_over files (next x)
end_then files next (End.gave (Err why)) = End.gave (Err why)
end_then files next (End.unread name) = End.unread name

end_by_held : {X Y : Type 0} (files : Files) (name : List ℕ) (rest : List ℕ → Reading X) (next : X → Reading Y)
    → ((bytes : List ℕ) → end_over files (rest bytes >>= next) ≡ end_then files next (end_over files (rest bytes))) → (held : Option (List ℕ))
    → end_at name (λ bytes. end_over files (rest bytes >>= next)) held ≡ end_then files next (end_at name (λ bytes. end_over files (rest bytes)) held)
end_by_held files name rest next each_next None = refl
end_by_held files name rest next each_next (Some bytes) = each_next bytes

over_then : {X Y : Type 0} (files : Files) (first : Reading X) (next : X → Reading Y) → end_over files (first >>= next) ≡ end_then files next (end_over files first)
over_then files (Reading.gives (Ok x)) next = refl
over_then files (Reading.gives (Err why)) next = refl
over_then files (Reading.reads name rest) next = end_by_held files name rest next (λ bytes. over_then files (rest bytes) next) (files name)

-- each form reads a plan, and goes on with it
after_plan : Form → PlanParts → Reading (List ℕ)
after_plan (Form.check file) plan = shown (analysis_text plan)
after_plan (Form.thin file) plan = shown (thinning_text plan)
after_plan (Form.ideal file journal) plan = history_at plan journal >>= λ history. shown (ideal_text plan (sensors_of_history history))
after_plan (Form.replay file journal) plan = history_at plan journal >>= λ history. shown (replay_text plan (recovery_of_plan plan) history)
after_plan (Form.events file journal order) plan = history_at plan journal >>= λ history. shown (events_for order plan history)
after_plan (Form.gen file number frames) plan = shown (journal_text plan (recovery_of_plan plan) number frames)
after_plan (Form.summary file journal) plan = history_at plan journal >>= λ history. shown (summary_text plan (recovery_of_plan plan) history)

work_is : (form : Form) → work_of form ≡ plan_at (file_of form) >>= after_plan form
unfolding after_plan
work_is (Form.check file) = refl
work_is (Form.thin file) = refl
work_is (Form.ideal file journal) = refl
work_is (Form.replay file journal) = refl
work_is (Form.events file journal order) = refl
work_is (Form.summary file journal) = refl
work_is (Form.gen file number frames) = refl

plan_end : (files : Files) (file bytes : List ℕ) (plan : PlanParts) → files file ≡ Some bytes → task_file_result bytes ≡ Ok plan
    → end_over files (plan_at file) ≡ End.gave (good_plan (Ok plan))
plan_end files file bytes plan held given =
    ap (end_at file (λ bytes. End.gave (good_plan (task_file_result bytes)))) held ∙ ap (λ (said : Result PlanParts FileFault). End.gave (good_plan said)) given

outcome_is : (words : List (List ℕ)) (files : Files) (form : Form) (plan : PlanParts) → GivesPlan words files form plan
    → outcome_of words files ≡ outcome_at (end_then files (after_plan form) (End.gave (good_plan (Ok plan))))
outcome_is words files form plan gives =
    ap (λ asked. outcome_by asked files) gives.form_is
    ∙ ap (λ work. outcome_at (end_over files work)) (work_is form)
    ∙ ap outcome_at (over_then files (plan_at (file_of form)) (after_plan form))
    ∙ ap (λ (end : End PlanParts). outcome_at (end_then files (after_plan form) end)) (plan_end files (file_of form) gives.bytes plan gives.held gives.given)

-- a reading that refuses no pattern
abbrev RefusesNone : {X : Type 0} → Reading X → Type 0
RefusesNone (Reading.gives (Ok x)) = ⊤
RefusesNone (Reading.gives (Err (refusal.TaskFile fault))) = ⊤
RefusesNone (Reading.gives (Err (refusal.Pattern plan cycle))) = ⊥
RefusesNone (Reading.gives (Err (refusal.Journal fault))) = ⊤
RefusesNone (Reading.reads name next) = (bytes : List ℕ) → RefusesNone (next bytes)

none_then : {X Y : Type 0} (first : Reading X) (next : X → Reading Y) → RefusesNone first → ((x : X) → RefusesNone (next x)) → RefusesNone (first >>= next)
none_then (Reading.gives (Ok x)) next none all = all x
none_then (Reading.gives (Err (refusal.TaskFile fault))) next none all = tt
none_then (Reading.gives (Err (refusal.Pattern plan cycle))) next none all = none
none_then (Reading.gives (Err (refusal.Journal fault))) next none all = tt
none_then (Reading.reads name rest) next none all = λ bytes. none_then (rest bytes) next (none bytes) all

passes_by_held : (files : Files) (name : List ℕ) (next : List ℕ → Reading (List ℕ))
    → ((bytes : List ℕ) → (outcome_at (end_over files (next bytes))).status ≡ status.PatternRefused → ⊥) → (held : Option (List ℕ))
    → (outcome_at (end_at name (λ bytes. end_over files (next bytes)) held)).status ≡ status.PatternRefused → ⊥
passes_by_held files name next each_next None is = cc is
passes_by_held files name next each_next (Some bytes) is = each_next bytes is

passes : (files : Files) (reading : Reading (List ℕ)) → RefusesNone reading → (outcome_at (end_over files reading)).status ≡ status.PatternRefused → ⊥
passes files (Reading.gives (Ok text)) none is = cc is
passes files (Reading.gives (Err (refusal.TaskFile fault))) none is = cc is
passes files (Reading.gives (Err (refusal.Pattern plan cycle))) none is = none
passes files (Reading.gives (Err (refusal.Journal fault))) none is = cc is
passes files (Reading.reads name next) none is = passes_by_held files name next (λ bytes. passes files (next bytes) (none bytes)) (files name) is

-- a journal refuses no pattern
good_history_passes : (given : Result History JournalFault) → RefusesNone (Reading.gives (good_history given))
good_history_passes (Ok history) = tt
good_history_passes (Err fault) = tt

history_passes : (plan : PlanParts) (journal : List ℕ) → RefusesNone (history_at plan journal)
history_passes plan journal bytes = good_history_passes (journal_result plan bytes)

-- nor does what follows a plan, in each form
good_passes : (form : Form) (plan : PlanParts) → RefusesNone (after_plan form plan)
unfolding after_plan
good_passes (Form.check file) plan = tt
good_passes (Form.thin file) plan = tt
good_passes (Form.ideal file journal) plan = none_then (history_at plan journal) _ (history_passes plan journal) (λ history. tt)
good_passes (Form.replay file journal) plan = none_then (history_at plan journal) _ (history_passes plan journal) (λ history. tt)
good_passes (Form.events file journal order) plan = none_then (history_at plan journal) _ (history_passes plan journal) (λ history. tt)
good_passes (Form.gen file number frames) plan = tt
good_passes (Form.summary file journal) plan = none_then (history_at plan journal) _ (history_passes plan journal) (λ history. tt)

plan_refused : (form : Form) (plan : PlanParts) (files : Files) → IsRefusedAtCycles plan (outcome_at (end_then files (after_plan form) (End.gave (good_plan (Ok plan)))))
plan_refused form plan files =
    let g = graph_of_plan plan in
    let P : Result PlanParts Refusal → Type 0 = λ said. IsRefusedAtCycles plan (outcome_at (end_then files (after_plan form) (End.gave said))) in
    elim (cases_Bool (has_cycle g)) [
      | inl some ↦
          let cycle = cycle_is_right g some in
          subst P (sym (cond-true (has_cycle g) _ _ some)) (record {
            exactly = ((λ is. (witness_cycle g, cycle.cycle)), (λ there. refl));
            named = λ is. record { nodes = witness_cycle g; cycle = cycle.cycle; witness = cycle.witness; line = refl };
          })
      | inr none ↦
          subst P (sym (cond-false (has_cycle g) _ _ none)) (record {
            exactly = ((λ is. absurd (passes files (after_plan form plan) (good_passes form plan) is)), (λ there. absurd (both_ways (has_cycle g) none (cycle_found g there.0 there.1))));
            named = λ is. absurd (passes files (after_plan form plan) (good_passes form plan) is);
          })
    ]

pub refused_at_cycles : PatternsAreRefusedAtCycles
refused_at_cycles words files form plan gives =
    let P : Outcome → Type 0 = IsRefusedAtCycles plan in
    subst P (sym (outcome_is words files form plan gives)) (plan_refused form plan files)

pub analysed_right : AnalysesAreRight
unfolding after_plan
analysed_right words files file plan gives none =
    let g = graph_of_plan plan in
    let free = none_found g none in
    record {
      length = recovery_length g;
      walk = witness_walk g;
      told =
          outcome_is words files (Form.check file) plan gives
          ∙ ap (λ (said : Result PlanParts Refusal). outcome_at (end_then files (after_plan (Form.check file)) (End.gave said))) (cond-false (has_cycle g) _ (Ok plan) free);
      right = recovery_is_right g free;
    }
