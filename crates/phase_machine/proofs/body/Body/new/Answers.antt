use Rattle.phase_machine.proofs.PlaceLemmas.{no_command, none_table}
use Rattle.rcp_base.specs.Tables.{table}
use Rattle.rcp_model.specs.System.{initial_state}
use Rattle.rcp_model.specs.Uniprocessor.{ProcessorState, initial_values}
use Rattle.rcp_model.specs.declared.plan.PlanParts.{PlanParts}
use Rattle.rcp_model.specs.declared.plan.Variable.{Variable}
use Rattle.std.proofs.Common.{List, ap, ℕ, ◌∙◌}
use Rattle.phase_machine.proofs.body.Body.new.Goals as goal

held_from : List Variable → ProcessorState
held_from cells = record { slot = 0; cells = initial_values cells }

pub returns-clause-held : goal.returns-clause-held
unfolding initial_state held_from
returns-clause-held c =
    c.in_ok-new.ensures
    ∙ ap held_from c.as_slice-cells.ensures
    ∙ ap (λ (p : PlanParts). held_from p.cells) c.parts.ensures.parts

pub returns-clause-commands : goal.returns-clause-commands
returns-clause-commands c =
    c.in_ok-commands.ensures ∙ none_table _
    ∙ ap (λ (n : ℕ). table n (λ (actuator : ℕ). no_command)) c.in_ok-setting.ensures.actuators
