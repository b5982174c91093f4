-- What replicas command, and what is voted of their commands. After NASA TM-102716.
use Rattle.std.specs.Prelude.{ℕ, ℤ, Option, option_map}
use Rattle.std.specs.Ordering.{int_eq}
use Rattle.std.specs.Option.{option_or}
use Rattle.rcp_base.specs.Majority.{majority_of}
use Rattle.rcp_base.specs.Tables.{table}
use Rattle.rcp_model.specs.declared.plan.PlanParts.{PlanParts}
use Rattle.rcp_model.specs.Ballot.{Ballot}
use Rattle.rcp_model.specs.FrameRows.{FrameRows, act_row}
use Rattle.rcp_model.specs.Slot.{actuator_at, actuator_value}

-- a replica's command: by a row, else what it evaluates over its cells after the vote, else none where it is down
unfoldable pub command_of : PlanParts → FrameRows → ℕ → ℕ → Option Ballot → Option ℤ
command_of plan rows replica actuator ballot =
    option_or (act_row rows replica actuator)
    (option_map (λ voted. actuator_value (actuator_at plan actuator) rows.sensors voted.cells) ballot)

-- the vote for an actuator: the command that more than half of all replicas give, if there is one
unfoldable pub voted_command : PlanParts → (ℕ → ℕ → Option ℤ) → ℕ → Option ℤ
voted_command plan commands actuator = majority_of int_eq (table plan.replicas (λ replica. commands replica actuator))
