-- The replicated system over functions in the place of a plan's expressions, since expressions do not compute.
-- Over the plan's own functions it is the system of the definitions.
use Rattle.std.proofs.Common.{◌≡◌, ◌∙◌, ap, refl, ℕ, suc, ℤ, List, [], ◌∷◌, Option, Some, None, if◌then◌else◌}
use Rattle.std.specs.Prelude.{option_map, slice_index_or}
use Rattle.std.specs.Option.{option_or}
use Rattle.rcp_base.specs.Message.{Content}
use Rattle.rcp_model.specs.declared.plan.PlanParts.{PlanParts}
use Rattle.rcp_model.specs.FrameRows.{FrameRows, act_row}
use Rattle.rcp_model.specs.Messages.{Letter, is_voted, own_message, letter_to, heard_message, is_up}
use Rattle.rcp_model.specs.Slot.{cells_after_slot, actuator_value, no_actuator}
use Rattle.rcp_model.specs.Ballot.{Ballot, ballot_of}
use Rattle.rcp_model.specs.System.{SystemState, state_after_sync, state_after_rows, still_on_its_way, fresh_letter, heard_in, ballot_in, end_of_frame, next_state, initial_state, state_after}
use Rattle.rcp_model.specs.Command.{command_of}

-- what a slot leaves in the cells, and what an actuator is commanded
pub record Engine : Type 0 where
  pub slot : ℕ → List ℤ → List ℤ → List ℤ
  pub command : ℕ → List ℤ → List ℤ → ℤ

-- the plan's own
abbrev pub engine_of : PlanParts → Engine
engine_of plan = record {
  slot = cells_after_slot plan;
  command = λ actuator sensors cells. actuator_value (slice_index_or plan.actuators actuator no_actuator) sensors cells;
}

-- the definitions of a frame, with an engine that runs the slots
module _ (engine : Engine) (plan : PlanParts) where
  abbrev letter_by : SystemState → FrameRows → ℕ → ℕ → Option Letter
  letter_by state rows receiver sender =
      let held = state.replicas sender in
      letter_to plan state.done rows (own_message plan (is_voted plan) held.slot (engine.slot held.slot rows.sensors held.cells)) sender receiver

  abbrev heard_by : SystemState → FrameRows → ℕ → ℕ → Option Content
  heard_by state rows receiver sender =
      let held = state.replicas receiver in
      heard_message plan state.done rows receiver sender
      (own_message plan (is_voted plan) held.slot (engine.slot held.slot rows.sensors held.cells))
      (letter_by state rows receiver sender) (state.letters receiver sender)

  abbrev ballot_by : SystemState → FrameRows → ℕ → Ballot
  ballot_by state rows replica =
      let held = state.replicas replica in
      ballot_of plan (is_voted plan) held.slot (engine.slot held.slot rows.sensors held.cells) (heard_by state rows replica)

  abbrev ballots_by : SystemState → FrameRows → ℕ → Option Ballot
  ballots_by state rows replica = if is_up plan rows replica then Some (ballot_by state rows replica) else None

  abbrev pub next_by : SystemState → FrameRows → SystemState
  next_by state rows = record {
    done = suc state.done;
    replicas = λ replica.
        state_after_rows plan rows replica
        (if is_up plan rows replica then state_after_sync plan (ballot_by state rows replica) else state.replicas replica);
    ballots = ballots_by state rows;
    commands = λ replica actuator.
        option_or (act_row rows replica actuator)
        (option_map (λ voted. engine.command actuator rows.sensors voted.cells) (ballots_by state rows replica));
    letters = λ receiver sender. still_on_its_way plan state.done (letter_by state rows receiver sender);
  }

  abbrev pub state_by : List FrameRows → SystemState
  state_by [] = initial_state plan
  state_by (rows ∷ past) = next_by (state_by past) rows

module _ (plan : PlanParts) where
  next_by_own : (state : SystemState) (rows : FrameRows) → next_by (engine_of plan) plan state rows ≡ next_state plan state rows
  unfolding next_state end_of_frame fresh_letter heard_in ballot_in command_of
  next_by_own state rows = refl

  pub state_by_own : (past : List FrameRows) → state_by (engine_of plan) plan past ≡ state_after plan past
  state_by_own [] = refl
  state_by_own (rows ∷ past) =
      next_by_own (state_by (engine_of plan) plan past) rows ∙ ap (λ state. next_state plan state rows) (state_by_own past)
