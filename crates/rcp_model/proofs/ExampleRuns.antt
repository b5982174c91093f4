-- What a run shows after each of its frames, which the examples compare with what it must be.
use Rattle.std.proofs.Common.{◌≡◌, ◌↔◌, ◌∙◌, ◌*◌, refl, sym, ap, subst, ℕ, suc, Bool, true, false, ℤ, List, [], ◌∷◌, length, Option, arith}
use Rattle.std.specs.Prelude.{◌&&◌, nat_lt, ⊤}
use Rattle.std.specs.Bool.{MatchBool}
use Rattle.std.proofs.lemmas.Bool.{cases_from_iff}
use Rattle.rcp_base.specs.Majority.{majority_of, voted_value}
use Rattle.rcp_base.specs.Median.{median_of, chosen_value}
use Rattle.rcp_base.specs.Tables.{table}
use Rattle.rcp_model.specs.declared.plan.PlanParts.{PlanParts}
use Rattle.rcp_model.specs.FrameRows.{FrameRows, entry_at, is_down, slot_row, cell_row, act_row, lie_row, lie_slot_row, is_dropped, skew_of, rate_of, delay_of, no_rows}
use Rattle.rcp_model.specs.History.{History}
use Rattle.rcp_model.specs.RowWrites.{with_sensor, with_down, with_slot, with_skew, with_rate, with_cell, with_act, with_lie_slot, with_drop, with_delay, with_lie}
use Rattle.rcp_model.specs.Health.{is_untouched, keeps_time, is_faithful, is_timely, is_healthy, is_working, healthy_count, MeetsGuard}
use Rattle.rcp_model.specs.Messages.{is_voted, own_message, message_to, is_up, goes_out, arrival_of, letter_to, heard_message}
use Rattle.rcp_model.specs.Ballot.{is_median}
use Rattle.rcp_model.specs.Command.{voted_command}
use Rattle.rcp_model.specs.Moments.{local_ticks, begin_tick, send_tick, vote_tick, sync_tick, is_in_window}
use Rattle.rcp_model.specs.Rounding.{parts_rounded_down}
use Rattle.rcp_model.specs.System.{actuator_vote, SystemState, state_after_sync, state_after_rows, still_on_its_way, initial_state, state_after}
use Rattle.rcp_model.specs.Ballot.{taken_slot, voted_cell, voted_cells, ballot_of}
use Rattle.rcp_model.proofs.ComputedRuns.{Engine, engine_of, state_by, state_by_own}

-- of a replica: whether it was up in the frame, its slot and cells after it, and whether it is working
pub record ReplicaShown : Type 0 where
  pub up : Bool
  pub slot : ℕ
  pub cells : List ℤ
  pub working : Bool

-- of a frame: whether the guard holds, the votes for the actuators, and the replicas
pub record FrameShown : Type 0 where
  pub guard : Bool
  pub votes : List (Option ℤ)
  pub replicas : List ReplicaShown

-- the guard as a test
abbrev pub meets_guard : PlanParts → ℕ → List FrameRows → Bool
meets_guard plan recovery [] = true
meets_guard plan recovery (rows ∷ past) =
    nat_lt plan.replicas (2 * healthy_count plan (suc recovery) (rows ∷ past)) && meets_guard plan recovery past

guard_is_tested : (plan : PlanParts) (recovery : ℕ) (past : List FrameRows)
    → (meets_guard plan recovery past ≡ true) ↔ MeetsGuard plan recovery past
guard_is_tested plan recovery [] = (λ _. tt, λ _. refl)
guard_is_tested plan recovery (rows ∷ past) = grind (arith, guard_is_tested plan recovery past)

module _ (plan : PlanParts) (recovery : ℕ) (states : List FrameRows → SystemState) where
  abbrev replica_shown : FrameRows → List FrameRows → ℕ → ReplicaShown
  replica_shown rows past replica = record {
    up = is_up plan rows replica;
    slot = ((states (rows ∷ past)).replicas replica).slot;
    cells = ((states (rows ∷ past)).replicas replica).cells;
    working = is_working plan recovery (rows ∷ past) replica;
  }

  abbrev frame_shown : FrameRows → List FrameRows → FrameShown
  frame_shown rows past = record {
    guard = meets_guard plan recovery (rows ∷ past);
    votes = table (length plan.actuators) (actuator_vote plan (states (rows ∷ past)));
    replicas = table plan.replicas (replica_shown rows past);
  }

  -- after each of these frames, which follow those of the past
  abbrev pub frames_shown : List FrameRows → History → List FrameShown
  frames_shown past [] = []
  frames_shown past (rows ∷ later) = frame_shown rows past ∷ frames_shown (rows ∷ past) later

-- the guard holds after the frames that show it, and not after the others
abbrev GuardsAre : PlanParts → ℕ → List FrameRows → History → List FrameShown → Type 0
GuardsAre plan recovery past [] shown = ⊤
GuardsAre plan recovery past (rows ∷ later) [] = ⊤
GuardsAre plan recovery past (rows ∷ later) (first ∷ rest) =
    MatchBool first.guard (MeetsGuard plan recovery (rows ∷ past)) (¬ (MeetsGuard plan recovery (rows ∷ past)))
    × GuardsAre plan recovery (rows ∷ past) later rest

-- a history of the system shows this after its frames
pub record Shows (plan : PlanParts) (recovery : ℕ) (history : History) (expected : List FrameShown) : Type 0 where
  pub frames : frames_shown plan recovery (state_after plan) [] history ≡ expected
  pub guards : GuardsAre plan recovery [] history expected

guards_shown : (plan : PlanParts) (recovery : ℕ) (states : List FrameRows → SystemState) (past : List FrameRows) (history : History)
    → GuardsAre plan recovery past history (frames_shown plan recovery states past history)
guards_shown plan recovery states past [] = tt
guards_shown plan recovery states past (rows ∷ later) =
    (cases_from_iff (guard_is_tested plan recovery (rows ∷ past)), guards_shown plan recovery states (rows ∷ past) later)

-- so it does where the system over the plan's functions does
pub shows_by : (plan : PlanParts) (recovery : ℕ) (engine : Engine) (history : History) (expected : List FrameShown)
    → engine_of plan ≡ engine → frames_shown plan recovery (state_by engine plan) [] history ≡ expected
    → Shows plan recovery history expected
shows_by plan recovery engine history expected own is =
    let frames =
    ap (λ states. frames_shown plan recovery states [] history) (sym (λ i past. state_by_own plan past i))
    ∙ (ap (λ e. frames_shown plan recovery (state_by e plan) [] history) own ∙ is) in
    record {
      frames = frames;
      guards = subst (GuardsAre plan recovery [] history) frames (guards_shown plan recovery (state_after plan) [] history);
    }

-- the definitions that a run computes with
unfoldable row_definitions : ⊤
unfolding entry_at is_down slot_row cell_row act_row lie_row lie_slot_row is_dropped skew_of rate_of delay_of
row_definitions = tt

unfoldable row_settings : ⊤
unfolding no_rows with_sensor with_down with_slot with_skew with_rate with_cell with_act with_lie_slot with_drop with_delay with_lie
row_settings = tt

unfoldable health_definitions : ⊤
unfolding is_untouched keeps_time is_faithful is_timely is_healthy
health_definitions = tt

unfoldable moment_definitions : ⊤
unfolding parts_rounded_down local_ticks begin_tick send_tick vote_tick sync_tick is_in_window
moment_definitions = tt

unfoldable message_definitions : ⊤
unfolding is_voted own_message message_to goes_out arrival_of letter_to heard_message
message_definitions = tt

unfoldable system_definitions : ⊤
unfolding taken_slot voted_cell voted_cells ballot_of state_after_sync state_after_rows still_on_its_way initial_state actuator_vote is_median voted_command
system_definitions = tt

unfoldable pub definitions : ⊤
unfolding row_definitions row_settings health_definitions moment_definitions message_definitions system_definitions table majority_of voted_value median_of chosen_value
definitions = tt

-- words for what is shown
abbrev pub up : ℕ → List ℤ → Bool → ReplicaShown
up slot cells working = record { up = true; slot = slot; cells = cells; working = working }

abbrev pub down : ℕ → List ℤ → Bool → ReplicaShown
down slot cells working = record { up = false; slot = slot; cells = cells; working = working }

-- a frame of a plan with one actuator
abbrev pub frame : Bool → Option ℤ → List ReplicaShown → FrameShown
frame guard vote replicas = record { guard = guard; votes = vote ∷ []; replicas = replicas }
