-- The text of a short replay, and its lines.
-- This project's own.
use Rattle.std.proofs.Common.{◌≡◌, ℕ, pos, List, [], ◌∷◌, ◌++◌, codes, None, refl}
use Rattle.std.specs.Prelude.{⊤}
use Rattle.std.specs.Fmt.{digits}
use Rattle.rcp_base.specs.Majority.{majority_of, voted_value}
use Rattle.rcp_base.specs.Median.{chosen_value}
use Rattle.rcp_base.specs.Tables.{table}
use Rattle.rcp_model.specs.declared.plan.PlanParts.{PlanParts}
use Rattle.rcp_model.specs.Ballot.{is_median, taken_slot, voted_cell, voted_cells, ballot_of}
use Rattle.rcp_model.specs.Command.{command_of, voted_command}
use Rattle.rcp_model.specs.FrameRows.{entry_at, is_down, slot_row, cell_row, act_row, lie_row, lie_slot_row, is_dropped, skew_of, rate_of, delay_of, no_rows}
use Rattle.rcp_model.specs.Health.{is_untouched, keeps_time, is_faithful, is_timely, is_healthy}
use Rattle.rcp_model.specs.History.{History}
use Rattle.rcp_model.specs.Messages.{is_voted, own_message, message_to, goes_out, arrival_of, letter_to, heard_message}
use Rattle.rcp_model.specs.Moments.{local_ticks, begin_tick, send_tick, vote_tick, sync_tick, is_in_window}
use Rattle.rcp_model.specs.Rounding.{parts_rounded_down}
use Rattle.rcp_model.specs.RowWrites.{with_down, with_cell}
use Rattle.rcp_model.specs.Slot.{cells_after_slot}
use Rattle.rcp_model.specs.System.{state_after_sync, state_after_rows, still_on_its_way, fresh_letter, heard_in, ballot_in, end_of_frame, next_state, initial_state, actuator_vote}
use Rattle.trace_text.specs.Lines.{count_line, frame_guard_line, replica_line}
use Rattle.rcp_top.specs.Printed.{frame_lines, lines_of_frame}
use Rattle.rcp_top.specs.Frames.{texts_from}
use Rattle.rcp_top.specs.Replay.{replay_frame_text, replay_text}

-- three replicas hold a number, and vote it in each of two slots
abbrev plan : PlanParts
plan = record {
  replicas = 3;
  timing = record {
    compute = pos 30_000;
    broadcast = pos 10_000;
    vote = pos 4_000;
    sync = pos 6_000;
    skew = pos 50;
    drift_ppm = pos 100;
    delay_min = pos 100;
    delay_max = pos 2_000;
    skew_limit = pos 500;
    drift_limit_ppm = pos 500;
  };
  sensors = [];
  cells = record { name = codes "x"; initial = pos 4 } ∷ [];
  tasks = [];
  slots = record { tasks = []; votes = 0 ∷ [] } ∷ record { tasks = []; votes = 0 ∷ [] } ∷ [];
  actuators = [];
  medians = [];
  recovery_limit = None;
}

-- the cell of replica 1 is overwritten, and in the next frame replica 2 is down
abbrev history : History
history = with_cell (no_rows plan []) 1 0 (pos 9) ∷ with_down (no_rows plan []) 2 ∷ []

abbrev text : List ℕ
text =
    codes "recovery 1\nframe 0 guard yes\nreplica 0 up slot 1 cells 4 working yes\nreplica 1 up slot 1 cells 9 working no\n"
    ++ codes "replica 2 up slot 1 cells 4 working yes\nframe 1 guard no\nreplica 0 up slot 0 cells 4 working yes\n"
    ++ codes "replica 1 up slot 0 cells 9 working yes\nreplica 2 down slot 1 cells 4 working no\nend 2\n"

-- the definitions that a replay computes with
unfoldable row_definitions : ⊤
unfolding entry_at is_down slot_row cell_row act_row lie_row lie_slot_row is_dropped skew_of rate_of delay_of no_rows with_down with_cell
row_definitions = tt

unfoldable health_definitions : ⊤
unfolding is_untouched keeps_time is_faithful is_timely is_healthy
health_definitions = tt

unfoldable message_definitions : ⊤
unfolding parts_rounded_down local_ticks begin_tick send_tick vote_tick sync_tick is_in_window is_voted own_message message_to goes_out arrival_of letter_to heard_message
message_definitions = tt

unfoldable system_definitions : ⊤
unfolding is_median chosen_value voted_value taken_slot voted_cell voted_cells ballot_of state_after_sync state_after_rows still_on_its_way fresh_letter heard_in ballot_in end_of_frame next_state initial_state command_of actuator_vote voted_command cells_after_slot table majority_of
system_definitions = tt

unfoldable text_definitions : ⊤
unfolding digits count_line frame_guard_line replica_line texts_from replay_frame_text replay_text
text_definitions = tt

-- working is told by health alone: replica 1 is wrong and working where the guard does not hold
a_replay_is_printed : replay_text plan 1 history ≡ text
unfolding row_definitions health_definitions message_definitions system_definitions text_definitions
a_replay_is_printed = refl

-- the lines of its frames
its_lines :
    (frame_lines text ≡ codes "frame 0 guard yes\n" ∷ codes "frame 1 guard no\n" ∷ [])
    × (lines_of_frame (codes "replica 1 ") 0 text ≡ codes "replica 1 up slot 1 cells 9 working no\n" ∷ [])
    × (lines_of_frame (codes "replica 2 ") 1 text ≡ codes "replica 2 down slot 1 cells 4 working no\n" ∷ [])
    × (lines_of_frame (codes "end ") 2 text ≡ [])
its_lines = (refl, refl, refl, refl)
