-- Replicas on clocks, with the events that are left and those that were taken. This project's own.
use Rattle.std.specs.Prelude.{◌≡◌, ◌≤◌, ◌+◌, ◌*◌, ℕ, List, [], length, vec_capacity}
use Rattle.clocked_layer.specs.Block.{Block}
use Rattle.clocked_layer.specs.Machine.{IsMachineAt, ShowsBlock}
use Rattle.clocked_layer.specs.Ready.{IsReady}
use Rattle.clocked_layer.specs.Stepped.{Mail}
use Rattle.clocked_layer.specs.Way.{IsUnderWay, block_so_far}
use Rattle.clocked_layer.specs.declared.clocked.Clocked.{Clocked}
use Rattle.event_queue.specs.declared.event.Event.{Event}
use Rattle.rcp_model.specs.FrameRows.{FrameRows}
use Rattle.rcp_model.specs.System.{SystemState}
use Rattle.rcp_model.specs.declared.plan.PlanParts.{PlanParts}

-- how many events a block of so many replicas may have
abbrev pub most_events : ℕ → ℕ
most_events replicas = (4 + 2 * replicas) * replicas

-- a block is as a log leaves it, from some state and mail on, and is under way
pub record IsAfterLog (plan : PlanParts) (rows : FrameRows) (log : List Event) (block : Block)
    : Type 0 where
  pub state : SystemState
  pub mail : Mail
  pub way : IsUnderWay plan state rows mail log
  pub is : block ≡ block_so_far plan state rows mail log

-- no block is open: the machine is at a state from which one may be, and the agenda is empty
pub record IsAtRest {P : Type 0} (clocked : Clocked P) (plan : PlanParts) (state : SystemState)
    (mail : Mail) : Type 0 where
  pub at : IsMachineAt clocked.machine plan state mail
  pub ready : IsReady plan state
  pub none : clocked.agenda.left ≡ []
  pub spare : clocked.agenda.spare ≡ most_events plan.replicas
  pub room : most_events plan.replicas ≤ vec_capacity clocked.taken

-- a block is open with these rows: it is as the log so far leaves it, the agenda has the events
-- that are left, and there is room to take them
pub record IsRunning {P : Type 0} (clocked : Clocked P) (plan : PlanParts) (rows : FrameRows)
    (block : Block) : Type 0 where
  pub shows : ShowsBlock clocked.machine plan rows block
  pub way : IsAfterLog plan rows clocked.taken.items block
  pub left : clocked.agenda.left ≡ block.left
  pub all : clocked.agenda.spare + length clocked.agenda.left ≡ most_events plan.replicas
  pub few : length clocked.taken.items ≤ clocked.agenda.spare
  pub room : most_events plan.replicas ≤ vec_capacity clocked.taken
