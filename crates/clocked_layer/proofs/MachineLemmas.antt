-- What a replica says, and what a machine tells of a replica.
use Rattle.std.proofs.Common.{◌≡◌, ℕ, ◌<◌, [], pos, length, slice_index_or, sym, subst, arith}
use Rattle.clocked_layer.specs.Block.{Block}
use Rattle.clocked_layer.specs.Machine.{IsMachineAt, ShowsBlock}
use Rattle.clocked_layer.specs.Stepped.{Mail}
use Rattle.clocked_layer.specs.declared.machine.Machine.{Machine}
use Rattle.phase_machine.specs.Laws.{RestingReplicasWait}
use Rattle.phase_machine.specs.Phase.{RestsPhase, ShowsSeat}
use Rattle.phase_machine.specs.Phases.{part_of}
use Rattle.phase_machine.specs.Seats.{Seat, own_now, waiting_seat}
use Rattle.phase_machine.specs.declared.phase.Phase.{Phase}
use Rattle.phase_machine.specs.declared.phase.Phase.TheVariants.{Moving}
use Rattle.rcp_base.proofs.TableLaws.{length-table}
use Rattle.rcp_model.specs.FrameRows.{FrameRows}
use Rattle.rcp_model.specs.Messages.{own_message}
use Rattle.rcp_model.specs.System.{SystemState}
use Rattle.rcp_model.specs.declared.plan.PlanParts.{PlanParts}

-- an own message has a place for the value of each cell
pub own_cells : (plan : PlanParts) (seat : Seat)
    → length (own_now plan seat).values ≡ length plan.cells
unfolding own_message
own_cells plan seat = length-table (length plan.cells) _

-- rows that are never read
abbrev pub unread_rows : FrameRows
unread_rows = record {
  replicas = 0;
  cells = 0;
  actuators = 0;
  delay_min = pos 0;
  sensors = [];
  downs = [];
  slots = [];
  skews = [];
  rates = [];
  cell_values = [];
  acts = [];
  lie_slots = [];
  drops = [];
  delays = [];
  lies = [];
}

module _ (machine : Machine) (plan : PlanParts) (replica : ℕ) (phase : Phase)
    (is : phase ≡ slice_index_or machine.phases.items replica Moving) where
  -- a replica of a machine that rests
  pub rests_there : (state : SystemState) (mail : Mail) → IsMachineAt machine plan state mail
      → replica < plan.replicas
      → RestsPhase plan replica phase (part_of state replica (mail replica))
  rests_there state mail at below =
      subst (λ (p : Phase). RestsPhase plan replica p (part_of state replica (mail replica)))
      (sym is) (at.phases replica (omega (arith, below, at.of_plan.phases)))

  -- and in a block
  pub shows_there : (rows : FrameRows) (block : Block) → ShowsBlock machine plan rows block
      → replica < plan.replicas → ShowsSeat plan rows replica phase (block.seats replica)
  shows_there rows block shows below =
      subst (λ (p : Phase). ShowsSeat plan rows replica p (block.seats replica)) (sym is)
      (shows.seats replica (omega (arith, below, shows.of_plan.phases)))

  -- one that rests waits, whatever the rows
  pub waits_there : RestingReplicasWait → (state : SystemState) (mail : Mail)
      → IsMachineAt machine plan state mail → replica < plan.replicas
      → ShowsSeat plan unread_rows replica phase (waiting_seat state replica (mail replica))
  waits_there wait state mail at below =
      subst
      (λ (p : Phase).
      ShowsSeat plan unread_rows replica p (waiting_seat state replica (mail replica)))
      (sym is)
      (wait plan unread_rows machine.phases.items state mail at.phases replica
      (omega (arith, below, at.of_plan.phases)))
