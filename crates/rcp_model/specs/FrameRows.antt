-- The rows of one frame: the sensor values, and what a journal says of replicas, messages and clocks.
-- After NASA TM-104196; the kinds of rows are this project's own.
use Rattle.std.specs.Prelude.{ℕ, ◌≡◌, ◌+◌, ◌*◌, nat_lt, Bool, false, ℤ, pos, List, length, replicate, slice_index_or, Option, None, if◌then◌else◌}
use Rattle.rcp_model.specs.declared.plan.PlanParts.{PlanParts}

-- tables whose sizes are the numbers of replicas, cells and actuators, each in one list, row after row
pub record FrameRows : Type 0 where
  pub replicas : ℕ
  pub cells : ℕ
  pub actuators : ℕ
  -- the delay of a message of which no row speaks
  pub delay_min : ℤ
  pub sensors : List ℤ
  -- by replica
  pub downs : List Bool
  pub slots : List (Option ℕ)
  pub skews : List ℤ
  pub rates : List ℤ
  -- by replica and cell, and by replica and actuator
  pub cell_values : List (Option ℤ)
  pub acts : List (Option ℤ)
  -- by sender and receiver
  pub lie_slots : List (Option ℕ)
  pub drops : List Bool
  pub delays : List ℤ
  -- by sender, receiver and cell
  pub lies : List (Option ℤ)

-- the entry at a row and a column of a table with so many columns, or this value where there is none
unfoldable pub entry_at : {X : Type 0} → ℕ → List X → ℕ → ℕ → X → X
entry_at columns table row column none = if nat_lt column columns then slice_index_or table (row * columns + column) none else none

-- whether a row takes the replica down
unfoldable pub is_down : FrameRows → ℕ → Bool
is_down rows replica = slice_index_or rows.downs replica false

-- the slot that a row gives to the replica at the end of the frame
unfoldable pub slot_row : FrameRows → ℕ → Option ℕ
slot_row rows replica = slice_index_or rows.slots replica None

-- the value that a row gives to a cell of the replica at the end of the frame
unfoldable pub cell_row : FrameRows → ℕ → ℕ → Option ℤ
cell_row rows replica cell = entry_at rows.cells rows.cell_values replica cell None

-- the command that a row gives to the replica for an actuator
unfoldable pub act_row : FrameRows → ℕ → ℕ → Option ℤ
act_row rows replica actuator = entry_at rows.actuators rows.acts replica actuator None

-- the value that a row sets in a message for one receiver
unfoldable pub lie_row : FrameRows → ℕ → ℕ → ℕ → Option ℤ
lie_row rows sender receiver cell =
    if nat_lt receiver rows.replicas then entry_at rows.cells rows.lies (sender * rows.replicas + receiver) cell None else None

-- the slot that a row sets in it
unfoldable pub lie_slot_row : FrameRows → ℕ → ℕ → Option ℕ
lie_slot_row rows sender receiver = entry_at rows.replicas rows.lie_slots sender receiver None

-- whether a row takes it away
unfoldable pub is_dropped : FrameRows → ℕ → ℕ → Bool
is_dropped rows sender receiver = entry_at rows.replicas rows.drops sender receiver false

-- how late the replica's clock is, in ticks
unfoldable pub skew_of : FrameRows → ℕ → ℤ
skew_of rows replica = slice_index_or rows.skews replica (pos 0)

-- by how much its ticks are longer, in parts per million
unfoldable pub rate_of : FrameRows → ℕ → ℤ
rate_of rows replica = slice_index_or rows.rates replica (pos 0)

-- how long a message takes, in ticks
unfoldable pub delay_of : FrameRows → ℕ → ℕ → ℤ
delay_of rows sender receiver = entry_at rows.replicas rows.delays sender receiver rows.delay_min

-- a frame with these sizes, this delay and these sensor values, and no other row
abbrev pub quiet_rows : ℕ → ℕ → ℕ → ℤ → List ℤ → FrameRows
quiet_rows replicas cells actuators delay_min sensors = record {
  replicas = replicas;
  cells = cells;
  actuators = actuators;
  delay_min = delay_min;
  sensors = sensors;
  downs = replicate replicas false;
  slots = replicate replicas None;
  skews = replicate replicas (pos 0);
  rates = replicate replicas (pos 0);
  cell_values = replicate (replicas * cells) None;
  acts = replicate (replicas * actuators) None;
  lie_slots = replicate (replicas * replicas) None;
  drops = replicate (replicas * replicas) false;
  delays = replicate (replicas * replicas) delay_min;
  lies = replicate (replicas * replicas * cells) None;
}

-- a frame of the plan with these sensor values and no other row
unfoldable pub no_rows : PlanParts → List ℤ → FrameRows
no_rows plan sensors = quiet_rows plan.replicas (length plan.cells) (length plan.actuators) plan.timing.delay_min sensors

-- each table has as many entries as its sizes say
pub record AreTables (rows : FrameRows) : Type 0 where
  pub downs : length rows.downs ≡ rows.replicas
  pub slots : length rows.slots ≡ rows.replicas
  pub skews : length rows.skews ≡ rows.replicas
  pub rates : length rows.rates ≡ rows.replicas
  pub cell_values : length rows.cell_values ≡ rows.replicas * rows.cells
  pub acts : length rows.acts ≡ rows.replicas * rows.actuators
  pub lie_slots : length rows.lie_slots ≡ rows.replicas * rows.replicas
  pub drops : length rows.drops ≡ rows.replicas * rows.replicas
  pub delays : length rows.delays ≡ rows.replicas * rows.replicas
  pub lies : length rows.lies ≡ rows.replicas * rows.replicas * rows.cells

-- rows of a frame of the plan
pub record AreRowsOf (plan : PlanParts) (rows : FrameRows) : Type 0 where
  pub replicas : rows.replicas ≡ plan.replicas
  pub cells : rows.cells ≡ length plan.cells
  pub actuators : rows.actuators ≡ length plan.actuators
  pub delay_min : rows.delay_min ≡ plan.timing.delay_min
  pub sensors : length rows.sensors ≡ length plan.sensors
  pub tables : AreTables rows
