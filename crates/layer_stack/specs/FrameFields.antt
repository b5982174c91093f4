-- What the fields of a frame's rows say together. This project's own.
use Rattle.std.specs.Prelude.{◌≡◌, ◌≤◌, false}
use Rattle.rcp_model.specs.FrameRows.{FrameRows, AreTables}
use Rattle.rcp_model.specs.RowWrites.{cleared}
use Rattle.layer_stack.specs.declared.frame_in.FrameIn.TheInside.{Inside}

-- the rows that the fields hold
abbrev pub rows_in : Inside → FrameRows
rows_in frame = record {
  replicas = frame.replicas;
  cells = frame.cells;
  actuators = frame.actuators;
  delay_min = frame.delay_min;
  sensors = frame.sensors.items;
  downs = frame.downs.items;
  slots = frame.slots.items;
  skews = frame.skews.items;
  rates = frame.rates.items;
  cell_values = frame.cell_values.items;
  acts = frame.acts.items;
  lie_slots = frame.lie_slots.items;
  drops = frame.drops.items;
  delays = frame.delays.items;
  lies = frame.lies.items;
}

-- tables of a plan's sizes, without a row but the sensors while none was written
pub record IsFrame (frame : Inside) : Type 0 where
  pub tables : AreTables (rows_in frame)
  pub few_replicas : frame.replicas ≤ 9
  pub few_cells : frame.cells ≤ 64
  pub few_actuators : frame.actuators ≤ 32
  pub quiet : frame.written ≡ false → rows_in frame ≡ cleared (rows_in frame)
