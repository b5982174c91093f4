-- The rows of each frame of a journal. This project's own.
use Rattle.std.specs.Prelude.{ℕ, ◌*◌, ◌/◌, ◌%◌, ◌==◌, nat_le, Bool, ◌&&◌, ℤ, pos, List, length, find, Option, option_map, unwrap_or, is_some, Ok, slice_index_or, Result}
use Rattle.rcp_base.specs.Tables.{table}
use Rattle.rcp_base.specs.Answers.{◌>>=◌, natural_of}
use Rattle.fault_journal.specs.declared.fault.JournalFault.{JournalFault}
use Rattle.rcp_model.specs.declared.plan.PlanParts.{PlanParts}
use Rattle.rcp_model.specs.Uniprocessor.{initial_values}
use Rattle.rcp_model.specs.FrameRows.{FrameRows}
use Rattle.rcp_model.specs.History.{History}
use Rattle.fault_journal.specs.declared.row.Kind.{Kind}
use Rattle.fault_journal.specs.declared.row.Kind.TheVariants as kind
use Rattle.fault_journal.specs.declared.row.Row.{Row}
use Rattle.fault_journal.specs.Journal.{JournalRows, same_kind, journal_rows}

-- a table of rows and columns, row after row
abbrev pub grid : {X : Type 0} → ℕ → ℕ → (ℕ → ℕ → X) → List X
grid rows columns entry = table (rows * columns) (λ place. entry (place / columns) (place % columns))

-- the row speaks of this in this frame
abbrev pub speaks_of : ℕ → Kind → ℕ → ℕ → ℕ → Row → Bool
speaks_of frame kind replica receiver item row =
    (row.frame == frame) && same_kind row.kind kind
    && (row.replica == replica) && (row.receiver == receiver) && (row.item == item)

-- the value that rows give to this in a frame, if one of them speaks of it; the last row comes first
abbrev pub said : List Row → ℕ → Kind → ℕ → ℕ → ℕ → Option ℤ
said rows frame kind replica receiver item = option_map (λ row. row.value) (find (speaks_of frame kind replica receiver item) rows)

-- the row gives a value to this sensor, in this frame or before
abbrev pub sets_sensor_by : ℕ → ℕ → Row → Bool
sets_sensor_by frame sensor row = nat_le row.frame frame && same_kind row.kind kind.Sensor && (row.item == sensor)

-- the value of a sensor in a frame: that of the last row for it, or the initial one
abbrev pub sensor_value : List Row → ℕ → ℕ → ℤ → ℤ
sensor_value rows frame sensor initial = unwrap_or (option_map (λ row. row.value) (find (sets_sensor_by frame sensor) rows)) initial

-- the rows of a frame
unfoldable pub frame_of : PlanParts → List Row → ℕ → FrameRows
frame_of plan rows frame =
    let replicas = plan.replicas in
    let cells = length plan.cells in
    let actuators = length plan.actuators in
    record {
      replicas = replicas;
      cells = cells;
      actuators = actuators;
      delay_min = plan.timing.delay_min;
      sensors = table (length plan.sensors) (λ sensor. sensor_value rows frame sensor (slice_index_or (initial_values plan.sensors) sensor (pos 0)));
      downs = table replicas (λ replica. is_some (said rows frame kind.Down replica 0 0));
      slots = table replicas (λ replica. option_map natural_of (said rows frame kind.Slot replica 0 0));
      skews = table replicas (λ replica. unwrap_or (said rows frame kind.Skew replica 0 0) (pos 0));
      rates = table replicas (λ replica. unwrap_or (said rows frame kind.Rate replica 0 0) (pos 0));
      cell_values = grid replicas cells (λ replica cell. said rows frame kind.Cell replica 0 cell);
      acts = grid replicas actuators (λ replica actuator. said rows frame kind.Act replica 0 actuator);
      lie_slots = grid replicas replicas (λ sender receiver. option_map natural_of (said rows frame kind.LieSlot sender receiver 0));
      drops = grid replicas replicas (λ sender receiver. is_some (said rows frame kind.Drop sender receiver 0));
      delays = grid replicas replicas (λ sender receiver. unwrap_or (said rows frame kind.Delay sender receiver 0) plan.timing.delay_min);
      lies = grid (replicas * replicas) cells (λ pair cell. said rows frame kind.Lie (pair / replicas) (pair % replicas) cell);
    }

-- the rows of all frames
unfoldable pub history_of : PlanParts → JournalRows → History
history_of plan journal = table journal.frames (frame_of plan journal.rows)

-- the verdict on the bytes of a journal: the rows of all frames, or the first test that it fails
unfoldable pub journal_result : PlanParts → List ℕ → Result History JournalFault
journal_result plan bytes = do
  journal ← journal_rows plan bytes
  Ok (history_of plan journal)
