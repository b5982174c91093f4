-- What a row changes in the rows of its frame, and what a row of a plan keeps. This project's own.
use Rattle.std.specs.Prelude.{◌≡◌, ◌≢◌, ◌<◌, ℕ, true, List, [], ◌∷◌, length, if◌then◌else◌}
use Rattle.rcp_base.specs.Answers.{natural_of}
use Rattle.rcp_base.specs.declared.TheConstants.{MAX_FRAMES}
use Rattle.rcp_model.specs.declared.plan.PlanParts.{PlanParts}
use Rattle.rcp_model.specs.Plan.{IsPlan}
use Rattle.rcp_model.specs.FrameRows.{FrameRows, AreRowsOf}
use Rattle.rcp_model.specs.RowWrites.{with_sensor, with_down, with_slot, with_skew, with_rate, with_cell, with_act, with_lie_slot, with_drop, with_delay, with_lie}
use Rattle.fault_journal.specs.declared.row.Kind.{Kind}
use Rattle.fault_journal.specs.declared.row.Kind.TheVariants as kind
use Rattle.fault_journal.specs.declared.row.Row.{Row}
use Rattle.fault_journal.specs.Limits.{is_on_a_message, value_is_permitted}

-- the rows of a frame with one row of this kind more
abbrev pub put_by : Kind → FrameRows → Row → FrameRows
put_by kind.Sensor rows row = with_sensor rows row.item row.value
put_by kind.Down rows row = with_down rows row.replica
put_by kind.Cell rows row = with_cell rows row.replica row.item row.value
put_by kind.Slot rows row = with_slot rows row.replica (natural_of row.value)
put_by kind.Act rows row = with_act rows row.replica row.item row.value
put_by kind.Lie rows row = with_lie rows row.replica row.receiver row.item row.value
put_by kind.LieSlot rows row = with_lie_slot rows row.replica row.receiver (natural_of row.value)
put_by kind.Drop rows row = with_drop rows row.replica row.receiver
put_by kind.Skew rows row = with_skew rows row.replica row.value
put_by kind.Rate rows row = with_rate rows row.replica row.value
put_by kind.Delay rows row = with_delay rows row.replica row.receiver row.value
put_by kind.End rows row = rows

-- the rows of a frame with one row more
unfoldable pub put_row : FrameRows → Row → FrameRows
put_row rows row = put_by row.kind rows row

-- the rows of a frame with rows more, one after the other
abbrev pub put_all : FrameRows → List Row → FrameRows
put_all rows [] = rows
put_all rows (row ∷ more) = put_all (put_row rows row) more

-- how many receivers a row of this kind can name: one, where it names none
abbrev pub receiver_count : PlanParts → Kind → ℕ
receiver_count plan kind = if is_on_a_message kind then plan.replicas else 1

-- how many sensors, cells or actuators it can name, by the same rule
abbrev pub item_count : PlanParts → Kind → ℕ
item_count plan kind.Sensor = length plan.sensors
item_count plan kind.Cell = length plan.cells
item_count plan kind.Lie = length plan.cells
item_count plan kind.Act = length plan.actuators
item_count plan _ = 1

-- each number of a row is one that the plan has or permits
pub record IsRowOf (plan : PlanParts) (row : Row) : Type 0 where
  pub frame : row.frame < MAX_FRAMES
  pub replica : row.replica < plan.replicas
  pub receiver : row.receiver < receiver_count plan row.kind
  pub item : row.item < item_count plan row.kind
  pub value : value_is_permitted plan row.kind row.value ≡ true
  pub apart : is_on_a_message row.kind ≡ true → row.replica ≢ row.receiver

-- rows of a plan can be put into these rows of a frame
pub record CanTake (plan : PlanParts) (rows : FrameRows) : Type 0 where
  pub is_plan : IsPlan plan
  pub rows_of_plan : AreRowsOf plan rows
