-- The journal that a number gives: rows for sensors, and where there are three replicas or more
-- a fault in one frame of each period. This project's own.
use Rattle.std.specs.Prelude.{ℕ, zero, suc, ◌+◌, ◌*◌, ◌/◌, ◌%◌, ◌^◌, ◌==◌, nat_le, nat_lt, Bool, ◌&&◌, pos, ◌-ℤ◌, List, [], ◌∷◌, ◌++◌, length, codes, flat_map, if◌then◌else◌}
use Rattle.rcp_model.specs.declared.plan.PlanParts.{PlanParts}
use Rattle.rcp_model.specs.Slot.{slot_count}
use Rattle.fault_journal.specs.declared.row.Kind.{Kind}
use Rattle.fault_journal.specs.declared.row.Kind.TheVariants as kind
use Rattle.fault_journal.specs.declared.row.Row.{Row}
use Rattle.journal_gen.specs.declared.fault.Fault.{Fault}
use Rattle.journal_gen.specs.declared.fault.Fault.TheVariants as fault
use Rattle.journal_gen.specs.Draws.{drawn, next_seed}
use Rattle.journal_gen.specs.Written.{row_text}

-- how many frames pass from one fault to the next
abbrev pub period : ℕ → ℕ
period recovery = 2 * (recovery + 1)

-- a fault comes in this frame: with three replicas or more, in one frame of each period
unfoldable pub has_fault : PlanParts → ℕ → ℕ → Bool
has_fault plan recovery frame = nat_le 3 plan.replicas && (frame % period recovery == recovery)

-- the seed after the draw for a fault, where one comes
unfoldable pub seed_after_fault : PlanParts → ℕ → ℕ → ℕ → ℕ
seed_after_fault plan recovery frame seed =
    if has_fault plan recovery frame then next_seed seed else seed

-- the seed after the draws of a frame: one for a sensor, and one for a fault
abbrev pub seed_after : PlanParts → ℕ → ℕ → ℕ → ℕ
seed_after plan recovery frame seed = seed_after_fault plan recovery frame (next_seed seed)

-- the seed before the draws of a frame
abbrev pub seed_before : PlanParts → ℕ → ℕ → ℕ → ℕ
seed_before plan recovery number zero = number % 2 ^ 31
seed_before plan recovery number (suc frame) =
    seed_after plan recovery frame (seed_before plan recovery number frame)

-- a row of this kind, without more
abbrev pub bare : ℕ → Kind → Row
bare frame kind =
    record { frame = frame; kind = kind; replica = 0; receiver = 0; item = 0; value = pos 0 }

-- a sensor row comes: there are sensors, and frame and draw are even
unfoldable pub has_sensor_row : PlanParts → ℕ → ℕ → Bool
has_sensor_row plan frame draw =
    nat_lt 0 (length plan.sensors) && (frame % 2 == 0) && (draw % 2 == 0)

-- the sensor row that a draw gives
unfoldable pub sensor_row : PlanParts → ℕ → ℕ → Row
sensor_row plan frame draw = record (bare frame kind.Sensor) {
  item = draw / 2 % length plan.sensors;
  value = pos (draw / 128 % 201) -ℤ pos 100;
}

-- the replica that a draw names
abbrev pub replica_of : PlanParts → ℕ → ℕ
replica_of plan draw = draw % plan.replicas

-- the fault that a draw gives
unfoldable pub fault_of : PlanParts → ℕ → Fault
fault_of plan draw =
    let choice = draw / 16 % 4 in
    if choice == 0 then fault.Down
    else if choice == 1 then fault.Cell (draw / 64 % length plan.cells) (pos draw -ℤ pos 16_384)
    else if choice == 2 then fault.Slot (draw / 64 % slot_count plan)
    else fault.Drop ((replica_of plan draw + 1) % plan.replicas)

-- the row of a fault of a replica
unfoldable pub row_of_fault : ℕ → ℕ → Fault → Row
row_of_fault frame replica fault.Down = record (bare frame kind.Down) { replica = replica }
row_of_fault frame replica (fault.Cell cell value) =
    record (bare frame kind.Cell) { replica = replica; item = cell; value = value }
row_of_fault frame replica (fault.Slot slot) =
    record (bare frame kind.Slot) { replica = replica; value = pos slot }
row_of_fault frame replica (fault.Drop receiver) =
    record (bare frame kind.Drop) { replica = replica; receiver = receiver }

-- the fault row that a draw gives
unfoldable pub fault_row : PlanParts → ℕ → ℕ → Row
fault_row plan frame draw = row_of_fault frame (replica_of plan draw) (fault_of plan draw)

-- the sensor row of a frame, where one comes
unfoldable pub sensor_rows : PlanParts → ℕ → ℕ → List Row
sensor_rows plan frame draw =
    if has_sensor_row plan frame draw then sensor_row plan frame draw ∷ [] else []

-- its fault row, where one comes
unfoldable pub fault_rows : PlanParts → ℕ → ℕ → ℕ → List Row
fault_rows plan recovery frame draw =
    if has_fault plan recovery frame then fault_row plan frame draw ∷ [] else []

-- the rows of a frame, from the seed before it: a draw for a sensor, and then one for a fault
unfoldable pub rows_of_frame : PlanParts → ℕ → ℕ → ℕ → List Row
rows_of_frame plan recovery frame seed =
    let first = next_seed seed in
    sensor_rows plan frame (drawn first)
    ++ fault_rows plan recovery frame (drawn (next_seed first))

-- the rows of the first so many frames
abbrev pub rows_before : PlanParts → ℕ → ℕ → ℕ → List Row
rows_before plan recovery number zero = []
rows_before plan recovery number (suc frame) =
    rows_before plan recovery number frame
    ++ rows_of_frame plan recovery frame (seed_before plan recovery number frame)

-- rows of a plan, one after the other
abbrev pub rows_text : PlanParts → List Row → List ℕ
rows_text plan rows = flat_map (row_text plan) rows

-- the text: the header, the rows of all frames, and the end row
unfoldable pub journal_text : PlanParts → ℕ → ℕ → ℕ → List ℕ
journal_text plan recovery number frames =
    codes "frame,kind,a,b,c,d\n"
    ++ rows_text plan (rows_before plan recovery number frames)
    ++ row_text plan (bare frames kind.End)
