-- Rows of other frames, and the frame that follows.
use Rattle.std.proofs.Common.{◌≡◌, ◌≢◌, ℕ, suc, ◌*◌, ◌<◌, ◌≤◌, List, [], ◌∷◌, ◌++◌, length, Option, None, option_map, unwrap_or, slice_index_or, ℤ, pos, All, sym, refl, ap, ap₂, ◌∙◌, arith, ne_eqb, le-leb, find, false}
use Rattle.std.proofs.Math.Path.{fun_ext}
use Rattle.std.proofs.lemmas.Bool.{lt-leb}
use Rattle.std.proofs.lemmas.List.Elements.{All-head, All-tail, All-nil, All-weaker}
use Rattle.std.proofs.lemmas.List.{length-map}
use Rattle.rcp_base.specs.Tables.{table}
use Rattle.rcp_base.proofs.TableLaws.{table_same}
use Rattle.rcp_model.specs.declared.plan.Variable.{Variable}
use Rattle.rcp_model.specs.declared.plan.PlanParts.{PlanParts}
use Rattle.rcp_model.specs.Uniprocessor.{initial_values}
use Rattle.rcp_model.specs.FrameRows.{no_rows}
use Rattle.rcp_model.specs.RowWrites.{cleared}
use Rattle.fault_journal.specs.declared.row.Row.{Row}
use Rattle.fault_journal.specs.History.{said, sets_sensor_by, frame_of}
use Rattle.fault_journal.proofs.GridLemmas.{table_constant}
use Rattle.fault_journal.proofs.SaidLemmas.{Said, built, sensors_in, frame_of-built}

-- nothing is said
abbrev nothing : Said
nothing kind replica receiver item = None

-- a row of another frame says nothing in this one
said_other : (row : Row) (rows : List Row) (frame : ℕ) → row.frame ≢ frame → said (row ∷ rows) frame ≡ said rows frame
said_other row rows frame other =
    let no = ne_eqb row.frame frame other in
    fun_ext (λ kind. fun_ext (λ replica. fun_ext (λ receiver. fun_ext (λ item. rw no refl))))

-- nor do rows of earlier frames
said_none : (rows : List Row) (frame : ℕ) → All (λ row. row.frame < frame) rows → said rows frame ≡ nothing
said_none [] frame before = refl
said_none (row ∷ rows) frame before =
    let first : row.frame < frame = All-head (λ (r : Row). r.frame < frame) row rows before in
    said_other row rows frame (omega arith) ∙ said_none rows frame (All-tail (λ (r : Row). r.frame < frame) row rows before)

-- the sensors in a frame before that of the last row
sensors_before : (plan : PlanParts) (row : Row) (rows : List Row) (frame : ℕ) → frame < row.frame → sensors_in plan (row ∷ rows) frame ≡ sensors_in plan rows frame
sensors_before plan row rows frame later = rw (lt-leb row.frame frame later) refl

-- the last row for a sensor stays so in the next frame
found_next : (rows : List Row) (frame sensor : ℕ) → All (λ row. row.frame ≤ frame) rows
    → find (sets_sensor_by (suc frame) sensor) rows ≡ find (sets_sensor_by frame sensor) rows
found_next [] frame sensor upto = refl
found_next (row ∷ rows) frame sensor upto =
    let first : row.frame ≤ frame = All-head (λ (r : Row). r.frame ≤ frame) row rows upto in
    let rest = found_next rows frame sensor (All-tail (λ (r : Row). r.frame ≤ frame) row rows upto) in
    rw (le-leb row.frame (suc frame) (omega arith), le-leb row.frame frame first, rest) refl

-- so the sensors stay
pub sensors_next : (plan : PlanParts) (rows : List Row) (frame : ℕ) → All (λ row. row.frame ≤ frame) rows
    → sensors_in plan rows (suc frame) ≡ sensors_in plan rows frame
sensors_next plan rows frame upto =
    ap (λ (f : ℕ → ℤ). table (length plan.sensors) f)
    (fun_ext (λ sensor. ap (λ (o : Option Row). unwrap_or (option_map (λ (row : Row). row.value) o) (slice_index_or (initial_values plan.sensors) sensor (pos 0)))
    (found_next rows frame sensor upto)))

-- a frame in which nothing is said
built_of_nothing : (plan : PlanParts) (sensors : List ℤ) → built plan nothing sensors ≡ no_rows plan sensors
unfolding no_rows
built_of_nothing plan sensors =
    let replicas = plan.replicas in
    let cells = length plan.cells in
    rw (
      table_constant replicas false,
      table_constant {X = Option ℕ} replicas None,
      table_constant replicas (pos 0),
      table_constant {X = Option ℤ} (replicas * cells) None,
      table_constant {X = Option ℤ} (replicas * length plan.actuators) None,
      table_constant {X = Option ℕ} (replicas * replicas) None,
      table_constant (replicas * replicas) false,
      table_constant (replicas * replicas) plan.timing.delay_min,
      table_constant {X = Option ℤ} (replicas * replicas * cells) None,
    )
    refl

-- a frame whose rows so far are those of earlier frames
pub frame_begins : (plan : PlanParts) (rows : List Row) (frame : ℕ) → All (λ row. row.frame < frame) rows
    → frame_of plan rows frame ≡ no_rows plan (sensors_in plan rows frame)
frame_begins plan rows frame before =
    frame_of-built plan rows frame
    ∙ ap (λ (says : Said). built plan says (sensors_in plan rows frame)) (said_none rows frame before)
    ∙ built_of_nothing plan (sensors_in plan rows frame)

-- the sensors before each row
pub sensors_first : (plan : PlanParts) → sensors_in plan [] 0 ≡ initial_values plan.sensors
sensors_first plan =
    let initial = initial_values plan.sensors in
    ap (λ (n : ℕ). table n (λ i. slice_index_or initial i (pos 0))) (sym (length-map plan.sensors (λ (v : Variable). v.initial)))
    ∙ table_same initial (pos 0)

-- the first frame without a row
pub first_frame : (plan : PlanParts) → frame_of plan [] 0 ≡ no_rows plan (initial_values plan.sensors)
first_frame plan =
    frame_begins plan [] 0 (All-nil (λ (r : Row). r.frame < 0))
    ∙ ap (no_rows plan) (sensors_first plan)

-- the next frame, where there is no row of it yet
pub next_frame : (plan : PlanParts) (rows : List Row) (frame : ℕ) → All (λ row. row.frame ≤ frame) rows
    → frame_of plan rows (suc frame) ≡ cleared (frame_of plan rows frame)
unfolding cleared no_rows
next_frame plan rows frame upto =
    frame_begins plan rows (suc frame) (All-weaker (λ (r : Row). r.frame ≤ frame) (λ (r : Row). r.frame < suc frame) (λ r le. omega arith) rows upto)
    ∙ ap (no_rows plan) (sensors_next plan rows frame upto)
    ∙ sym (ap cleared (frame_of-built plan rows frame))

-- a row of a later frame leaves the frame as it is
pub later_row : (plan : PlanParts) (row : Row) (rows : List Row) (frame : ℕ) → frame < row.frame → frame_of plan (row ∷ rows) frame ≡ frame_of plan rows frame
later_row plan row rows frame later =
    frame_of-built plan (row ∷ rows) frame
    ∙ ap₂ (built plan) (said_other row rows frame (omega arith)) (sensors_before plan row rows frame later)
    ∙ sym (frame_of-built plan rows frame)

-- and so do many
pub later_rows : (plan : PlanParts) (more rows : List Row) (frame : ℕ) → All (λ row. frame < row.frame) more
    → frame_of plan (more ++ rows) frame ≡ frame_of plan rows frame
later_rows plan [] rows frame later = refl
later_rows plan (row ∷ more) rows frame later =
    later_row plan row (more ++ rows) frame (All-head (λ (r : Row). frame < r.frame) row more later)
    ∙ later_rows plan more rows frame (All-tail (λ (r : Row). frame < r.frame) row more later)
