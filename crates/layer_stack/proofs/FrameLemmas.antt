-- The tables of a quiet frame, and what a table has at a place.
use Rattle.std.proofs.Common.{◌≡◌, ℕ, ◌+◌, ◌*◌, ◌<◌, ◌≤◌, false, ℤ, pos, List, length, get_or, Option, None, replicate, arith, sym, subst}
use Rattle.std.specs.Prelude.{Result, Ok, Err, IfOk}
use Rattle.std.proofs.lemmas.Bool.{lt-ltb}
use Rattle.std.proofs.lemmas.List.{length-replicate, get_or_read}
use Rattle.std.proofs.lemmas.Nat.{mul-add-lt}
use Rattle.rcp_model.specs.declared.plan.PlanParts.{PlanParts}
use Rattle.rcp_model.specs.FrameLimits.{IsFrameOf}
use Rattle.rcp_model.specs.FrameRows.{FrameRows, AreTables, AreRowsOf, lie_row, entry_at, no_rows}
use Rattle.rcp_model.specs.Plan.{IsPlan}
use Rattle.rcp_model.specs.Uniprocessor.{initial_values}
use Rattle.rcp_model.proofs.FrameOfLaws.{first_frame}
use Rattle.rcp_model.specs.RowWrites.{cleared}
use Rattle.layer_stack.specs.declared.frame_in.FrameIn.TheInside.{Inside}
use Rattle.layer_stack.specs.FrameFields.{IsFrame, rows_in}

-- the fields hold no row but the sensors
pub record IsQuiet (frame : Inside) : Type 0 where
  pub downs : frame.downs.items ≡ replicate frame.replicas false
  pub slots : frame.slots.items ≡ replicate frame.replicas None
  pub skews : frame.skews.items ≡ replicate frame.replicas (pos 0)
  pub rates : frame.rates.items ≡ replicate frame.replicas (pos 0)
  pub cell_values : frame.cell_values.items ≡ replicate (frame.replicas * frame.cells) None
  pub acts : frame.acts.items ≡ replicate (frame.replicas * frame.actuators) None
  pub lie_slots : frame.lie_slots.items ≡ replicate (frame.replicas * frame.replicas) None
  pub drops : frame.drops.items ≡ replicate (frame.replicas * frame.replicas) false
  pub delays : frame.delays.items ≡ replicate (frame.replicas * frame.replicas) frame.delay_min
  pub lies : frame.lies.items ≡ replicate (frame.replicas * frame.replicas * frame.cells) None

-- the tables of a frame without a row but the sensors have their sizes
cleared_tables : (rows : FrameRows) → AreTables (cleared rows)
unfolding cleared
cleared_tables rows = record {
  downs = length-replicate _ _;
  slots = length-replicate _ _;
  skews = length-replicate _ _;
  rates = length-replicate _ _;
  cell_values = length-replicate _ _;
  acts = length-replicate _ _;
  lie_slots = length-replicate _ _;
  drops = length-replicate _ _;
  delays = length-replicate _ _;
  lies = length-replicate _ _;
}

-- such fields are a frame
pub quiet_is_frame : (frame : Inside) → IsQuiet frame → frame.replicas ≤ 9 → frame.cells ≤ 64 → frame.actuators ≤ 32 → IsFrame frame
unfolding cleared
quiet_is_frame frame quiet replicas cells actuators =
    let same : rows_in frame ≡ cleared (rows_in frame) = cc in
    record {
      tables = subst AreTables (sym same) (cleared_tables (rows_in frame));
      few_replicas = replicas;
      few_cells = cells;
      few_actuators = actuators;
      quiet = λ _. same;
    }

-- other sensors change no table
pub tables_beside : (rows : FrameRows) (sensors : List ℤ) → AreTables rows → AreTables (record rows { sensors = sensors })
tables_beside rows sensors tables = record {
  downs = tables.downs;
  slots = tables.slots;
  skews = tables.skews;
  rates = tables.rates;
  cell_values = tables.cell_values;
  acts = tables.acts;
  lie_slots = tables.lie_slots;
  drops = tables.drops;
  delays = tables.delays;
  lies = tables.lies;
}

-- the entry of the table by sender, receiver and cell
pub lie_is : (rows : FrameRows) (sender receiver cell : ℕ) (x : Option ℤ) → AreTables rows
    → sender < rows.replicas → receiver < rows.replicas → cell < rows.cells
    → x ≡ get_or rows.lies ((sender * rows.replicas + receiver) * rows.cells + cell) x → x ≡ lie_row rows sender receiver cell
unfolding lie_row entry_at
lie_is rows sender receiver cell x tables s r c read =
    let pair : sender * rows.replicas + receiver < rows.replicas * rows.replicas = mul-add-lt sender rows.replicas receiver rows.replicas s r in
    let place : (sender * rows.replicas + receiver) * rows.cells + cell < length rows.lies =
    omega (arith, tables.lies, mul-add-lt (sender * rows.replicas + receiver) rows.cells cell (rows.replicas * rows.replicas) pair c) in
    rw (lt-ltb receiver rows.replicas r, lt-ltb cell rows.cells c) (get_or_read rows.lies _ x place read None)

-- two facts of what was made give a third
pub both_ok : {X E : Type 0} (P Q R : X → Type 0) → ((x : X) → P x → Q x → R x) → (r : Result X E) → IfOk r P → IfOk r Q → IfOk r R
both_ok P Q R give (Ok x) p q = give x p q
both_ok P Q R give (Err e) p q = tt

-- the rows of the first frame are a frame of the plan
pub first_of_plan : {E : Type 0} (plan : PlanParts) → IsPlan plan → (r : Result FrameRows E)
    → IfOk r (λ frame. frame ≡ no_rows plan (initial_values plan.sensors)) → IfOk r (AreRowsOf plan) → IfOk r (IsFrameOf plan)
first_of_plan plan is r =
    both_ok (λ frame. frame ≡ no_rows plan (initial_values plan.sensors)) (AreRowsOf plan) (IsFrameOf plan)
    (λ frame same are. rw same (first_frame plan is (rw same at are))) r
