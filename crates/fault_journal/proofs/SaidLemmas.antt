-- One row more in a frame.
use Rattle.std.proofs.Common.{◌≡◌, ℕ, ◌+◌, ◌*◌, ◌/◌, ◌%◌, ◌<◌, List, ◌∷◌, length, set, find, Option, Some, option_map, unwrap_or, is_some, slice_index_or, ℤ, pos, Bool, true, false, cond, if◌then◌else◌, ◌&&◌, ◌==◌, sym, refl, ap, ap₂, ◌∙◌, arith, eq-eqb, ne_eqb, le-leb, subst, div-add-mod'}
use Rattle.std.proofs.Math.Path.{fun_ext}
use Rattle.std.proofs.lemmas.Bool.{false_from_ne_true}
use Rattle.std.proofs.lemmas.Bool.Decides.{nat_tests}
use Rattle.std.proofs.lemmas.Nat.{div-mul-add, mod-mul-add, mul-add-lt}
use Rattle.rcp_base.specs.Tables.{table}
use Rattle.rcp_base.specs.Answers.{natural_of}
use Rattle.rcp_model.specs.declared.plan.PlanParts.{PlanParts}
use Rattle.rcp_model.specs.Uniprocessor.{initial_values}
use Rattle.rcp_model.specs.FrameRows.{FrameRows}
use Rattle.rcp_model.specs.RowWrites.{with_sensor, with_down, with_slot, with_skew, with_rate, with_cell, with_act, with_lie_slot, with_drop, with_delay, with_lie}
use Rattle.fault_journal.specs.declared.row.Kind.{Kind}
use Rattle.fault_journal.specs.declared.row.Kind.TheVariants as kind
use Rattle.fault_journal.specs.declared.row.Row.{Row}
use Rattle.fault_journal.specs.Journal.{same_kind}
use Rattle.fault_journal.specs.History.{grid, said, speaks_of, sensor_value, sets_sensor_by, frame_of}
use Rattle.fault_journal.specs.Filling.{put_row, IsRowOf}
use Rattle.fault_journal.proofs.GridLemmas.{table_set, grid_set}

-- what rows say in a frame, by kind, replica, receiver and item
abbrev pub Said : Type 0
Said = Kind → ℕ → ℕ → ℕ → Option ℤ

-- the values of the sensors in a frame
abbrev pub sensors_in : PlanParts → List Row → ℕ → List ℤ
sensors_in plan rows frame = table (length plan.sensors) (λ sensor. sensor_value rows frame sensor (slice_index_or (initial_values plan.sensors) sensor (pos 0)))

-- the rows of a frame by what is said in it, and its sensors
abbrev pub built : PlanParts → Said → List ℤ → FrameRows
built plan says sensors =
    let replicas = plan.replicas in
    let cells = length plan.cells in
    let actuators = length plan.actuators in
    record {
      replicas = replicas;
      cells = cells;
      actuators = actuators;
      delay_min = plan.timing.delay_min;
      sensors = sensors;
      downs = table replicas (λ replica. is_some (says kind.Down replica 0 0));
      slots = table replicas (λ replica. option_map natural_of (says kind.Slot replica 0 0));
      skews = table replicas (λ replica. unwrap_or (says kind.Skew replica 0 0) (pos 0));
      rates = table replicas (λ replica. unwrap_or (says kind.Rate replica 0 0) (pos 0));
      cell_values = grid replicas cells (λ replica cell. says kind.Cell replica 0 cell);
      acts = grid replicas actuators (λ replica actuator. says kind.Act replica 0 actuator);
      lie_slots = grid replicas replicas (λ sender receiver. option_map natural_of (says kind.LieSlot sender receiver 0));
      drops = grid replicas replicas (λ sender receiver. is_some (says kind.Drop sender receiver 0));
      delays = grid replicas replicas (λ sender receiver. unwrap_or (says kind.Delay sender receiver 0) plan.timing.delay_min);
      lies = grid (replicas * replicas) cells (λ pair cell. says kind.Lie (pair / replicas) (pair % replicas) cell);
    }

pub frame_of-built : (plan : PlanParts) (rows : List Row) (frame : ℕ) → frame_of plan rows frame ≡ built plan (said rows frame) (sensors_in plan rows frame)
unfolding frame_of
frame_of-built plan rows frame = refl

-- the row speaks of this
abbrev is_about : Row → Kind → ℕ → ℕ → ℕ → Bool
is_about row kind replica receiver item = same_kind row.kind kind && (row.replica == replica) && (row.receiver == receiver) && (row.item == item)

-- what is said with one row more
abbrev said_by : Row → Said → Said
said_by row says kind replica receiver item = if is_about row kind replica receiver item then Some row.value else says kind replica receiver item

-- the sensors with one row more
abbrev sensors_by : Row → List ℤ → List ℤ
sensors_by row sensors = if same_kind row.kind kind.Sensor then set sensors row.item row.value else sensors

map_cond : (test : Bool) (row : Row) (rest : Option Row)
    → option_map (λ (r : Row). r.value) (cond test (Some row) rest) ≡ (if test then Some row.value else option_map (λ (r : Row). r.value) rest)
map_cond true row rest = refl
map_cond false row rest = refl

said_more : (row : Row) (rows : List Row) → said (row ∷ rows) row.frame ≡ said_by row (said rows row.frame)
said_more row rows =
    let now = eq-eqb row.frame row.frame refl in
    fun_ext (λ kind. fun_ext (λ replica. fun_ext (λ receiver. fun_ext (λ item.
    rw now (map_cond (is_about row kind replica receiver item) row (find (speaks_of row.frame kind replica receiver item) rows))))))

-- the numbers of a row are these
abbrev is_at : ℕ → ℕ → ℕ → ℕ → ℕ → ℕ → Bool
is_at replica receiver item p q i = (replica == p) && (receiver == q) && (item == i)

is_at-here : (replica receiver item p q i : ℕ) → p ≡ replica → q ≡ receiver → i ≡ item → is_at replica receiver item p q i ≡ true
is_at-here replica receiver item p q i same_replica same_receiver same_item =
    rw (eq-eqb replica p (sym same_replica), eq-eqb receiver q (sym same_receiver), eq-eqb item i (sym same_item)) refl

is_at-elsewhere : (replica receiver item p q i : ℕ) → (¬ ((p ≡ replica) × (q ≡ receiver) × (i ≡ item))) → is_at replica receiver item p q i ≡ false
is_at-elsewhere replica receiver item p q i not = false_from_ne_true _ (λ yes. not (grind (arith, nat_tests)))

-- an entry of a table by replica
by_replica : {X : Type 0} (post : Option ℤ → X) (n : ℕ) (f : ℕ → Option ℤ) (replica receiver item : ℕ) (value : ℤ)
    → replica < n → receiver ≡ 0 → item ≡ 0
    → table n (λ r. post (if is_at replica receiver item r 0 0 then Some value else f r)) ≡ set (table n (λ r. post (f r))) replica (post (Some value))
by_replica post n f replica receiver item value below no_receiver no_item =
    table_set n (λ r. post (if is_at replica receiver item r 0 0 then Some value else f r)) (λ r. post (f r)) replica (post (Some value)) below
    (ap (λ (b : Bool). post (if b then Some value else f replica)) (is_at-here replica receiver item replica 0 0 refl (sym no_receiver) (sym no_item)))
    (λ r not. ap (λ (b : Bool). post (if b then Some value else f r)) (is_at-elsewhere replica receiver item r 0 0 (λ both. not both.0)))

-- an entry of a grid by replica and item
by_item : (n m : ℕ) (f : ℕ → ℕ → Option ℤ) (replica receiver item : ℕ) (value : ℤ)
    → replica < n → receiver ≡ 0 → item < m
    → grid n m (λ r i. if is_at replica receiver item r 0 i then Some value else f r i) ≡ set (grid n m f) (replica * m + item) (Some value)
by_item n m f replica receiver item value below no_receiver column =
    grid_set n m (λ r i. if is_at replica receiver item r 0 i then Some value else f r i) f replica item (Some value) below column
    (ap (λ (b : Bool). if b then Some value else f replica item) (is_at-here replica receiver item replica 0 item refl (sym no_receiver) refl))
    (λ r i not. ap (λ (b : Bool). if b then Some value else f r i) (is_at-elsewhere replica receiver item r 0 i (λ all. not (all.0, all.2))))

-- an entry of a grid by sender and receiver
by_pair : {X : Type 0} (post : Option ℤ → X) (n : ℕ) (f : ℕ → ℕ → Option ℤ) (replica receiver item : ℕ) (value : ℤ)
    → replica < n → receiver < n → item ≡ 0
    → grid n n (λ p q. post (if is_at replica receiver item p q 0 then Some value else f p q))
    ≡ set (grid n n (λ p q. post (f p q))) (replica * n + receiver) (post (Some value))
by_pair post n f replica receiver item value below column no_item =
    grid_set n n (λ p q. post (if is_at replica receiver item p q 0 then Some value else f p q)) (λ p q. post (f p q)) replica receiver (post (Some value)) below column
    (ap (λ (b : Bool). post (if b then Some value else f replica receiver)) (is_at-here replica receiver item replica receiver 0 refl refl (sym no_item)))
    (λ p q not. ap (λ (b : Bool). post (if b then Some value else f p q)) (is_at-elsewhere replica receiver item p q 0 (λ all. not (all.0, all.1))))

-- a pair by its place
place_of_pair : (pair n replica receiver : ℕ) → pair / n ≡ replica → pair % n ≡ receiver → pair ≡ replica * n + receiver
place_of_pair pair n replica receiver first second =
    let parts = div-add-mod' pair n in
    let whole : pair / n * n ≡ replica * n = ap (λ (a : ℕ). a * n) first in
    omega (arith, parts, whole, second)

-- an entry of a grid by sender, receiver and item
by_pair_and_item : (n m : ℕ) (f : ℕ → ℕ → ℕ → Option ℤ) (replica receiver item : ℕ) (value : ℤ)
    → replica < n → receiver < n → item < m
    → grid (n * n) m (λ pair i. if is_at replica receiver item (pair / n) (pair % n) i then Some value else f (pair / n) (pair % n) i)
    ≡ set (grid (n * n) m (λ pair i. f (pair / n) (pair % n) i)) ((replica * n + receiver) * m + item) (Some value)
by_pair_and_item n m f replica receiver item value below column last =
    grid_set (n * n) m
    (λ pair i. if is_at replica receiver item (pair / n) (pair % n) i then Some value else f (pair / n) (pair % n) i) (λ pair i. f (pair / n) (pair % n) i)
    (replica * n + receiver) item (Some value) (mul-add-lt replica n receiver n below column) last
    (let first = div-mul-add replica n receiver column in
    let second = mod-mul-add replica n receiver column in
    ap (λ (b : Bool). if b then Some value else f ((replica * n + receiver) / n) ((replica * n + receiver) % n) item)
    (is_at-here replica receiver item ((replica * n + receiver) / n) ((replica * n + receiver) % n) item first second refl))
    (λ pair i not. ap (λ (b : Bool). if b then Some value else f (pair / n) (pair % n) i)
    (is_at-elsewhere replica receiver item (pair / n) (pair % n) i (λ all. not (place_of_pair pair n replica receiver all.0 all.1, all.2))))

-- what was said and the sensors, with one row of a kind more
put_more : (kind : Kind) (plan : PlanParts) (says : Said) (sensors : List ℤ) (frame replica receiver item : ℕ) (value : ℤ)
    → let row : Row = record { frame = frame; kind = kind; replica = replica; receiver = receiver; item = item; value = value } in
    IsRowOf plan row → built plan (said_by row says) (sensors_by row sensors) ≡ put_row (built plan says sensors) row
unfolding put_row with_sensor with_down with_slot with_skew with_rate with_cell with_act with_lie_slot with_drop with_delay with_lie
put_more kind.Sensor plan says sensors frame replica receiver item value row = refl
put_more kind.Down plan says sensors frame replica receiver item value row =
    ap (λ (t : List Bool). record (built plan says sensors) { downs = t })
    (by_replica is_some plan.replicas (λ r. says kind.Down r 0 0) replica receiver item value row.replica (omega (arith, row.receiver)) (omega (arith, row.item)))
put_more kind.Slot plan says sensors frame replica receiver item value row =
    ap (λ (t : List (Option ℕ)). record (built plan says sensors) { slots = t })
    (by_replica (option_map natural_of) plan.replicas (λ r. says kind.Slot r 0 0) replica receiver item value row.replica (omega (arith, row.receiver)) (omega (arith, row.item)))
put_more kind.Skew plan says sensors frame replica receiver item value row =
    ap (λ (t : List ℤ). record (built plan says sensors) { skews = t })
    (by_replica (λ o. unwrap_or o (pos 0)) plan.replicas (λ r. says kind.Skew r 0 0) replica receiver item value row.replica (omega (arith, row.receiver)) (omega (arith, row.item)))
put_more kind.Rate plan says sensors frame replica receiver item value row =
    ap (λ (t : List ℤ). record (built plan says sensors) { rates = t })
    (by_replica (λ o. unwrap_or o (pos 0)) plan.replicas (λ r. says kind.Rate r 0 0) replica receiver item value row.replica (omega (arith, row.receiver)) (omega (arith, row.item)))
put_more kind.Cell plan says sensors frame replica receiver item value row =
    ap (λ (t : List (Option ℤ)). record (built plan says sensors) { cell_values = t })
    (by_item plan.replicas (length plan.cells) (λ r i. says kind.Cell r 0 i) replica receiver item value row.replica (omega (arith, row.receiver)) row.item)
put_more kind.Act plan says sensors frame replica receiver item value row =
    ap (λ (t : List (Option ℤ)). record (built plan says sensors) { acts = t })
    (by_item plan.replicas (length plan.actuators) (λ r i. says kind.Act r 0 i) replica receiver item value row.replica (omega (arith, row.receiver)) row.item)
put_more kind.LieSlot plan says sensors frame replica receiver item value row =
    ap (λ (t : List (Option ℕ)). record (built plan says sensors) { lie_slots = t })
    (by_pair (option_map natural_of) plan.replicas (λ p q. says kind.LieSlot p q 0) replica receiver item value row.replica row.receiver (omega (arith, row.item)))
put_more kind.Drop plan says sensors frame replica receiver item value row =
    ap (λ (t : List Bool). record (built plan says sensors) { drops = t })
    (by_pair is_some plan.replicas (λ p q. says kind.Drop p q 0) replica receiver item value row.replica row.receiver (omega (arith, row.item)))
put_more kind.Delay plan says sensors frame replica receiver item value row =
    ap (λ (t : List ℤ). record (built plan says sensors) { delays = t })
    (by_pair (λ o. unwrap_or o plan.timing.delay_min) plan.replicas (λ p q. says kind.Delay p q 0) replica receiver item value row.replica row.receiver (omega (arith, row.item)))
put_more kind.Lie plan says sensors frame replica receiver item value row =
    ap (λ (t : List (Option ℤ)). record (built plan says sensors) { lies = t })
    (by_pair_and_item plan.replicas (length plan.cells) (λ p q i. says kind.Lie p q i) replica receiver item value row.replica row.receiver row.item)
put_more kind.End plan says sensors frame replica receiver item value row = refl

-- the sensors with one row more
set_sensor : (kind : Kind) (plan : PlanParts) (rows : List Row) (frame replica receiver item : ℕ) (value : ℤ)
    → let row : Row = record { frame = frame; kind = kind; replica = replica; receiver = receiver; item = item; value = value } in
    IsRowOf plan row → sensors_in plan (row ∷ rows) frame ≡ sensors_by row (sensors_in plan rows frame)
set_sensor kind.Sensor plan rows frame replica receiver item value row =
    let now = le-leb frame frame (omega arith) in
    let initial : ℕ → ℤ = λ sensor. slice_index_or (initial_values plan.sensors) sensor (pos 0) in
    let before : ℕ → ℤ = λ sensor. sensor_value rows frame sensor (initial sensor) in
    let past : ℕ → ℤ = λ sensor. unwrap_or (option_map (λ (r : Row). r.value) (cond (item == sensor) (Some (record { frame = frame; kind = kind.Sensor; replica = replica; receiver = receiver; item = item; value = value })) (find (sets_sensor_by frame sensor) rows))) (initial sensor) in
    rw now
    (table_set (length plan.sensors) past before item value row.item
    (rw (eq-eqb item item refl) refl)
    (λ sensor not. rw (ne_eqb item sensor (λ same. not (sym same))) refl))
set_sensor _ plan rows frame replica receiver item value row = rw (le-leb frame frame (omega arith)) refl

-- the same where the row's frame is the frame
row_more_now : (plan : PlanParts) (row : Row) (rows : List Row) → IsRowOf plan row
    → frame_of plan (row ∷ rows) row.frame ≡ put_row (frame_of plan rows row.frame) row
row_more_now plan row rows of_plan =
    frame_of-built plan (row ∷ rows) row.frame
    ∙ ap₂ (built plan) (said_more row rows) (set_sensor row.kind plan rows row.frame row.replica row.receiver row.item row.value of_plan)
    ∙ put_more row.kind plan (said rows row.frame) (sensors_in plan rows row.frame) row.frame row.replica row.receiver row.item row.value of_plan
    ∙ sym (ap (λ (so_far : FrameRows). put_row so_far row) (frame_of-built plan rows row.frame))

-- the rows of a frame with one row of it more
pub row_more : (plan : PlanParts) (row : Row) (rows : List Row) (frame : ℕ) → row.frame ≡ frame → IsRowOf plan row
    → frame_of plan (row ∷ rows) frame ≡ put_row (frame_of plan rows frame) row
row_more plan row rows frame same of_plan =
    subst (λ (f : ℕ). frame_of plan (row ∷ rows) f ≡ put_row (frame_of plan rows f) row) same (row_more_now plan row rows of_plan)
