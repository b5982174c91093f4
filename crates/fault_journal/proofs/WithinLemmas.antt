-- The frames of a journal whose rows are those of a plan are frames of the plan, within the limits.
use Rattle.std.proofs.Common.{◌≡◌, ℕ, ◌<◌, List, [], ◌∷◌, Option, Some, None, option_map, unwrap_or, find, cond, ℤ, pos, negsuc, ◌≤ℤ◌, Bool, true, false, ◌&&◌, if◌then◌else◌, All, sym, refl, ap, ap₂, ◌∙◌, arith, eqb-true, nat_eq, length}
use Rattle.std.specs.Prelude.{is_some}
use Rattle.std.proofs.lemmas.Int.{ints}
use Rattle.std.proofs.lemmas.List.Elements.{All-head, All-tail}
use Rattle.rcp_base.proofs.TableLaws.{length-table}
use Rattle.rcp_base.specs.Answers.{natural_of}
use Rattle.rcp_model.specs.declared.plan.PlanParts.{PlanParts}
use Rattle.rcp_model.specs.Plan.{IsPlan}
use Rattle.rcp_model.specs.Slot.{slot_count}
use Rattle.rcp_model.specs.TimingRules.{delay_limit_of}
use Rattle.rcp_model.specs.FrameRows.{AreRowsOf, slot_row, lie_row, lie_slot_row, is_dropped, skew_of, rate_of, delay_of}
use Rattle.rcp_model.specs.FrameLimits.{AreWithinLimits, IsUntouchedByItself, IsWithin}
use Rattle.fault_journal.specs.declared.row.Kind.{Kind}
use Rattle.fault_journal.specs.declared.row.Kind.TheVariants as kind
use Rattle.fault_journal.specs.declared.row.Row.{Row}
use Rattle.fault_journal.specs.Journal.{kind_number, same_kind}
use Rattle.fault_journal.specs.Limits.{is_on_a_message, value_is_permitted, is_below, is_within, is_up_to}
use Rattle.fault_journal.specs.History.{said, speaks_of, frame_of}
use Rattle.fault_journal.specs.Filling.{IsRowOf}
use Rattle.fault_journal.proofs.GridLemmas.{at_table, at_grid, at_own, at_own_lie}

-- a frame of a plan
pub frame_of-is_of_plan : (plan : PlanParts) (rows : List Row) (frame : ℕ) → AreRowsOf plan (frame_of plan rows frame)
unfolding frame_of
frame_of-is_of_plan plan rows frame = record {
  replicas = refl;
  cells = refl;
  actuators = refl;
  delay_min = refl;
  sensors = length-table _ _;
  tables =
      record {
        downs = length-table _ _;
        slots = length-table _ _;
        skews = length-table _ _;
        rates = length-table _ _;
        cell_values = length-table _ _;
        acts = length-table _ _;
        lie_slots = length-table _ _;
        drops = length-table _ _;
        delays = length-table _ _;
        lies = length-table _ _;
      };
}

-- the kind of a number
kind_at : ℕ → Kind
kind_at number =
    if nat_eq number 0 then kind.Sensor
    else if nat_eq number 1 then kind.Down
    else if nat_eq number 2 then kind.Cell
    else if nat_eq number 3 then kind.Slot
    else if nat_eq number 4 then kind.Act
    else if nat_eq number 5 then kind.Lie
    else if nat_eq number 6 then kind.LieSlot
    else if nat_eq number 7 then kind.Drop
    else if nat_eq number 8 then kind.Skew
    else if nat_eq number 9 then kind.Rate
    else if nat_eq number 10 then kind.Delay
    else kind.End

kind_at-number : (kind : Kind) → kind_at (kind_number kind) ≡ kind
unfolding kind_at
kind_at-number kind.Sensor = refl
kind_at-number kind.Down = refl
kind_at-number kind.Cell = refl
kind_at-number kind.Slot = refl
kind_at-number kind.Act = refl
kind_at-number kind.Lie = refl
kind_at-number kind.LieSlot = refl
kind_at-number kind.Drop = refl
kind_at-number kind.Skew = refl
kind_at-number kind.Rate = refl
kind_at-number kind.Delay = refl
kind_at-number kind.End = refl

-- kinds with one number are one
same_kind-true : (a b : Kind) → same_kind a b ≡ true → a ≡ b
same_kind-true a b same = sym (kind_at-number a) ∙ ap kind_at (eqb-true (kind_number a) (kind_number b) same) ∙ kind_at-number b

-- a value that is said is permitted
IsPermitted : PlanParts → Kind → Option ℤ → Type 0
IsPermitted plan kind said = (value : ℤ) → said ≡ Some value → value_is_permitted plan kind value ≡ true

-- by one row or by those before it
permitted_more : (plan : PlanParts) (row : Row) (kind : Kind) (test : Bool) (rest : Option Row)
    → IsRowOf plan row → (test ≡ true → row.kind ≡ kind) → IsPermitted plan kind (option_map (λ (r : Row). r.value) rest)
    → IsPermitted plan kind (option_map (λ (r : Row). r.value) (cond test (Some row) rest))
unfolding IsPermitted
permitted_more plan row kind true rest of_plan same before value is =
    let found : row.value ≡ value = cc in
    ap₂ (value_is_permitted plan) (sym (same refl)) (sym found) ∙ of_plan.value
permitted_more plan row kind false rest of_plan same before value is = before value is

-- by no row
permitted_none : (plan : PlanParts) (kind : Kind) → IsPermitted plan kind None
unfolding IsPermitted
permitted_none plan kind value is = cc

second_test : (a b c d e : Bool) → (a && b && c && d && e) ≡ true → b ≡ true
second_test a true c d e passes = cc
second_test true false c d e passes = passes
second_test false b c d e passes = cc

said-permitted : (plan : PlanParts) (rows : List Row) (frame : ℕ) (kind : Kind) (replica receiver item : ℕ) → All (IsRowOf plan) rows
    → IsPermitted plan kind (said rows frame kind replica receiver item)
said-permitted plan [] frame kind replica receiver item of_plan = permitted_none plan kind
said-permitted plan (row ∷ rows) frame kind replica receiver item of_plan =
    permitted_more plan row kind (speaks_of frame kind replica receiver item row) (find (speaks_of frame kind replica receiver item) rows)
    (All-head (IsRowOf plan) row rows of_plan)
    (λ yes. same_kind-true row.kind kind (second_test _ _ _ _ _ yes))
    (said-permitted plan rows frame kind replica receiver item (All-tail (IsRowOf plan) row rows of_plan))

-- a slot that is said is one of the plan
SlotsAreBelow : ℕ → Option ℕ → Type 0
SlotsAreBelow count said = (slot : ℕ) → said ≡ Some slot → slot < count

no_slot-below : (count : ℕ) → SlotsAreBelow count None
unfolding SlotsAreBelow
no_slot-below count slot is = cc

slot-below : (count : ℕ) (said : Option ℤ) → ((value : ℤ) → said ≡ Some value → is_below count value ≡ true)
    → SlotsAreBelow count (option_map natural_of said)
unfolding SlotsAreBelow
slot-below count None permitted slot is = cc
slot-below count (Some (pos n)) permitted slot is =
    let fact : is_below count (pos n) ≡ true = permitted (pos n) refl in
    let same : n ≡ slot = cc in
    grind (arith, ints)
slot-below count (Some (negsuc n)) permitted slot is =
    let fact : is_below count (negsuc n) ≡ true = permitted (negsuc n) refl in
    grind (arith, ints)

-- ticks or parts per million, where a limit is no less than 0
said-within : (limit : ℤ) (said : Option ℤ) → pos 0 ≤ℤ limit → ((value : ℤ) → said ≡ Some value → is_within limit value ≡ true)
    → IsWithin limit (unwrap_or said (pos 0))
said-within limit None some permitted = (omega (arith, ints), some)
said-within limit (Some value) some permitted =
    let fact : is_within limit value ≡ true = permitted value refl in
    grind (arith, ints)

-- a delay that may be
IsDelay : ℤ → ℤ → Type 0
IsDelay limit delay = (pos 0 ≤ℤ delay) × (delay ≤ℤ limit)

delay-within : (limit usual : ℤ) (said : Option ℤ) → IsDelay limit usual → ((value : ℤ) → said ≡ Some value → is_up_to limit value ≡ true)
    → IsDelay limit (unwrap_or said usual)
unfolding IsDelay
delay-within limit usual None possible permitted = possible
delay-within limit usual (Some value) possible permitted =
    let fact : is_up_to limit value ≡ true = permitted value refl in
    grind (arith, ints)

-- nothing is said of what a replica says to itself
none_more : (row : Row) (test : Bool) (rest : Option Row) → (test ≡ true → ⊥)
    → option_map (λ (r : Row). r.value) rest ≡ None → option_map (λ (r : Row). r.value) (cond test (Some row) rest) ≡ None
none_more row true rest never none = absurd (never refl)
none_more row false rest never none = none

record SpeaksOf (kind : Kind) (replica receiver : ℕ) (row : Row) : Type 0 where
  kind_is : row.kind ≡ kind
  replica_is : row.replica ≡ replica
  receiver_is : row.receiver ≡ receiver

spoken_of : (frame : ℕ) (kind : Kind) (replica receiver item : ℕ) (row : Row) → speaks_of frame kind replica receiver item row ≡ true
    → SpeaksOf kind replica receiver row
spoken_of frame kind replica receiver item row passes =
    let tests = five_parts _ _ _ _ _ passes in
    record {
      kind_is = same_kind-true row.kind kind tests.1;
      replica_is = eqb-true row.replica replica tests.2;
      receiver_is = eqb-true row.receiver receiver tests.3;
    }
  where
    five_parts : (a b c d e : Bool) → (a && b && c && d && e) ≡ true → (a ≡ true) × (b ≡ true) × (c ≡ true) × (d ≡ true) × (e ≡ true)
    five_parts true true true true e passes = (refl, refl, refl, refl, passes)
    five_parts true true true false e passes = cc
    five_parts true true false d e passes = cc
    five_parts true false c d e passes = cc
    five_parts false b c d e passes = cc

said-to_itself : (plan : PlanParts) (rows : List Row) (frame : ℕ) (kind : Kind) (replica item : ℕ)
    → is_on_a_message kind ≡ true → All (IsRowOf plan) rows → said rows frame kind replica replica item ≡ None
said-to_itself plan [] frame kind replica item message of_plan = refl
said-to_itself plan (row ∷ rows) frame kind replica item message of_plan =
    none_more row (speaks_of frame kind replica replica item row) (find (speaks_of frame kind replica replica item) rows)
    (λ yes.
    let speaks = spoken_of frame kind replica replica item row yes in
    (All-head (IsRowOf plan) row rows of_plan).apart (ap is_on_a_message speaks.kind_is ∙ message) (speaks.replica_is ∙ sym speaks.receiver_is))
    (said-to_itself plan rows frame kind replica item message (All-tail (IsRowOf plan) row rows of_plan))

-- so no row of a frame touches what a replica says to itself
own_of : (plan : PlanParts) (rows : List Row) (frame : ℕ) → All (IsRowOf plan) rows → (p : ℕ) → IsUntouchedByItself (frame_of plan rows frame) p
unfolding frame_of lie_row lie_slot_row is_dropped delay_of
own_of plan rows frame of_plan p =
    let silent = λ (kind : Kind) (i : ℕ) (message : is_on_a_message kind ≡ true). said-to_itself plan rows frame kind p i message of_plan in
    record {
      lie_slot =
          at_own (λ p q. option_map natural_of (said rows frame kind.LieSlot p q 0)) plan.replicas p None
          (ap (option_map natural_of) (silent kind.LieSlot 0 refl));
      drop = at_own (λ p q. is_some (said rows frame kind.Drop p q 0)) plan.replicas p false (ap is_some (silent kind.Drop 0 refl));
      delay =
          at_own (λ p q. unwrap_or (said rows frame kind.Delay p q 0) plan.timing.delay_min) plan.replicas p plan.timing.delay_min
          (ap (λ said. unwrap_or said plan.timing.delay_min) (silent kind.Delay 0 refl));
      lie = λ cell. at_own_lie plan.replicas (length plan.cells) (λ p q c. said rows frame kind.Lie p q c) p cell (silent kind.Lie cell refl);
    }

-- so the frame is within the limits
pub frame_of-is_within_limits : (plan : PlanParts) (rows : List Row) (frame : ℕ) → IsPlan plan → All (IsRowOf plan) rows
    → AreWithinLimits plan (frame_of plan rows frame)
unfolding frame_of slot_row lie_slot_row skew_of rate_of delay_of IsPermitted SlotsAreBelow IsDelay
frame_of-is_within_limits plan rows frame is_plan of_plan =
    let range = is_plan.timing_range in
    let nest = is_plan.timing_rules.limits_nest in
    let least : IsDelay (delay_limit_of plan.timing) plan.timing.delay_min = (range.delay_min.0, omega (arith, ints, nest.delay, nest.delay_limit)) in
    let at = λ (kind : Kind) (p q i : ℕ). said-permitted plan rows frame kind p q i of_plan in
    record {
      slot = λ replica. at_table (SlotsAreBelow (slot_count plan)) plan.replicas (λ p. option_map natural_of (said rows frame kind.Slot p 0 0)) replica None
          (λ p. slot-below (slot_count plan) (said rows frame kind.Slot p 0 0) (at kind.Slot p 0 0)) (no_slot-below (slot_count plan));
      lie_slot = λ sender receiver. at_grid (SlotsAreBelow (slot_count plan)) plan.replicas plan.replicas (λ p q. option_map natural_of (said rows frame kind.LieSlot p q 0)) sender receiver None
          (λ p q. slot-below (slot_count plan) (said rows frame kind.LieSlot p q 0) (at kind.LieSlot p q 0)) (no_slot-below (slot_count plan));
      skew = λ replica. at_table (IsWithin plan.timing.skew_limit) plan.replicas (λ p. unwrap_or (said rows frame kind.Skew p 0 0) (pos 0)) replica (pos 0)
          (λ p. said-within plan.timing.skew_limit (said rows frame kind.Skew p 0 0) range.skew_limit.0 (at kind.Skew p 0 0)) (said-within plan.timing.skew_limit None range.skew_limit.0 (λ value is. cc));
      rate = λ replica. at_table (IsWithin plan.timing.drift_limit_ppm) plan.replicas (λ p. unwrap_or (said rows frame kind.Rate p 0 0) (pos 0)) replica (pos 0)
          (λ p. said-within plan.timing.drift_limit_ppm (said rows frame kind.Rate p 0 0) range.drift_limit_ppm.0 (at kind.Rate p 0 0)) (said-within plan.timing.drift_limit_ppm None range.drift_limit_ppm.0 (λ value is. cc));
      own = own_of plan rows frame of_plan;
      delay = λ sender receiver. at_grid (IsDelay (delay_limit_of plan.timing)) plan.replicas plan.replicas (λ p q. unwrap_or (said rows frame kind.Delay p q 0) plan.timing.delay_min) sender receiver plan.timing.delay_min
          (λ p q. delay-within (delay_limit_of plan.timing) plan.timing.delay_min (said rows frame kind.Delay p q 0) least (at kind.Delay p q 0)) least;
    }
