-- The rows of each frame are read after those of the frames before it.
use Rattle.std.proofs.Common.{◌≡◌, ℕ, zero, suc, ◌==◌, ◌+◌, ◌%◌, ◌*◌, ◌<◌, ◌≤◌, ◌^◌, List, [], ◌∷◌, ◌++◌, Ok, Bool, true, false, ◌&&◌, if◌then◌else◌, refl, sym, subst, arith}
use Rattle.std.proofs.Math.Nat.{mod-lt}
use Rattle.std.proofs.lemmas.Bool.{and_parts, leb-true, ltb-true}
use Rattle.std.specs.Prelude.{length, nat_le, nat_lt}
use Rattle.rcp_model.specs.declared.plan.PlanParts.{PlanParts}
use Rattle.rcp_model.specs.Plan.{IsPlan}
use Rattle.fault_journal.specs.declared.row.Row.{Row}
use Rattle.fault_journal.specs.Journal.{row_of, same_kind}
use Rattle.journal_gen.specs.Draws.{drawn, next_seed}
use Rattle.journal_gen.specs.Generator.{fault_of, fault_row, fault_rows, has_fault, has_sensor_row, replica_of, rows_before, rows_of_frame, seed_before, sensor_row, sensor_rows}
use Rattle.journal_gen.proofs.Each.{Each, each_append, each_weaker}
use Rattle.journal_gen.proofs.MadeLemmas.{IsMade, fault_is, fault_made, fault_no_sensor, sensor_made}
use Rattle.journal_gen.proofs.ReadLemmas.{Before, CanRead, UpTo, can_read_append, in_order, is_new, is_new_after, newest, newest_append}
use Rattle.journal_gen.proofs.RowLemmas.{fields_of, row_read}

-- a draw is below 2 ^ 15
pub drawn_small : (seed : ℕ) → drawn (next_seed seed) < 2 ^ 15
unfolding drawn next_seed
drawn_small seed = omega (arith, mod-lt (seed * 1_103_515_245 + 12_345) {m = 2_147_483_648} (omega arith))

pub some_sensors : (plan : PlanParts) (frame draw : ℕ) → has_sensor_row plan frame draw ≡ true → 0 < length plan.sensors
unfolding has_sensor_row
some_sensors plan frame draw comes =
    let both = and_parts (nat_lt 0 (length plan.sensors) && (frame % 2 == 0)) (draw % 2 == 0) comes in
    ltb-true 0 (length plan.sensors) (and_parts (nat_lt 0 (length plan.sensors)) (frame % 2 == 0) both.0).0

pub three_replicas : (plan : PlanParts) (recovery frame : ℕ) → has_fault plan recovery frame ≡ true → 3 ≤ plan.replicas
unfolding has_fault
three_replicas plan recovery frame comes = leb-true 3 plan.replicas (and_parts (nat_le 3 plan.replicas) _ comes).0

-- the rows of a frame are made for it
pub sensor_comes : (plan : PlanParts) (frame draw : ℕ) → IsPlan plan → frame < 1_000_000 → has_sensor_row plan frame draw ≡ true
    → IsMade plan frame (sensor_row plan frame draw)
sensor_comes plan frame draw is few comes = sensor_made plan frame draw is few (some_sensors plan frame draw comes)

pub fault_comes : (plan : PlanParts) (recovery frame seed : ℕ) → IsPlan plan → frame < 1_000_000 → has_fault plan recovery frame ≡ true
    → IsMade plan frame (fault_row plan frame (drawn (next_seed seed)))
unfolding fault_row
fault_comes plan recovery frame seed is few comes =
    let draw = drawn (next_seed seed) in
    let many = three_replicas plan recovery frame comes in
    fault_made plan frame (replica_of plan draw) (fault_of plan draw) is few (mod-lt draw is.some_replicas)
    (fault_is plan draw is (drawn_small seed) (omega (arith, many)))

-- a row of a frame, where one comes
abbrev pub where_comes : Bool → Row → List Row
where_comes comes row = if comes then row ∷ [] else []

later : (now : ℕ) (rows : List Row) → Before now rows → Before (suc now) rows
later now rows earlier = each_weaker (λ (r : Row). r.frame < now) (λ (r : Row). r.frame < suc now) (λ r less. omega (arith, less)) rows earlier

-- a row made for a frame is read after those of earlier frames
made_read : (plan : PlanParts) (now : ℕ) (before : List Row) (row : Row) → IsMade plan now row → Before now before
    → (number : ℕ) → row_of plan number before (fields_of plan row) ≡ Ok row
made_read plan now before row made earlier number =
    let own : Before row.frame before = subst (λ n. Before n before) (sym made.frame) earlier in
    let upto : UpTo row.frame before = each_weaker (λ (r : Row). r.frame < row.frame) (λ (r : Row). r.frame ≤ row.frame) (λ r less. omega (arith, less)) before own in
    row_read plan number before row made.reads (in_order before row upto made.goes_on) made.limits (is_new before row own)

-- and after a row of the same frame too, where that is of another kind
made_read_after : (plan : PlanParts) (now : ℕ) (before : List Row) (first row : Row) → IsMade plan now first → IsMade plan now row
    → same_kind first.kind row.kind ≡ false → Before now before
    → (number : ℕ) → row_of plan number (first ∷ before) (fields_of plan row) ≡ Ok row
made_read_after plan now before first row first_made made other earlier number =
    let own : Before row.frame before = subst (λ n. Before n before) (sym made.frame) earlier in
    let upto : UpTo row.frame before = each_weaker (λ (r : Row). r.frame < row.frame) (λ (r : Row). r.frame ≤ row.frame) (λ r less. omega (arith, less)) before own in
    let same : first.frame ≤ row.frame = omega (arith, first_made.frame, made.frame) in
    row_read plan number (first ∷ before) row made.reads (in_order (first ∷ before) row (same, upto) made.goes_on) made.limits
    (is_new_after before first row own other)

-- what the rows of a frame keep, after those of earlier frames
pub record FollowOn (plan : PlanParts) (now : ℕ) (before rows : List Row) : Type 0 where
  pub read : CanRead plan before rows
  pub earlier : Before (suc now) (newest rows before)

two_rows : (plan : PlanParts) (now : ℕ) (before : List Row) (first second : Row) (a b : Bool)
    → (a ≡ true → IsMade plan now first) → (b ≡ true → IsMade plan now second) → same_kind first.kind second.kind ≡ false → Before now before
    → FollowOn plan now before (where_comes a first ++ where_comes b second)
two_rows plan now before first second false false one two other earlier = record { read = tt; earlier = later now before earlier }
two_rows plan now before first second true false one two other earlier =
    let made = one refl in
    record {
      read = (made_read plan now before first made earlier, made.goes_on, tt);
      earlier = (omega (arith, made.frame), later now before earlier);
    }
two_rows plan now before first second false true one two other earlier =
    let made = two refl in
    record {
      read = (made_read plan now before second made earlier, made.goes_on, tt);
      earlier = (omega (arith, made.frame), later now before earlier);
    }
two_rows plan now before first second true true one two other earlier =
    let made = one refl in
    let also = two refl in
    record {
      read =
          (made_read plan now before first made earlier, made.goes_on, (made_read_after plan now before first second made also other earlier, also.goes_on, tt));
      earlier = (omega (arith, also.frame), (omega (arith, made.frame), later now before earlier));
    }

each_of_two : (P : Row → Type 0) (first second : Row) (a b : Bool) → (a ≡ true → P first) → (b ≡ true → P second)
    → Each P (where_comes a first ++ where_comes b second)
each_of_two P first second false false one two = tt
each_of_two P first second true false one two = (one refl, tt)
each_of_two P first second false true one two = (two refl, tt)
each_of_two P first second true true one two = (one refl, (two refl, tt))

-- the two rows of a frame are of other kinds
other_kind : (plan : PlanParts) (now draw other : ℕ) → same_kind (sensor_row plan now draw).kind (fault_row plan now other).kind ≡ false
unfolding sensor_row fault_row
other_kind plan now draw other = fault_no_sensor now (replica_of plan other) (fault_of plan other)

frame_follows : (plan : PlanParts) (recovery now seed : ℕ) (before : List Row) → IsPlan plan → now < 1_000_000 → Before now before
    → FollowOn plan now before (rows_of_frame plan recovery now seed)
unfolding rows_of_frame sensor_rows fault_rows
frame_follows plan recovery now seed before is few earlier =
    let first = next_seed seed in
    two_rows plan now before (sensor_row plan now (drawn first)) (fault_row plan now (drawn (next_seed first)))
    (has_sensor_row plan now (drawn first)) (has_fault plan recovery now)
    (sensor_comes plan now (drawn first) is few) (fault_comes plan recovery now first is few)
    (other_kind plan now (drawn first) (drawn (next_seed first))) earlier

-- each row of a frame keeps what both rows keep
pub each_of_frame : (P : Row → Type 0) (plan : PlanParts) (recovery now seed : ℕ)
    → ((draw : ℕ) → has_sensor_row plan now draw ≡ true → P (sensor_row plan now draw))
    → (has_fault plan recovery now ≡ true → P (fault_row plan now (drawn (next_seed (next_seed seed)))))
    → Each P (rows_of_frame plan recovery now seed)
unfolding rows_of_frame sensor_rows fault_rows
each_of_frame P plan recovery now seed one two =
    let first = next_seed seed in
    each_of_two P (sensor_row plan now (drawn first)) (fault_row plan now (drawn (next_seed first)))
    (has_sensor_row plan now (drawn first)) (has_fault plan recovery now) (one (drawn first)) two

-- what all rows of the first frames keep
pub record AreMade (plan : PlanParts) (frames : ℕ) (rows : List Row) : Type 0 where
  pub read : CanRead plan [] rows
  pub earlier : Before frames (newest rows [])
  pub made : Each (λ row. IsMade plan row.frame row) rows

-- a row made for a frame is made for its own
own_frame : (plan : PlanParts) (now : ℕ) (row : Row) → IsMade plan now row → IsMade plan row.frame row
own_frame plan now row made = subst (λ n. IsMade plan n row) (sym made.frame) made

pub frames_made : (plan : PlanParts) (recovery number frames : ℕ) → IsPlan plan → frames ≤ 1_000_000
    → AreMade plan frames (rows_before plan recovery number frames)
frames_made plan recovery number zero is few = record { read = tt; earlier = tt; made = tt }
frames_made plan recovery number (suc now) is few =
    let rows = rows_before plan recovery number now in
    let seed = seed_before plan recovery number now in
    let more = rows_of_frame plan recovery now seed in
    let within : now < 1_000_000 = omega (arith, few) in
    let so_far = frames_made plan recovery number now is (omega (arith, few)) in
    let follows = frame_follows plan recovery now seed (newest rows []) is within so_far.earlier in
    record {
      read = can_read_append plan [] rows more so_far.read follows.read;
      earlier = subst (Before (suc now)) (sym (newest_append rows more [])) follows.earlier;
      made =
          each_append (λ row. IsMade plan row.frame row) rows more so_far.made
          (each_of_frame (λ row. IsMade plan row.frame row) plan recovery now seed
          (λ draw comes. own_frame plan now (sensor_row plan now draw) (sensor_comes plan now draw is within comes))
          (λ comes. own_frame plan now (fault_row plan now (drawn (next_seed (next_seed seed)))) (fault_comes plan recovery now (next_seed seed) is within comes)));
    }
