-- The guard holds in each frame of a generated journal: in as many frames as the recovery length and one more, one replica at most
-- has a fault.
use Rattle.std.proofs.Common.{◌≡◌, ◌≢◌, ℕ, zero, suc, ◌==◌, ◌+◌, ◌/◌, ◌%◌, ◌<◌, ◌≤◌, List, [], ◌∷◌, count_by, cond, pos, Bool, true, false, ◌&&◌, refl, sym, ap, ◌∙◌, inl, inr, subst, arith}
use Rattle.std.proofs.lemmas.Bool.{and_parts, cases_Bool, cases_eq, cases_lt, eqb-true, ne_eqb}
use Rattle.std.specs.List.{range_with_len}
use Rattle.std.specs.Prelude.{length, nat_le}
use Rattle.rcp_base.proofs.CountLaws.{count_by-cons}
use Rattle.rcp_base.proofs.TableLaws.{get_or-table}
use Rattle.rcp_model.proofs.HistoryLaws.{past_more}
use Rattle.rcp_model.specs.declared.plan.PlanParts.{PlanParts}
use Rattle.rcp_model.specs.AtFrame.{rows_at}
use Rattle.rcp_model.specs.FrameRows.{FrameRows, quiet_rows}
use Rattle.rcp_model.specs.Health.{HasHealthyMajority, MeetsGuard, is_healthy, is_healthy_for}
use Rattle.rcp_model.specs.History.{History, past_of}
use Rattle.rcp_model.specs.Plan.{IsPlan}
use Rattle.fault_journal.specs.declared.row.Kind.TheVariants as kind
use Rattle.fault_journal.specs.declared.row.Row.{Row}
use Rattle.fault_journal.specs.History.{frame_of, history_of}
use Rattle.fault_journal.specs.Journal.{same_kind}
use Rattle.journal_gen.specs.Draws.{drawn, next_seed}
use Rattle.journal_gen.specs.Generator.{fault_of, fault_row, has_fault, period, replica_of, rows_before, rows_of_frame, seed_before, sensor_row}
use Rattle.journal_gen.proofs.AcceptedLemmas.{generated_history, history_length}
use Rattle.journal_gen.proofs.Each.{Each, each_append}
use Rattle.journal_gen.proofs.FrameLemmas.{each_of_frame, three_replicas}
use Rattle.journal_gen.proofs.HealthLemmas.{Spares, spared_is_healthy}
use Rattle.journal_gen.proofs.MadeLemmas.{fault_frame, fault_replica}
use Rattle.journal_gen.proofs.PeriodLemmas.{mod_next}
use Rattle.journal_gen.proofs.ReadLemmas.{newest}

counted : (b : Bool) → b ≡ true → 1 ≤ cond b 1 0
counted true passes = omega arith
counted false passes = cc

-- enough numbers pass a test that all pass, or all but one
count_all : (a n : ℕ) (test : ℕ → Bool) → ((k : ℕ) → a ≤ k → test k ≡ true) → n ≤ count_by test (range_with_len a n)
count_all a zero test each = omega arith
count_all a (suc n) test each =
    let here = counted (test a) (each a (omega arith)) in
    omega (arith, here, count_by-cons test a (range_with_len (a + 1) n), count_all (a + 1) n test (λ k past. each k (omega (arith, past))))

count_but_one : (a n p : ℕ) (test : ℕ → Bool) → ((k : ℕ) → k ≢ p → test k ≡ true) → n ≤ count_by test (range_with_len a n) + 1
count_but_one a zero p test each = omega arith
count_but_one a (suc n) p test each = elim (cases_eq a p) [
  | inl same ↦
      omega (
        arith,
        count_by-cons test a (range_with_len (a + 1) n),
        count_all (a + 1) n test (λ k past. each k (λ also. omega (arith, past, same, also))),
      )
  | inr other ↦
      let here = counted (test a) (each a other) in
      omega (arith, here, count_by-cons test a (range_with_len (a + 1) n), count_but_one (a + 1) n p test each)
]

-- the replica of a frame's fault, where it has one
abbrev faulty : PlanParts → ℕ → ℕ → ℕ → ℕ
faulty plan recovery number frame = replica_of plan (drawn (next_seed (next_seed (seed_before plan recovery number frame))))

-- a replica has no fault in a frame
abbrev IsSpared : PlanParts → ℕ → ℕ → ℕ → ℕ → Type 0
IsSpared plan recovery number frame replica = has_fault plan recovery frame ≡ true → faulty plan recovery number frame ≢ replica

-- rows of other frames spare it
other_frame : (frame replica : ℕ) (row : Row) → row.frame ≢ frame → Spares frame replica row
other_frame frame replica row other of none receiver item = rw (ne_eqb row.frame frame other) refl

-- so do sensor rows
sensor_spares : (plan : PlanParts) (now draw frame replica : ℕ) → Spares frame replica (sensor_row plan now draw)
unfolding sensor_row
sensor_spares plan now draw frame replica of none receiver item = by_frame (now == frame)
  where
    by_frame : (b : Bool) → (b && same_kind kind.Sensor of && (0 == replica) && (0 == receiver) && (draw / 2 % length plan.sensors == item)) ≡ false
    by_frame true = rw none refl
    by_frame false = refl

-- and the fault of another replica
fault_spares : (frame replica : ℕ) (row : Row) → row.replica ≢ replica → Spares frame replica row
fault_spares frame replica row other of none receiver item =
    let apart = ne_eqb row.replica replica other in
    by_rest (row.frame == frame) (same_kind row.kind of) apart
  where
    by_rest : (a b : Bool) → (row.replica == replica) ≡ false → (a && b && (row.replica == replica) && (row.receiver == receiver) && (row.item == item)) ≡ false
    by_rest true true apart = rw apart refl
    by_rest true false apart = refl
    by_rest false b apart = refl

fault_elsewhere : (plan : PlanParts) (recovery number now frame replica : ℕ) → now ≡ frame → has_fault plan recovery now ≡ true
    → IsSpared plan recovery number frame replica
    → (fault_row plan now (drawn (next_seed (next_seed (seed_before plan recovery number now))))).replica ≢ replica
unfolding fault_row
fault_elsewhere plan recovery number now frame replica same comes spared taken =
    let draw = drawn (next_seed (next_seed (seed_before plan recovery number now))) in
    spared (subst (λ n. has_fault plan recovery n ≡ true) same comes)
    (ap (faulty plan recovery number) (sym same) ∙ sym (fault_replica now (replica_of plan draw) (fault_of plan draw)) ∙ taken)

fault_otherwhen : (plan : PlanParts) (now draw frame : ℕ) → now ≢ frame → (fault_row plan now draw).frame ≢ frame
unfolding fault_row
fault_otherwhen plan now draw frame other same = other (sym (fault_frame now (replica_of plan draw) (fault_of plan draw)) ∙ same)

rows_spare : (plan : PlanParts) (recovery number frames frame replica : ℕ) → IsSpared plan recovery number frame replica
    → Each (Spares frame replica) (rows_before plan recovery number frames)
rows_spare plan recovery number zero frame replica spared = tt
rows_spare plan recovery number (suc now) frame replica spared =
    let seed = seed_before plan recovery number now in
    let draw = drawn (next_seed (next_seed seed)) in
    each_append (Spares frame replica) (rows_before plan recovery number now) (rows_of_frame plan recovery now seed)
    (rows_spare plan recovery number now frame replica spared)
    (each_of_frame (Spares frame replica) plan recovery now seed
    (λ first comes. sensor_spares plan now first frame replica)
    (λ comes. elim (cases_eq now frame) [
      | inl same ↦ fault_spares frame replica (fault_row plan now draw) (fault_elsewhere plan recovery number now frame replica same comes spared)
      | inr other ↦ other_frame frame replica (fault_row plan now draw) (fault_otherwhen plan now draw frame other)
    ]))

newest_each : (P : Row → Type 0) (rows before : List Row) → Each P rows → Each P before → Each P (newest rows before)
newest_each P [] before each old = old
newest_each P (row ∷ rows) before each old = newest_each P rows (row ∷ before) each.1 (each.0, old)

-- a fault comes at its place of a period
fault_place : (plan : PlanParts) (recovery frame : ℕ) → has_fault plan recovery frame ≡ true → frame % period recovery ≡ recovery
unfolding has_fault
fault_place plan recovery frame comes =
    eqb-true (frame % period recovery) recovery (and_parts (nat_le 3 plan.replicas) (frame % period recovery == recovery) comes).1

module _ (plan : PlanParts) (recovery number frames : ℕ) (is : IsPlan plan) where
  abbrev pub history : History
  history = generated_history plan recovery number frames

  -- a replica without a fault in a frame is healthy there
  healthy_at : (frame replica : ℕ) → frame < frames → IsSpared plan recovery number frame replica
      → is_healthy plan (rows_at history frame) replica ≡ true
  unfolding history_of
  healthy_at frame replica within spared =
      let rows = newest (rows_before plan recovery number frames) [] in
      let none : FrameRows = quiet_rows 0 0 0 (pos 0) [] in
      ap (λ r. is_healthy plan r replica) (get_or-table frames (frame_of plan rows) frame none within)
      ∙ spared_is_healthy plan is rows frame replica
      (newest_each (Spares frame replica) (rows_before plan recovery number frames) [] (rows_spare plan recovery number frames frame replica spared) tt)

  -- one frame more
  healthy_more : (more frame replica : ℕ) → frame < frames → IsSpared plan recovery number frame replica
      → is_healthy_for plan more (past_of history frame) replica ≡ true
      → is_healthy_for plan (suc more) (past_of history (suc frame)) replica ≡ true
  healthy_more more frame replica within spared so_far =
      rw (past_more history frame (omega (arith, within, history_length plan recovery number frames)), healthy_at frame replica within spared) so_far

  -- before the frame of a period that has the fault, all are healthy
  quiet : (more frame replica : ℕ) → frame ≤ frames → more ≤ frame % period recovery → frame % period recovery ≤ recovery
      → is_healthy_for plan more (past_of history frame) replica ≡ true
  quiet zero frame replica within few low = refl
  quiet (suc more) zero replica within few low = refl
  quiet (suc more) (suc frame) replica within few low = elim (mod_next frame (period recovery) (omega arith)) [
    | inr first ↦ absurd (omega (arith, first.0, few))
    | inl next ↦
        healthy_more more frame replica (omega (arith, within))
        (λ comes. absurd (omega (arith, fault_place plan recovery frame comes, next, low)))
        (quiet more frame replica (omega (arith, within)) (omega (arith, next, few)) (omega (arith, next, low)))
  ]

  -- all but one are healthy in so many frames
  record AllButOne (more frame : ℕ) : Type 0 where
    one : ℕ
    others : (replica : ℕ) → replica ≢ one → is_healthy_for plan more (past_of history frame) replica ≡ true

  all_but_one : (more frame : ℕ) → frame ≤ frames → more ≤ suc recovery → AllButOne more frame
  all_but_one zero frame within few = record { one = 0; others = λ replica other. refl }
  all_but_one (suc more) zero within few = record { one = 0; others = λ replica other. refl }
  all_but_one (suc more) (suc frame) within few = elim (cases_Bool (has_fault plan recovery frame)) [
    | inl comes ↦
        let place = fault_place plan recovery frame comes in
        record {
          one = faulty plan recovery number frame;
          others =
              λ replica other. healthy_more more frame replica (omega (arith, within)) (λ also same. other (sym same))
              (quiet more frame replica (omega (arith, within)) (omega (arith, place, few)) (omega (arith, place)));
        }
    | inr none ↦
        let rest = all_but_one more frame (omega (arith, within)) (omega (arith, few)) in
        record {
          one = rest.one;
          others =
              λ replica other. healthy_more more frame replica (omega (arith, within)) (λ comes. cc) (rest.others replica other);
        }
  ]

  -- with fewer than three replicas all are healthy
  all_healthy : (more frame replica : ℕ) → frame ≤ frames → plan.replicas < 3 → is_healthy_for plan more (past_of history frame) replica ≡ true
  all_healthy zero frame replica within fewer = refl
  all_healthy (suc more) zero replica within fewer = refl
  all_healthy (suc more) (suc frame) replica within fewer =
      healthy_more more frame replica (omega (arith, within))
      (λ comes. absurd (omega (arith, three_replicas plan recovery frame comes, fewer)))
      (all_healthy more frame replica (omega (arith, within)) fewer)

  majority : (frame : ℕ) → frame ≤ frames → HasHealthyMajority plan recovery (past_of history frame)
  majority frame within = elim (cases_lt plan.replicas 3) [
    | inl fewer ↦
        omega (
          arith,
          is.some_replicas,
          count_all 0 plan.replicas (is_healthy_for plan (suc recovery) (past_of history frame)) (λ replica any. all_healthy (suc recovery) frame replica within fewer),
        )
    | inr many ↦
        let but = all_but_one (suc recovery) frame within (omega arith) in
        omega (
          arith,
          many,
          count_but_one 0 plan.replicas but.one (is_healthy_for plan (suc recovery) (past_of history frame)) but.others,
        )
  ]

  -- the guard holds after each number of frames
  pub guard_holds : (frame : ℕ) → frame ≤ frames → MeetsGuard plan recovery (past_of history frame)
  guard_holds zero within = tt
  guard_holds (suc frame) within =
      let here = past_more history frame (omega (arith, within, history_length plan recovery number frames)) in
      subst (MeetsGuard plan recovery) (sym here)
      (subst (HasHealthyMajority plan recovery) here (majority (suc frame) within), guard_holds frame (omega (arith, within)))
