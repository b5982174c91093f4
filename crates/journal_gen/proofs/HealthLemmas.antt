-- A replica is healthy in a frame in which no row but those of sensors speaks of it.
use Rattle.std.proofs.Common.{◌≡◌, ℕ, ◌+◌, ◌*◌, ◌/◌, ◌%◌, ◌<◌, List, [], ◌∷◌, get_or, None, option_map, unwrap_or, is_some, is_none, ℤ, pos, int_le, true, false, refl, ap, ◌∙◌, inl, inr, arith}
use Rattle.std.proofs.lemmas.Bool.{cases_lt, cond-true, cond-false, le-ltb, lt-ltb}
use Rattle.std.proofs.lemmas.Int.{ints}
use Rattle.std.proofs.lemmas.List.{get_or_past}
use Rattle.std.proofs.lemmas.Nat.{div-mul-add, mod-mul-add}
use Rattle.std.specs.Prelude.{length, nat_lt, neg_ℤ, ◌≤ℤ◌}
use Rattle.rcp_base.proofs.SearchLaws.{all_pass}
use Rattle.rcp_base.proofs.TableLaws.{get_or-table, length-table}
use Rattle.rcp_base.specs.Answers.{natural_of}
use Rattle.rcp_base.specs.Search.{all_below}
use Rattle.rcp_base.specs.Tables.{table}
use Rattle.rcp_model.specs.declared.plan.PlanParts.{PlanParts}
use Rattle.rcp_model.specs.FrameRows.{act_row, cell_row, delay_of, entry_at, is_down, is_dropped, lie_row, lie_slot_row, rate_of, skew_of, slot_row}
use Rattle.rcp_model.specs.Health.{is_faithful, is_healthy, is_timely, is_untouched, keeps_time}
use Rattle.rcp_model.specs.Plan.{IsPlan}
use Rattle.fault_journal.specs.declared.row.Kind.{Kind}
use Rattle.fault_journal.specs.declared.row.Kind.TheVariants as kind
use Rattle.fault_journal.specs.declared.row.Row.{Row}
use Rattle.fault_journal.specs.History.{frame_of, grid, said, speaks_of}
use Rattle.fault_journal.specs.Journal.{same_kind}
use Rattle.journal_gen.proofs.Each.{Each}

-- a row says nothing of a replica in a frame, unless it is a sensor row
abbrev pub Spares : ℕ → ℕ → Row → Type 0
Spares frame replica row =
    (of : Kind) → same_kind kind.Sensor of ≡ false → (receiver item : ℕ) → speaks_of frame of replica receiver item row ≡ false

-- so nothing is said of it
nothing_said : (rows : List Row) (frame replica : ℕ) → Each (Spares frame replica) rows
    → (of : Kind) → same_kind kind.Sensor of ≡ false → (receiver item : ℕ) → said rows frame of replica receiver item ≡ None
nothing_said [] frame replica spared of other receiver item = refl
nothing_said (row ∷ rows) frame replica spared of other receiver item =
    rw (spared.0 of other receiver item) (nothing_said rows frame replica spared.1 of other receiver item)

-- an entry of a table that is what stands where there is none
at_table : {X : Type 0} (n : ℕ) (f : ℕ → X) (i : ℕ) (d : X) → f i ≡ d → get_or (table n f) i d ≡ d
at_table n f i d own = elim (cases_lt i n) [
  | inl below ↦ get_or-table n f i d below ∙ own
  | inr past ↦ get_or_past (table n f) i d (omega (arith, past, length-table n f))
]

-- the same of a grid
at_grid : {X : Type 0} (rows columns : ℕ) (f : ℕ → ℕ → X) (r c : ℕ) (d : X) → f r c ≡ d → entry_at columns (grid rows columns f) r c d ≡ d
unfolding entry_at
at_grid rows columns f r c d own = elim (cases_lt c columns) [
  | inr past ↦ cond-false (nat_lt c columns) _ d (le-ltb c columns past)
  | inl inside ↦
      cond-true (nat_lt c columns) _ d (lt-ltb c columns inside)
      ∙ at_table (rows * columns) (λ place. f (place / columns) (place % columns)) (r * columns + c) d
      (rw (div-mul-add r columns c inside, mod-mul-add r columns c inside) own)
]

module _ (plan : PlanParts) (is : IsPlan plan) (rows : List Row) (frame replica : ℕ) (spared : Each (Spares frame replica) rows) where
  silent : (of : Kind) → same_kind kind.Sensor of ≡ false → (receiver item : ℕ) → said rows frame of replica receiver item ≡ None
  silent = nothing_said rows frame replica spared

  down_none : is_down (frame_of plan rows frame) replica ≡ false
  unfolding is_down frame_of
  down_none =
      at_table plan.replicas (λ r. is_some (said rows frame kind.Down r 0 0)) replica false (ap is_some (silent kind.Down refl 0 0))

  slot_none : slot_row (frame_of plan rows frame) replica ≡ None
  unfolding slot_row frame_of
  slot_none =
      at_table plan.replicas (λ r. option_map natural_of (said rows frame kind.Slot r 0 0)) replica None (ap (option_map natural_of) (silent kind.Slot refl 0 0))

  cell_none : (cell : ℕ) → cell_row (frame_of plan rows frame) replica cell ≡ None
  unfolding cell_row frame_of
  cell_none cell =
      at_grid plan.replicas (length plan.cells) (λ r c. said rows frame kind.Cell r 0 c) replica cell None (silent kind.Cell refl 0 cell)

  act_none : (actuator : ℕ) → act_row (frame_of plan rows frame) replica actuator ≡ None
  unfolding act_row frame_of
  act_none actuator =
      at_grid plan.replicas (length plan.actuators) (λ r a. said rows frame kind.Act r 0 a) replica actuator None (silent kind.Act refl 0 actuator)

  skew_none : skew_of (frame_of plan rows frame) replica ≡ pos 0
  unfolding skew_of frame_of
  skew_none =
      at_table plan.replicas (λ r. unwrap_or (said rows frame kind.Skew r 0 0) (pos 0)) replica (pos 0) (ap (λ o. unwrap_or o (pos 0)) (silent kind.Skew refl 0 0))

  rate_none : rate_of (frame_of plan rows frame) replica ≡ pos 0
  unfolding rate_of frame_of
  rate_none =
      at_table plan.replicas (λ r. unwrap_or (said rows frame kind.Rate r 0 0) (pos 0)) replica (pos 0) (ap (λ o. unwrap_or o (pos 0)) (silent kind.Rate refl 0 0))

  drop_none : (receiver : ℕ) → is_dropped (frame_of plan rows frame) replica receiver ≡ false
  unfolding is_dropped frame_of
  drop_none receiver =
      at_grid plan.replicas plan.replicas (λ r c. is_some (said rows frame kind.Drop r c 0)) replica receiver false (ap is_some (silent kind.Drop refl receiver 0))

  lie_slot_none : (receiver : ℕ) → lie_slot_row (frame_of plan rows frame) replica receiver ≡ None
  unfolding lie_slot_row frame_of
  lie_slot_none receiver =
      at_grid plan.replicas plan.replicas (λ r c. option_map natural_of (said rows frame kind.LieSlot r c 0)) replica receiver None
      (ap (option_map natural_of) (silent kind.LieSlot refl receiver 0))

  delay_least : (receiver : ℕ) → delay_of (frame_of plan rows frame) replica receiver ≡ plan.timing.delay_min
  unfolding delay_of frame_of
  delay_least receiver =
      at_grid plan.replicas plan.replicas (λ r c. unwrap_or (said rows frame kind.Delay r c 0) plan.timing.delay_min) replica receiver plan.timing.delay_min
      (ap (λ o. unwrap_or o plan.timing.delay_min) (silent kind.Delay refl receiver 0))

  lie_none : (receiver cell : ℕ) → receiver < plan.replicas → lie_row (frame_of plan rows frame) replica receiver cell ≡ None
  unfolding lie_row frame_of
  lie_none receiver cell inside =
      let n = plan.replicas in
      cond-true (nat_lt receiver n) _ None (lt-ltb receiver n inside)
      ∙ at_grid (n * n) (length plan.cells) (λ pair c. said rows frame kind.Lie (pair / n) (pair % n) c) (replica * n + receiver) cell None
      (rw (div-mul-add replica n receiver inside, mod-mul-add replica n receiver inside) (silent kind.Lie refl receiver cell))

  untouched : is_untouched plan (frame_of plan rows frame) replica ≡ true
  unfolding is_untouched
  untouched =
      rw (
        down_none,
        slot_none,
        all_pass (length plan.cells) (λ cell. is_none (cell_row (frame_of plan rows frame) replica cell)) (λ cell below. ap is_none (cell_none cell)),
        all_pass (length plan.actuators) (λ actuator. is_none (act_row (frame_of plan rows frame) replica actuator)) (λ actuator below. ap is_none (act_none actuator)),
      )
      refl

  timely_clock : keeps_time plan (frame_of plan rows frame) replica ≡ true
  unfolding keeps_time
  timely_clock =
      let skew : int_le (pos 0) plan.timing.skew ≡ true = at_least_0 plan.timing.skew is.timing_range.skew.0 in
      let drift : int_le (pos 0) plan.timing.drift_ppm ≡ true = at_least_0 plan.timing.drift_ppm is.timing_range.drift_ppm.0 in
      let back : int_le (neg_ℤ plan.timing.drift_ppm) (pos 0) ≡ true = at_most_0 plan.timing.drift_ppm is.timing_range.drift_ppm.0 in
      rw (skew_none, rate_none, skew, drift, back) refl
    where
      at_least_0 : (x : ℤ) → pos 0 ≤ℤ x → int_le (pos 0) x ≡ true
      at_least_0 x least = grind (arith, ints)

      at_most_0 : (x : ℤ) → pos 0 ≤ℤ x → int_le (neg_ℤ x) (pos 0) ≡ true
      at_most_0 x least = grind (arith, ints)

  faithful : all_below plan.replicas (is_faithful plan (frame_of plan rows frame) replica) ≡ true
  unfolding is_faithful
  faithful =
      all_pass plan.replicas (is_faithful plan (frame_of plan rows frame) replica)
      (λ receiver below.
      rw (
        drop_none receiver,
        lie_slot_none receiver,
        all_pass (length plan.cells) (λ cell. is_none (lie_row (frame_of plan rows frame) replica receiver cell))
            (λ cell within. ap is_none (lie_none receiver cell below)),
      )
      refl)

  timely : all_below plan.replicas (is_timely plan (frame_of plan rows frame) replica) ≡ true
  unfolding is_timely
  timely =
      let least : int_le plan.timing.delay_min plan.timing.delay_min ≡ true = itself plan.timing.delay_min in
      let most : int_le plan.timing.delay_min plan.timing.delay_max ≡ true = at_most plan.timing.delay_min plan.timing.delay_max is.timing_rules.limits_nest.delay in
      all_pass plan.replicas (is_timely plan (frame_of plan rows frame) replica)
      (λ receiver below. rw (delay_least receiver, least, most) refl)
    where
      itself : (x : ℤ) → int_le x x ≡ true
      itself x = grind (arith, ints)

      at_most : (x y : ℤ) → x ≤ℤ y → int_le x y ≡ true
      at_most x y less = grind (arith, ints)

  pub spared_is_healthy : is_healthy plan (frame_of plan rows frame) replica ≡ true
  unfolding is_healthy
  spared_is_healthy = rw (untouched, timely_clock, faithful, timely) refl
