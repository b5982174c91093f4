-- Rows stay rows of a frame of their plan when one more is written, and when all but the sensors go.
use Rattle.std.proofs.Common.{◌≡◌, ◌≢◌, ℕ, ◌<◌, ℤ, length, length-set, ◌∙◌, refl}
use Rattle.std.proofs.lemmas.List.{length-replicate}
use Rattle.rcp_model.specs.declared.plan.PlanParts.{PlanParts}
use Rattle.rcp_model.specs.FrameLimits.{IsWithin, IsDelayOf, IsFrameOf}
use Rattle.rcp_model.specs.FrameRows.{FrameRows, AreTables, AreRowsOf, no_rows}
use Rattle.rcp_model.specs.Plan.{IsPlan}
use Rattle.rcp_model.specs.RowWrites.{with_sensor, with_down, with_slot, with_cell, with_act, with_lie_slot, with_drop, with_skew, with_rate, with_delay, with_lie, cleared}
use Rattle.rcp_model.specs.Slot.{slot_count}
use Rattle.rcp_model.specs.Uniprocessor.{initial_values}
use Rattle.rcp_model.proofs.FrameLimitLaws.{sensor_within, down_within, slot_within, cell_within, act_within, skew_within, rate_within, lie_slot_within, drop_within, delay_within, lie_within, cleared_within, first_within}

-- rows with other tables of the same sizes, and as many sensors
of_sizes : (plan : PlanParts) (rows new : FrameRows) → AreRowsOf plan rows → AreTables new
    → new.replicas ≡ rows.replicas → new.cells ≡ rows.cells → new.actuators ≡ rows.actuators → new.delay_min ≡ rows.delay_min
    → length new.sensors ≡ length rows.sensors → AreRowsOf plan new
of_sizes plan rows new are tables r c a d s = record {
  replicas = r ∙ are.replicas;
  cells = c ∙ are.cells;
  actuators = a ∙ are.actuators;
  delay_min = d ∙ are.delay_min;
  sensors = s ∙ are.sensors;
  tables = tables;
}

module _ (plan : PlanParts) (rows : FrameRows) (are : AreRowsOf plan rows) where
  pub sensor_rows : (sensor : ℕ) (value : ℤ) → AreRowsOf plan (with_sensor rows sensor value)
  unfolding with_sensor
  sensor_rows sensor value = of_sizes plan rows _ are (record {
    downs = are.tables.downs;
    slots = are.tables.slots;
    skews = are.tables.skews;
    rates = are.tables.rates;
    cell_values = are.tables.cell_values;
    acts = are.tables.acts;
    lie_slots = are.tables.lie_slots;
    drops = are.tables.drops;
    delays = are.tables.delays;
    lies = are.tables.lies;
  }) refl refl refl refl (length-set rows.sensors sensor value)

  pub down_rows : (p : ℕ) → AreRowsOf plan (with_down rows p)
  unfolding with_down
  down_rows p = of_sizes plan rows _ are (record {
    downs = length-set _ _ _ ∙ are.tables.downs;
    slots = are.tables.slots;
    skews = are.tables.skews;
    rates = are.tables.rates;
    cell_values = are.tables.cell_values;
    acts = are.tables.acts;
    lie_slots = are.tables.lie_slots;
    drops = are.tables.drops;
    delays = are.tables.delays;
    lies = are.tables.lies;
  }) refl refl refl refl refl

  pub slot_rows : (p slot : ℕ) → AreRowsOf plan (with_slot rows p slot)
  unfolding with_slot
  slot_rows p slot = of_sizes plan rows _ are (record {
    downs = are.tables.downs;
    slots = length-set _ _ _ ∙ are.tables.slots;
    skews = are.tables.skews;
    rates = are.tables.rates;
    cell_values = are.tables.cell_values;
    acts = are.tables.acts;
    lie_slots = are.tables.lie_slots;
    drops = are.tables.drops;
    delays = are.tables.delays;
    lies = are.tables.lies;
  }) refl refl refl refl refl

  pub cell_rows : (p c : ℕ) (x : ℤ) → AreRowsOf plan (with_cell rows p c x)
  unfolding with_cell
  cell_rows p c x = of_sizes plan rows _ are (record {
    downs = are.tables.downs;
    slots = are.tables.slots;
    skews = are.tables.skews;
    rates = are.tables.rates;
    cell_values = length-set _ _ _ ∙ are.tables.cell_values;
    acts = are.tables.acts;
    lie_slots = are.tables.lie_slots;
    drops = are.tables.drops;
    delays = are.tables.delays;
    lies = are.tables.lies;
  }) refl refl refl refl refl

  pub act_rows : (p n : ℕ) (x : ℤ) → AreRowsOf plan (with_act rows p n x)
  unfolding with_act
  act_rows p n x = of_sizes plan rows _ are (record {
    downs = are.tables.downs;
    slots = are.tables.slots;
    skews = are.tables.skews;
    rates = are.tables.rates;
    cell_values = are.tables.cell_values;
    acts = length-set _ _ _ ∙ are.tables.acts;
    lie_slots = are.tables.lie_slots;
    drops = are.tables.drops;
    delays = are.tables.delays;
    lies = are.tables.lies;
  }) refl refl refl refl refl

  pub skew_rows : (p : ℕ) (x : ℤ) → AreRowsOf plan (with_skew rows p x)
  unfolding with_skew
  skew_rows p x = of_sizes plan rows _ are (record {
    downs = are.tables.downs;
    slots = are.tables.slots;
    skews = length-set _ _ _ ∙ are.tables.skews;
    rates = are.tables.rates;
    cell_values = are.tables.cell_values;
    acts = are.tables.acts;
    lie_slots = are.tables.lie_slots;
    drops = are.tables.drops;
    delays = are.tables.delays;
    lies = are.tables.lies;
  }) refl refl refl refl refl

  pub rate_rows : (p : ℕ) (x : ℤ) → AreRowsOf plan (with_rate rows p x)
  unfolding with_rate
  rate_rows p x = of_sizes plan rows _ are (record {
    downs = are.tables.downs;
    slots = are.tables.slots;
    skews = are.tables.skews;
    rates = length-set _ _ _ ∙ are.tables.rates;
    cell_values = are.tables.cell_values;
    acts = are.tables.acts;
    lie_slots = are.tables.lie_slots;
    drops = are.tables.drops;
    delays = are.tables.delays;
    lies = are.tables.lies;
  }) refl refl refl refl refl

  pub lie_slot_rows : (p q slot : ℕ) → AreRowsOf plan (with_lie_slot rows p q slot)
  unfolding with_lie_slot
  lie_slot_rows p q slot = of_sizes plan rows _ are (record {
    downs = are.tables.downs;
    slots = are.tables.slots;
    skews = are.tables.skews;
    rates = are.tables.rates;
    cell_values = are.tables.cell_values;
    acts = are.tables.acts;
    lie_slots = length-set _ _ _ ∙ are.tables.lie_slots;
    drops = are.tables.drops;
    delays = are.tables.delays;
    lies = are.tables.lies;
  }) refl refl refl refl refl

  pub drop_rows : (p q : ℕ) → AreRowsOf plan (with_drop rows p q)
  unfolding with_drop
  drop_rows p q = of_sizes plan rows _ are (record {
    downs = are.tables.downs;
    slots = are.tables.slots;
    skews = are.tables.skews;
    rates = are.tables.rates;
    cell_values = are.tables.cell_values;
    acts = are.tables.acts;
    lie_slots = are.tables.lie_slots;
    drops = length-set _ _ _ ∙ are.tables.drops;
    delays = are.tables.delays;
    lies = are.tables.lies;
  }) refl refl refl refl refl

  pub delay_rows : (p q : ℕ) (x : ℤ) → AreRowsOf plan (with_delay rows p q x)
  unfolding with_delay
  delay_rows p q x = of_sizes plan rows _ are (record {
    downs = are.tables.downs;
    slots = are.tables.slots;
    skews = are.tables.skews;
    rates = are.tables.rates;
    cell_values = are.tables.cell_values;
    acts = are.tables.acts;
    lie_slots = are.tables.lie_slots;
    drops = are.tables.drops;
    delays = length-set _ _ _ ∙ are.tables.delays;
    lies = are.tables.lies;
  }) refl refl refl refl refl

  pub lie_rows : (p q c : ℕ) (x : ℤ) → AreRowsOf plan (with_lie rows p q c x)
  unfolding with_lie
  lie_rows p q c x = of_sizes plan rows _ are (record {
    downs = are.tables.downs;
    slots = are.tables.slots;
    skews = are.tables.skews;
    rates = are.tables.rates;
    cell_values = are.tables.cell_values;
    acts = are.tables.acts;
    lie_slots = are.tables.lie_slots;
    drops = are.tables.drops;
    delays = are.tables.delays;
    lies = length-set _ _ _ ∙ are.tables.lies;
  }) refl refl refl refl refl

module _ (plan : PlanParts) (rows : FrameRows) (h : IsFrameOf plan rows) where
  same_tables : AreTables rows
  same_tables = h.tables.tables

  pub sensor_kept : (sensor : ℕ) (value : ℤ) → IsFrameOf plan (with_sensor rows sensor value)
  unfolding with_sensor
  sensor_kept sensor value = record {
    tables = sensor_rows plan rows h.tables sensor value;
    limits = sensor_within plan rows same_tables h.limits sensor value;
  }

  pub down_kept : (p : ℕ) → p < rows.replicas → IsFrameOf plan (with_down rows p)
  unfolding with_down
  down_kept p a = record {
    tables = down_rows plan rows h.tables p;
    limits = down_within plan rows same_tables h.limits p a;
  }

  pub slot_kept : (p slot : ℕ) → p < rows.replicas → slot < slot_count plan → IsFrameOf plan (with_slot rows p slot)
  unfolding with_slot
  slot_kept p slot a b = record {
    tables = slot_rows plan rows h.tables p slot;
    limits = slot_within plan rows same_tables h.limits p slot a b;
  }

  pub cell_kept : (p c : ℕ) (x : ℤ) → p < rows.replicas → c < rows.cells → IsFrameOf plan (with_cell rows p c x)
  unfolding with_cell
  cell_kept p c x a b = record {
    tables = cell_rows plan rows h.tables p c x;
    limits = cell_within plan rows same_tables h.limits p c x a b;
  }

  pub act_kept : (p n : ℕ) (x : ℤ) → p < rows.replicas → n < rows.actuators → IsFrameOf plan (with_act rows p n x)
  unfolding with_act
  act_kept p n x a b = record {
    tables = act_rows plan rows h.tables p n x;
    limits = act_within plan rows same_tables h.limits p n x a b;
  }

  pub skew_kept : (p : ℕ) (x : ℤ) → p < rows.replicas → IsWithin plan.timing.skew_limit x → IsFrameOf plan (with_skew rows p x)
  unfolding with_skew
  skew_kept p x a b = record {
    tables = skew_rows plan rows h.tables p x;
    limits = skew_within plan rows same_tables h.limits p x a b;
  }

  pub rate_kept : (p : ℕ) (x : ℤ) → p < rows.replicas → IsWithin plan.timing.drift_limit_ppm x → IsFrameOf plan (with_rate rows p x)
  unfolding with_rate
  rate_kept p x a b = record {
    tables = rate_rows plan rows h.tables p x;
    limits = rate_within plan rows same_tables h.limits p x a b;
  }

  pub lie_slot_kept : (p q slot : ℕ) → p < rows.replicas → q < rows.replicas → p ≢ q → slot < slot_count plan → IsFrameOf plan (with_lie_slot rows p q slot)
  unfolding with_lie_slot
  lie_slot_kept p q slot a b d e = record {
    tables = lie_slot_rows plan rows h.tables p q slot;
    limits = lie_slot_within plan rows same_tables h.limits p q slot a b d e;
  }

  pub drop_kept : (p q : ℕ) → p < rows.replicas → q < rows.replicas → p ≢ q → IsFrameOf plan (with_drop rows p q)
  unfolding with_drop
  drop_kept p q a b d = record {
    tables = drop_rows plan rows h.tables p q;
    limits = drop_within plan rows same_tables h.limits p q a b d;
  }

  pub delay_kept : (p q : ℕ) (x : ℤ) → p < rows.replicas → q < rows.replicas → p ≢ q → IsDelayOf plan x → IsFrameOf plan (with_delay rows p q x)
  unfolding with_delay
  delay_kept p q x a b d e = record {
    tables = delay_rows plan rows h.tables p q x;
    limits = delay_within plan rows same_tables h.limits p q x a b d e;
  }

  pub lie_kept : (p q c : ℕ) (x : ℤ) → p < rows.replicas → q < rows.replicas → c < rows.cells → p ≢ q → IsFrameOf plan (with_lie rows p q c x)
  unfolding with_lie
  lie_kept p q c x a b d e = record {
    tables = lie_rows plan rows h.tables p q c x;
    limits = lie_within plan rows same_tables h.limits p q c x a b d e;
  }

  -- the rows of the frame that follows
  pub cleared_kept : IsFrameOf plan (cleared rows)
  unfolding cleared
  cleared_kept = record {
    tables = of_sizes plan rows _ h.tables (record {
      downs = length-replicate _ _;
      slots = length-replicate _ _;
      skews = length-replicate _ _;
      rates = length-replicate _ _;
      cell_values = length-replicate _ _;
      acts = length-replicate _ _;
      lie_slots = length-replicate _ _;
      drops = length-replicate _ _;
      delays = length-replicate _ _;
      lies = length-replicate _ _;
    }) refl refl refl refl refl;
    limits = cleared_within plan rows h.limits;
  }

-- the rows of the first frame
pub first_frame : (plan : PlanParts) → IsPlan plan → AreRowsOf plan (no_rows plan (initial_values plan.sensors)) → IsFrameOf plan (no_rows plan (initial_values plan.sensors))
first_frame plan is are = record {
  tables = are;
  limits = first_within plan (initial_values plan.sensors) is.timing_range is.timing_rules;
}
