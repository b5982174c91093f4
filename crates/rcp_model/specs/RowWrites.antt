-- The rows of a frame with one row more, and those of the frame that follows. What they then say is the law that each row reads back.
-- This project's own.
use Rattle.std.specs.Prelude.{ℕ, ◌+◌, ◌*◌, true, ℤ, set, Some}
use Rattle.rcp_model.specs.FrameRows.{FrameRows, quiet_rows}

-- the frame that follows: the sensors stay, and all other rows go
unfoldable pub cleared : FrameRows → FrameRows
cleared rows = quiet_rows rows.replicas rows.cells rows.actuators rows.delay_min rows.sensors

-- the rows with one entry more
unfoldable pub with_sensor : FrameRows → ℕ → ℤ → FrameRows
with_sensor rows sensor value = record rows { sensors = set rows.sensors sensor value }

unfoldable pub with_down : FrameRows → ℕ → FrameRows
with_down rows replica = record rows { downs = set rows.downs replica true }

unfoldable pub with_slot : FrameRows → ℕ → ℕ → FrameRows
with_slot rows replica slot = record rows { slots = set rows.slots replica (Some slot) }

unfoldable pub with_skew : FrameRows → ℕ → ℤ → FrameRows
with_skew rows replica ticks = record rows { skews = set rows.skews replica ticks }

unfoldable pub with_rate : FrameRows → ℕ → ℤ → FrameRows
with_rate rows replica ppm = record rows { rates = set rows.rates replica ppm }

unfoldable pub with_cell : FrameRows → ℕ → ℕ → ℤ → FrameRows
with_cell rows replica cell value = record rows { cell_values = set rows.cell_values (replica * rows.cells + cell) (Some value) }

unfoldable pub with_act : FrameRows → ℕ → ℕ → ℤ → FrameRows
with_act rows replica actuator value = record rows { acts = set rows.acts (replica * rows.actuators + actuator) (Some value) }

unfoldable pub with_lie_slot : FrameRows → ℕ → ℕ → ℕ → FrameRows
with_lie_slot rows sender receiver slot = record rows { lie_slots = set rows.lie_slots (sender * rows.replicas + receiver) (Some slot) }

unfoldable pub with_drop : FrameRows → ℕ → ℕ → FrameRows
with_drop rows sender receiver = record rows { drops = set rows.drops (sender * rows.replicas + receiver) true }

unfoldable pub with_delay : FrameRows → ℕ → ℕ → ℤ → FrameRows
with_delay rows sender receiver ticks = record rows { delays = set rows.delays (sender * rows.replicas + receiver) ticks }

unfoldable pub with_lie : FrameRows → ℕ → ℕ → ℕ → ℤ → FrameRows
with_lie rows sender receiver cell value =
    record rows { lies = set rows.lies ((sender * rows.replicas + receiver) * rows.cells + cell) (Some value) }
