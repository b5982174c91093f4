-- A frame with one row of each kind, read back.
-- This project's own.
use Rattle.std.proofs.Common.{◌≡◌, refl, ℕ, ℤ, Bool, true, false, pos, neg_ℤ, List, [], ◌∷◌, Option, Some, None}
use Rattle.rcp_base.specs.Tables.{table}
use Rattle.rcp_model.specs.FrameRows.{FrameRows, is_down, slot_row, cell_row, act_row, lie_row, lie_slot_row, is_dropped, skew_of, rate_of, delay_of, no_rows, AreRowsOf}
use Rattle.rcp_model.specs.RowWrites.{with_sensor, with_down, with_slot, with_skew, with_rate, with_cell, with_act, with_lie_slot, with_drop, with_delay, with_lie}
use Rattle.rcp_model.proofs.ExamplePlans.{position_cell, error_cell, sum_cell, motor_plan}
use Rattle.rcp_model.proofs.ExampleRuns.{definitions}

abbrev overwrites : FrameRows → FrameRows
overwrites rows =
    with_act (with_slot (with_cell (with_cell (with_down rows 1) 1 error_cell (pos 3)) 2 position_cell (pos 4)) 2 1) 1 0 (pos 5)

abbrev clocks : FrameRows → FrameRows
clocks rows = with_delay (with_rate (with_skew rows 2 (neg_ℤ (pos 20))) 0 (pos 30)) 2 1 (pos 200)

abbrev messages : FrameRows → FrameRows
messages rows =
    with_lie (with_lie (with_lie_slot (with_drop rows 0 2) 1 2 1) 1 0 sum_cell (pos 6)) 2 1 position_cell (pos 7)

abbrev of_each_kind : FrameRows
of_each_kind = with_sensor (messages (clocks (overwrites (no_rows motor_plan (pos 0 ∷ []))))) 0 (pos 8)

-- three values, and three rows of them
abbrev three : {X : Type 0} → (ℕ → X) → List X
three f = table 3 f

abbrev nine : {X : Type 0} → (ℕ → ℕ → X) → List (List X)
nine f = three (λ row. three (f row))

abbrev nothing : {X : Type 0} → List (Option X)
nothing = None ∷ None ∷ None ∷ []

overwrites_are_read :
    (of_each_kind.sensors ≡ pos 8 ∷ [])
    × (three (is_down of_each_kind) ≡ false ∷ true ∷ false ∷ [])
    × (three (slot_row of_each_kind) ≡ None ∷ None ∷ Some 1 ∷ [])
    × (nine (cell_row of_each_kind) ≡ nothing ∷ (None ∷ Some (pos 3) ∷ None ∷ []) ∷ (Some (pos 4) ∷ None ∷ None ∷ []) ∷ [])
    × (three (λ replica. act_row of_each_kind replica 0) ≡ None ∷ Some (pos 5) ∷ None ∷ [])
unfolding definitions
overwrites_are_read = (refl, refl, refl, refl, refl)

abbrev least : List ℤ
least = pos 100 ∷ pos 100 ∷ pos 100 ∷ []

clocks_are_read :
    (three (skew_of of_each_kind) ≡ pos 0 ∷ pos 0 ∷ neg_ℤ (pos 20) ∷ [])
    × (three (rate_of of_each_kind) ≡ pos 30 ∷ pos 0 ∷ pos 0 ∷ [])
    × (nine (delay_of of_each_kind) ≡ least ∷ least ∷ (pos 100 ∷ pos 200 ∷ pos 100 ∷ []) ∷ [])
unfolding definitions
clocks_are_read = (refl, refl, refl)

abbrev never : List Bool
never = false ∷ false ∷ false ∷ []

-- by sender and receiver, and for each sender by receiver and cell
messages_are_read :
    (nine (is_dropped of_each_kind) ≡ (false ∷ false ∷ true ∷ []) ∷ never ∷ never ∷ [])
    × (nine (lie_slot_row of_each_kind) ≡ nothing ∷ (None ∷ None ∷ Some 1 ∷ []) ∷ nothing ∷ [])
    × (nine (lie_row of_each_kind 0) ≡ nothing ∷ nothing ∷ nothing ∷ [])
    × (nine (lie_row of_each_kind 1) ≡ (None ∷ None ∷ Some (pos 6) ∷ []) ∷ nothing ∷ nothing ∷ [])
    × (nine (lie_row of_each_kind 2) ≡ nothing ∷ (Some (pos 7) ∷ None ∷ None ∷ []) ∷ nothing ∷ [])
unfolding definitions
messages_are_read = (refl, refl, refl, refl, refl)

they_are_rows_of_the_plan : AreRowsOf motor_plan of_each_kind
unfolding definitions
they_are_rows_of_the_plan = record {
  replicas = refl;
  cells = refl;
  actuators = refl;
  delay_min = refl;
  sensors = refl;
  tables = record {
    downs = refl;
    slots = refl;
    skews = refl;
    rates = refl;
    cell_values = refl;
    acts = refl;
    lie_slots = refl;
    drops = refl;
    delays = refl;
    lies = refl;
  };
}
