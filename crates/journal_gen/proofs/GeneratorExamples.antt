-- A journal of four frames, by hand: a motor with one sensor, three cells, two slots and three replicas, of recovery length 3.
use Rattle.std.proofs.Common.{◌≡◌, ℕ, List, [], ◌∷◌, pos, refl}
use Rattle.std.specs.Fmt.{digits}
use Rattle.std.specs.Prelude.{codes, None, ◌++◌, ◌+◌, ◌*◌, ◌^◌}
use Rattle.rcp_model.specs.declared.plan.PlanParts.{PlanParts}
use Rattle.rcp_model.specs.declared.plan.SlotRow.{SlotRow}
use Rattle.rcp_model.specs.declared.plan.Variable.{Variable}
use Rattle.journal_gen.specs.Draws.{drawn, next_seed}
use Rattle.journal_gen.specs.Generator.{fault_of, fault_row, fault_rows, has_fault, has_sensor_row, journal_text, row_of_fault, rows_of_frame, seed_after_fault, sensor_row, sensor_rows}
use Rattle.journal_gen.specs.Written.{row_text}

-- a sensor or a cell that begins at 0
abbrev from_zero : List ℕ → Variable
from_zero name = record { name = name; initial = pos 0 }

abbrev idle_slot : SlotRow
idle_slot = record { tasks = []; votes = [] }

-- what the generator reads of a plan: its replicas, sensors, cells and slots
abbrev motor : PlanParts
motor = record {
  replicas = 3;
  timing =
      record {
        compute = pos 30_000;
        broadcast = pos 10_000;
        vote = pos 4_000;
        sync = pos 6_000;
        skew = pos 50;
        drift_ppm = pos 100;
        delay_min = pos 100;
        delay_max = pos 2_000;
        skew_limit = pos 500;
        drift_limit_ppm = pos 500;
      };
  sensors = from_zero (codes "cmd") ∷ [];
  cells = from_zero (codes "pos") ∷ from_zero (codes "err") ∷ from_zero (codes "sum") ∷ [];
  tasks = [];
  slots = idle_slot ∷ idle_slot ∷ [];
  actuators = [];
  medians = [];
  recovery_limit = None;
}

journal_of_seven : journal_text motor 3 7 4
    ≡ codes "frame,kind,a,b,c,d\n"
    ++ codes "0,sensor,cmd,52,,\n"
    ++ codes "2,sensor,cmd,-16,,\n"
    ++ codes "3,cell,2,err,16147,\n"
    ++ codes "4,end,,,,\n"
unfolding journal_text rows_of_frame sensor_rows fault_rows fault_row row_of_fault fault_of sensor_row has_sensor_row seed_after_fault has_fault drawn next_seed row_text digits
journal_of_seven = refl

-- a number is taken modulo 2 ^ 31
journal_of_a_large_number : journal_text motor 3 (7 + 2 ^ 31 * 5) 4 ≡ journal_text motor 3 7 4
unfolding journal_text
journal_of_a_large_number = refl
