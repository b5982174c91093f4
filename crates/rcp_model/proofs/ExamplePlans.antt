-- Two plans that the examples run: one moves a motor to a commanded position, the other counts frames.
use Rattle.std.proofs.Common.{ℕ, List, [], ◌∷◌, pos}
use Rattle.std.specs.Prelude.{codes, None}
use Rattle.rcp_model.specs.declared.expr.Expr.{Expr}
use Rattle.rcp_model.specs.declared.expr.Expr.TheVariants as expr
use Rattle.rcp_model.specs.declared.expr.Op.TheVariants as op
use Rattle.rcp_model.specs.declared.plan.PlanParts.{PlanParts}
use Rattle.rcp_model.specs.declared.plan.Timing.{Timing}
use Rattle.rcp_model.specs.declared.plan.Variable.{Variable}
use Rattle.rcp_model.specs.declared.task.Task.{Task}

abbrev pub example_timing : Timing
example_timing = record {
  compute = pos 30_000;
  broadcast = pos 10_000;
  vote = pos 4_000;
  sync = pos 6_000;
  skew = pos 50;
  drift_ppm = pos 100;
  delay_min = pos 100;
  delay_max = pos 2_000;
  skew_limit = pos 500;
  drift_limit_ppm = pos 500;
}

-- a sensor or a cell that begins at 0
abbrev from_zero : List ℕ → Variable
from_zero name = record { name = name; initial = pos 0 }

-- a task that sets one cell
abbrev pub sets_one : List ℕ → ℕ → Expr → Task
sets_one name cell value = record { name = name; lets = []; sets = record { cell = cell; value = value } ∷ [] }

-- the cells of the motor plan
abbrev pub position_cell : ℕ
position_cell = 0

abbrev pub error_cell : ℕ
error_cell = 1

abbrev pub sum_cell : ℕ
sum_cell = 2

-- err := cmd - pos;
abbrev pub sense_value : Expr
sense_value = expr.Two op.Sub (expr.Sensor 0) (expr.Cell position_cell)

-- sum := clamp(sum + err, -100, 100);
abbrev pub integrate_value : Expr
integrate_value =
    expr.Clamp (expr.Two op.Add (expr.Cell sum_cell) (expr.Cell error_cell)) (expr.Neg (expr.Number (pos 100))) (expr.Number (pos 100))

-- pos := pos + sum / 2;
abbrev pub move_value : Expr
move_value = expr.Two op.Add (expr.Cell position_cell) (expr.Two op.Div (expr.Cell sum_cell) (expr.Number (pos 2)))

abbrev pub motor_value : Expr
motor_value = expr.Cell sum_cell

-- three replicas; the first slot senses and integrates and votes the sum, the second moves and votes the position
abbrev pub motor_plan : PlanParts
motor_plan = record {
  replicas = 3;
  timing = example_timing;
  sensors = from_zero (codes "cmd") ∷ [];
  cells = from_zero (codes "pos") ∷ from_zero (codes "err") ∷ from_zero (codes "sum") ∷ [];
  tasks =
      sets_one (codes "sense") error_cell sense_value
      ∷ sets_one (codes "integrate") sum_cell integrate_value
      ∷ sets_one (codes "move") position_cell move_value
      ∷ [];
  slots =
      record { tasks = 0 ∷ 1 ∷ []; votes = sum_cell ∷ [] }
      ∷ record { tasks = 2 ∷ []; votes = position_cell ∷ [] }
      ∷ [];
  actuators = record { name = codes "motor"; value = motor_value } ∷ [];
  medians = [];
  recovery_limit = None;
}

-- the cell of the counter plan
abbrev pub number_cell : ℕ
number_cell = 0

-- n := n + 1;
abbrev pub count_value : Expr
count_value = expr.Two op.Add (expr.Cell number_cell) (expr.Number (pos 1))

abbrev pub out_value : Expr
out_value = expr.Cell number_cell

-- so many replicas; the one slot counts and votes the number, by the median where that is named
abbrev pub counter_plan_voting : List ℕ → ℕ → PlanParts
counter_plan_voting medians replicas = record {
  replicas = replicas;
  timing = example_timing;
  sensors = [];
  cells = from_zero (codes "n") ∷ [];
  tasks = sets_one (codes "count") number_cell count_value ∷ [];
  slots = record { tasks = 0 ∷ []; votes = number_cell ∷ [] } ∷ [];
  actuators = record { name = codes "out"; value = out_value } ∷ [];
  medians = medians;
  recovery_limit = None;
}

abbrev pub counter_plan_of : ℕ → PlanParts
counter_plan_of replicas = counter_plan_voting [] replicas

abbrev pub counter_plan : PlanParts
counter_plan = counter_plan_of 3
