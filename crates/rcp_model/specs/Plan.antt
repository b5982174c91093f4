-- What a plan keeps: every rule of a task file but that of its vote pattern.
-- After NASA TM-102716; names, lengths and limits are this project's own.
use Rattle.std.specs.Prelude.{ℕ, ◌<◌, ◌≤◌, ◌≡◌, ◌≢◌, pos, Bool, true, ◌&&◌, nat_lt, int_le, List, ◌++◌, length, map, slice_index_or, All, AllPairs, Option, IfSome}
use Rattle.std.specs.List.{list_all}
use Rattle.rcp_base.specs.Name.{is_name}
use Rattle.rcp_base.specs.declared.TheConstants.{MAX_REPLICAS, MAX_SENSORS, MAX_CELLS, MAX_TASKS, MAX_SLOTS, MAX_ACTUATORS, MAX_RECOVERY}
use Rattle.rcp_model.specs.declared.expr.Expr.{Expr, fold-Expr}
use Rattle.rcp_model.specs.declared.expr.Expr.TheOpen.{Expr-F}
use Rattle.rcp_model.specs.declared.task.LetRow.{LetRow}
use Rattle.rcp_model.specs.declared.task.Task.{Task}
use Rattle.rcp_model.specs.declared.plan.Variable.{Variable}
use Rattle.rcp_model.specs.declared.plan.SlotRow.{SlotRow}
use Rattle.rcp_model.specs.declared.plan.ActuatorRow.{ActuatorRow}
use Rattle.rcp_model.specs.declared.plan.PlanParts.{PlanParts}
use Rattle.rcp_model.specs.Slot.{numbered}
use Rattle.rcp_model.specs.TimingRules.{AreInRange, KeepsRules}

-- one level names nothing but these numbers of sensors, cells and lets, and has no number below 0
abbrev pub is_over_step : ℕ → ℕ → ℕ → Expr-F Bool → Bool
is_over_step sensors cells lets (Expr-F.Number n) = int_le (pos 0) n
is_over_step sensors cells lets (Expr-F.Sensor i) = nat_lt i sensors
is_over_step sensors cells lets (Expr-F.Cell i) = nat_lt i cells
is_over_step sensors cells lets (Expr-F.Let i) = nat_lt i lets
is_over_step sensors cells lets (Expr-F.Neg x) = x
is_over_step sensors cells lets (Expr-F.Not x) = x
is_over_step sensors cells lets (Expr-F.Abs x) = x
is_over_step sensors cells lets (Expr-F.Two op a b) = a && b
is_over_step sensors cells lets (Expr-F.Clamp x low high) = x && low && high
is_over_step sensors cells lets (Expr-F.If test a b) = test && a && b

-- an expression over so many sensors, cells and lets
abbrev pub is_over : ℕ → ℕ → ℕ → Expr → Bool
is_over sensors cells lets = fold-Expr Bool (is_over_step sensors cells lets)

-- names, none of which stands twice
pub record AreNames (names : List (List ℕ)) : Type 0 where
  pub each : list_all is_name names ≡ true
  pub distinct : AllPairs (λ a b. a ≢ b) names

abbrev pub variable_names : List Variable → List (List ℕ)
variable_names variables = map (λ variable. variable.name) variables

abbrev pub actuator_names : List ActuatorRow → List (List ℕ)
actuator_names actuators = map (λ actuator. actuator.name) actuators

-- a let reads the lets before it
abbrev pub LetsReadEarlier : ℕ → ℕ → List LetRow → Type 0
LetsReadEarlier sensors cells rows = (i : ℕ) (other : LetRow) → i < length rows → is_over sensors cells i (slice_index_or rows i other).value ≡ true

-- a task over these names: lets with new names, each over those before it, and sets over all lets, each of a cell of its own
pub record IsTaskOver (sensors cells : List (List ℕ)) (task : Task) : Type 0 where
  pub names : AreNames (sensors ++ cells ++ map (λ row. row.name) task.lets)
  pub lets : LetsReadEarlier (length sensors) (length cells) task.lets
  pub values : All (λ row. is_over (length sensors) (length cells) (length task.lets) row.value ≡ true) task.sets
  pub targets : All (λ row. row.cell < length cells) task.sets
  pub apart : AllPairs (λ a b. a.cell ≢ b.cell) task.sets

-- no two tasks of a slot set one cell
abbrev pub SetApart : List Task → Type 0
SetApart tasks = AllPairs (λ a b. All (λ x. All (λ y. x.cell ≢ y.cell) b.sets) a.sets) tasks

-- a slot of so many tasks and cells: at most 128 tasks and 64 votes, none of which stands twice
pub record IsSlotOver (tasks : List Task) (cells : ℕ) (slot : SlotRow) : Type 0 where
  pub few_tasks : length slot.tasks ≤ MAX_TASKS
  pub few_votes : length slot.votes ≤ MAX_CELLS
  pub tasks_there : All (λ number. number < length tasks) slot.tasks
  pub votes_there : All (λ number. number < cells) slot.votes
  pub tasks_distinct : AllPairs (λ a b. a ≢ b) slot.tasks
  pub votes_distinct : AllPairs (λ a b. a ≢ b) slot.votes
  pub apart : SetApart (numbered tasks slot.tasks)

-- from one to so many
pub record AreUpTo {X : Type 0} (most : ℕ) (xs : List X) : Type 0 where
  pub some : 1 ≤ length xs
  pub few : length xs ≤ most

-- the numbers of cells that are voted by the median, rising
pub record AreMedians (cells : ℕ) (medians : List ℕ) : Type 0 where
  pub there : All (λ cell. cell < cells) medians
  pub rising : AllPairs (λ a b. a < b) medians

-- a limit on the recovery length, or none
abbrev pub IsRecoveryLimit : Option ℕ → Type 0
IsRecoveryLimit limit = IfSome limit (λ nodes. (1 ≤ nodes) × (nodes ≤ MAX_RECOVERY))

-- the parts keep every rule of a task file but that of the vote pattern
pub record IsPlan (parts : PlanParts) : Type 0 where
  pub some_replicas : 1 ≤ parts.replicas
  pub few_replicas : parts.replicas ≤ MAX_REPLICAS
  pub timing_range : AreInRange parts.timing
  pub timing_rules : KeepsRules parts.timing
  pub sensors : length parts.sensors ≤ MAX_SENSORS
  pub cells : AreUpTo MAX_CELLS parts.cells
  pub tasks : AreUpTo MAX_TASKS parts.tasks
  pub slots : AreUpTo MAX_SLOTS parts.slots
  pub actuators : length parts.actuators ≤ MAX_ACTUATORS
  pub variables : AreNames (variable_names parts.sensors ++ variable_names parts.cells)
  pub task_names : AreNames (map (λ task. task.name) parts.tasks)
  pub actuator_names : AreNames (actuator_names parts.actuators)
  pub each_task : All (IsTaskOver (variable_names parts.sensors) (variable_names parts.cells)) parts.tasks
  pub each_slot : All (IsSlotOver parts.tasks (length parts.cells)) parts.slots
  pub each_value : All (λ actuator. is_over (length parts.sensors) (length parts.cells) 0 actuator.value ≡ true) parts.actuators
  pub medians : AreMedians (length parts.cells) parts.medians
  pub limit : IsRecoveryLimit parts.recovery_limit
