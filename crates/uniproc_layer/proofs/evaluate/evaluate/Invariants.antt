-- The commands so far are in their places, and the table is as it was.
use Rattle.std.proofs.Common.{◌≡◌, ◌<◌, ℕ, pos, get_or}
use Rattle.frame_table.specs.Plan.{IsOf}
use Rattle.rcp_model.specs.declared.plan.PlanParts.{PlanParts}
use Rattle.rcp_model.specs.Slot.{actuator_at, actuator_value}
use Rattle.uniproc_layer.proofs.evaluate.evaluate.Given as goal

abbrev pub invariant-loop-number : goal.invariant-loop-number
invariant-loop-number l = record {
  commands :
      (plan : PlanParts) (k : ℕ) → IsOf plan l.initial.table → k < l.number
      → get_or l.commands k (pos 0) ≡ actuator_value (actuator_at plan k) l.sensors l.cells;
  table : l.table ≡ l.initial.table;
}
