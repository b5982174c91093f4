use Rattle.frame_table.specs.Plan.{IsOf}
use Rattle.rcp_base.proofs.FillLaws.{filled_all, filled_more}
use Rattle.rcp_base.specs.Tables.{table}
use Rattle.rcp_model.specs.Command.{command_of}
use Rattle.std.proofs.Common.{None, ap, length-set, subst, sym, ℕ, ◌∙◌}
use Rattle.replica_parts.proofs.commanding.command_row.Goals as goal

pub loop-actuator-preserved : goal.loop-actuator-preserved
loop-actuator-preserved c = record {
  row = λ plan replicas voted t b. filled_more _ _ None _ _ c.loop-actuator.actuator _ (c.loop-actuator.invariant.row plan replicas voted t b) c.loop-actuator-test.true
      (c.command_one.ensures.value plan replicas voted (subst (IsOf plan) (sym c.loop-actuator.invariant.kept) t) b);
  size = length-set _ _ _ ∙ c.loop-actuator.invariant.size;
  kept = c.command_one.ensures.table ∙ c.loop-actuator.invariant.kept;
}

pub returns-clause-row : goal.returns-clause-row
returns-clause-row c = λ plan replicas voted s t b.
    filled_all _ _ None _ _ c.loop-actuator.actuator (c.loop-actuator.invariant.row plan replicas voted t b) c.loop-actuator-test.false
    ∙ ap (λ (n : ℕ). table n (λ (a : ℕ). command_of plan c.args.input.now c.args.replica a voted)) s.actuators
