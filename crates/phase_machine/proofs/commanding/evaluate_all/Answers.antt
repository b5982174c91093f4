use Rattle.frame_table.specs.Plan.{IsOf}
use Rattle.rcp_base.proofs.FillLaws.{filled_all, filled_more}
use Rattle.std.proofs.Common.{None, Some, arith, length-set, subst, sym, ◌∙◌}
use Rattle.phase_machine.proofs.commanding.evaluate_all.Goals as goal

pub loop-actuator-preserved : goal.loop-actuator-preserved
loop-actuator-preserved c =
    let before = c.loop-actuator.invariant in
    record {
      commands = λ plan replicas voted t b.
          let code = subst (IsOf plan) (sym before.kept) t in
          filled_more _ _ None _ _ c.loop-actuator.actuator _
          (before.commands plan replicas voted t b)
          (omega (arith, c.loop-actuator-test.true, c.actuators-actuator-end.ensures))
          (c.evaluated.ensures.value plan replicas (Some voted) code b);
      size = length-set _ _ _ ∙ before.size;
      kept = c.evaluated.ensures.table ∙ before.kept;
    }

pub returns-clause-commands : goal.returns-clause-commands
returns-clause-commands c = λ plan replicas voted t b.
    filled_all _ _ None _ _ c.loop-actuator.actuator
    (c.loop-actuator.invariant.commands plan replicas voted t b)
    (omega (arith, c.loop-actuator-test.false, c.actuators-actuator-end.ensures))
