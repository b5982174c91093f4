use Rattle.phase_machine.proofs.PlaceLemmas.{or_none}
use Rattle.rcp_base.proofs.FillLaws.{filled_all, filled_more}
use Rattle.std.proofs.Common.{None, arith, ◌∙◌}
use Rattle.phase_machine.proofs.commanding.take_rows.Goals as goal

pub loop-actuator-preserved : goal.loop-actuator-preserved
loop-actuator-preserved c = record {
  commands = filled_more _ _ None _ _ c.loop-actuator.actuator _ c.loop-actuator.invariant.commands
      (omega (arith, c.loop-actuator-test.true, c.actuators-actuator-end.ensures))
      (c.act.ensures ∙ or_none _);
}

pub returns-clause-commands : goal.returns-clause-commands
returns-clause-commands c =
    filled_all _ _ None _ _ c.loop-actuator.actuator c.loop-actuator.invariant.commands
    (omega (arith, c.loop-actuator-test.false, c.actuators-actuator-end.ensures))
