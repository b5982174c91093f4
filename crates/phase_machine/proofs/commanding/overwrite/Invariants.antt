use Rattle.phase_machine.specs.Body.{commands_after_rows}
use Rattle.rcp_base.specs.Filling.{Filled}
use Rattle.std.proofs.Common.{None, get_or, ℕ}
use Rattle.phase_machine.proofs.commanding.overwrite.Given as goal

abbrev pub invariant-loop-actuator : goal.invariant-loop-actuator
invariant-loop-actuator l = record {
  commands : Filled l.setting.actuators
      (commands_after_rows l.input l.replica (λ (a : ℕ). get_or l.initial.commands.items a None))
      None l.initial.commands.items l.commands.items l.actuator;
}
