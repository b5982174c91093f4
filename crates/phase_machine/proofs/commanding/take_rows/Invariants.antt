use Rattle.phase_machine.specs.Body.{commands_after_rows}
use Rattle.rcp_base.specs.Filling.{Filled}
use Rattle.std.proofs.Common.{None, ℕ}
use Rattle.phase_machine.proofs.commanding.take_rows.Given as goal

abbrev pub invariant-loop-actuator : goal.invariant-loop-actuator
invariant-loop-actuator l = record {
  commands : Filled l.setting.actuators
      (commands_after_rows l.input l.replica (λ (a : ℕ). None)) None
      l.initial.commands.items l.commands.items l.actuator;
}
