use Rattle.phase_machine.proofs.PlaceLemmas.{table_read}
use Rattle.std.proofs.Common.{arith, length}
use Rattle.phase_machine.proofs.computing.Computing.command.Goals as goal

pub returns : goal.returns
returns c = λ plan replica before h.
    table_read c.deref.result.now.commands.items (length plan.actuators) before.commands
    c.args.actuator c.index.result.now (rw c.deref.ensures h.commands)
    (omega (arith, c.requires.actuator, h.body.setting.actuators)) c.index.ensures
