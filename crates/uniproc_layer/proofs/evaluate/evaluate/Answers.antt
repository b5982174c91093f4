-- Each command is in its place.
use Rattle.std.proofs.Common.{arith}
use Rattle.rcp_model.specs.Slot.{actuator_value}
use Rattle.uniproc_layer.proofs.UniLemmas.{values_are}
use Rattle.uniproc_layer.proofs.evaluate.evaluate.Goals as goal

pub returns-clause-commands : goal.returns-clause-commands
returns-clause-commands c plan is_of many =
    values_are (λ actuator. actuator_value actuator c.args.sensors.now c.args.cells.now) plan.actuators c.loop-number.commands
    (omega (arith, c.loop-number.auto.commands, many))
    (λ k below. c.loop-number.invariant.commands plan k is_of (omega (arith, below, c.loop-number-test.false, c.loop-number.auto.commands)))
