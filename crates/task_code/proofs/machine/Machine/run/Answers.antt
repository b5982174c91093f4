-- Each instruction has room, and the rest does from the next state what was left to do.
use Rattle.std.proofs.Common.{ℕ, ◌-◌, ◌<◌, ◌∙◌, length, pos, arith}
use Rattle.task_code.specs.Machine.{State, state_of}
use Rattle.task_code.specs.declared.instruction.Instruction.{Instruction}
use Rattle.task_code.specs.declared.instruction.Instruction.TheVariants.{Number}
use Rattle.task_code.proofs.LoopLemmas.{run_on, height_fits, lets_fit, room_later, count_on}
use Rattle.task_code.proofs.machine.Machine.run.Goals as goal

pub act-at-requires-clause-stack : goal.act-at-requires-clause-stack
act-at-requires-clause-stack g c =
    omega (arith, c.loop-instruction.invariant.stack_fits, height_fits c.args.code.now c.loop-instruction.instruction-index (Number (pos 0)) (length c.loop-instruction.stack - c.loop-instruction.at.below) c.loop-instruction.at.lets (omega arith))

pub act-at-requires-clause-lets : goal.act-at-requires-clause-lets
act-at-requires-clause-lets g c =
    omega (arith, c.loop-instruction.invariant.lets_fit, lets_fit c.args.code.now c.loop-instruction.instruction-index (Number (pos 0)) (length c.loop-instruction.stack - c.loop-instruction.at.below) c.loop-instruction.at.lets (omega arith))

pub loop-instruction-preserved : goal.loop-instruction-preserved
loop-instruction-preserved g c =
    let now : State = state_of c.loop-instruction.at c.loop-instruction.stack c.loop-instruction.lets c.loop-instruction.out in
    let later : State = state_of c.act-at.result c.act-at.new.stack c.act-at.new.lets c.act-at.new.out in
    let d : Instruction = Number (pos 0) in
    let height : ℕ = length c.loop-instruction.stack - c.loop-instruction.at.below in
    let later_height : ℕ = length c.act-at.new.stack - c.act-at.result.below in
    let below : c.loop-instruction.instruction-index < length c.args.code.now = omega arith in
    let room = room_later c.args.code.now c.loop-instruction.instruction-index d height c.loop-instruction.at.lets later_height c.act-at.result.lets below c.act-at.ensures.height c.act-at.ensures.lets in
    record {
      whole = run_on c.args.sensors.now c.args.cells.now c.args.code.now c.loop-instruction.instruction-index d now later below c.act-at.ensures.step ∙ c.loop-instruction.invariant.whole;
      left = omega (arith, count_on c.args.code.now c.loop-instruction.instruction-index d below);
      stack_fits = omega (arith, room);
      lets_fit = omega (arith, room);
      below = c.act-at.ensures.below;
      counted = omega arith;
    }
