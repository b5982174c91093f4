use Rattle.clocked_layer.proofs.TimedLemmas.{IsOnItsWay}
use Rattle.clocked_layer.specs.Block.{opened_block}
use Rattle.clocked_layer.specs.Ready.{IsTimely}
use Rattle.clocked_layer.specs.Stepped.{IsOpen, Mail}
use Rattle.rcp_model.specs.System.{SystemState}
use Rattle.rcp_model.specs.declared.plan.PlanParts.{PlanParts}
use Rattle.clocked_layer.proofs.timed.take_all.Given as goal

abbrev pub invariant-loop-event : goal.invariant-loop-event
invariant-loop-event g l =
    let B = g.B.Stepped in
    record {
      some : IsOpen (B.runs l.block) l.input;
      way : (plan : PlanParts) (state : SystemState) (mail : Mail) → IsTimely plan l.input state
          → B.runs l.fn.block plan l.input (opened_block plan state l.input mail)
          → IsOnItsWay (B.runs l.block) (B.answers l.fn.block) (B.answers l.block)
          plan state l.input mail (B.log l.block);
    }

abbrev pub decreases-loop-event : goal.decreases-loop-event
decreases-loop-event g l = g.B.Stepped.events_left l.block
