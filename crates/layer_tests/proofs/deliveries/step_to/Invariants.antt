use Rattle.layer_tests.specs.Blocks.{IsOpenFor}
use Rattle.layer_tests.proofs.deliveries.step_to.Given as goal

abbrev pub invariant-loop-event : goal.invariant-loop-event
invariant-loop-event g l = IsOpenFor (g.B.Stepped.runs l.block) l.plan l.input

abbrev pub decreases-loop-event : goal.decreases-loop-event
decreases-loop-event g l = g.B.Stepped.events_left l.block
