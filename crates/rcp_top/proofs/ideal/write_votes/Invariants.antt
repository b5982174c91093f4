-- After a frame, the lines of the actuators so far were added.
use Rattle.std.proofs.Common.{ℤ, List, ◌∷◌, take, Some}
use Rattle.rcp_base.specs.Adding.{Adds}
use Rattle.rcp_model.specs.Uniprocessor.{ideal_command}
use Rattle.uniproc_layer.specs.Uni.{StandsAfter}
use Rattle.rcp_top.specs.Ideal.{vote_lines}
use Rattle.rcp_top.proofs.ideal.write_votes.Given as goal

abbrev pub invariant-loop-number : goal.invariant-loop-number
invariant-loop-number g l =
    (sensors : List ℤ) (past : List (List ℤ)) → StandsAfter l.plan (sensors ∷ past) l.uni
    → Adds (g.S.Sink.state l.initial.out) (g.S.Sink.state l.out) l.initial.so_far l.so_far
    (vote_lines (take l.number l.plan.actuators) (λ actuator. Some (ideal_command l.plan actuator sensors past)))
