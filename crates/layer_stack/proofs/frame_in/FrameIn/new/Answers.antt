use Rattle.std.proofs.Common.{subst}
use Rattle.std.specs.Prelude.{IfOk}
use Rattle.rcp_model.specs.declared.plan.PlanParts.{PlanParts}
use Rattle.rcp_model.specs.FrameLimits.{IsFrameOf}
use Rattle.layer_stack.proofs.FrameLemmas.{first_of_plan}
use Rattle.layer_stack.proofs.frame_in.FrameIn.new.Goals as goal

pub returns-clause-of_plan : goal.returns-clause-of_plan
returns-clause-of_plan c =
    subst (λ (plan : PlanParts). IfOk c.frame_of.result (IsFrameOf plan)) c.parts.ensures.parts
    (first_of_plan c.parts.result.now c.parts.ensures.rules c.frame_of.result c.frame_of.ensures.rows c.frame_of.ensures.of_plan)
