use Rattle.std.proofs.Common.{◌≡◌, Option, Some, None, IfSome, IfNone, sym, subst}
use Rattle.clocked_layer.specs.Block.{Block, block_after_event}
use Rattle.clocked_layer.specs.Stepped.{Runs}
use Rattle.event_queue.specs.declared.event.Event.{Event}
use Rattle.rcp_model.specs.declared.plan.PlanParts.{PlanParts}
use Rattle.rcp_model.specs.FrameRows.{FrameRows}
use Rattle.layer_tests.specs.Blocks.{IsOpenFor}
use Rattle.layer_tests.proofs.deliveries.take_next.Goals as goal

-- a block that has taken an event, or has none left to take, is open as before
still_open : {B : Type 0} (runs : B → Runs) (old new : B) (plan : PlanParts) (rows : FrameRows)
    (result : Option Event)
    → IfSome result (λ event. (plan : PlanParts) (block : Block)
    → runs old plan rows block → runs new plan rows (block_after_event plan rows block event))
    → IfNone result (new ≡ old) → IsOpenFor (runs old) plan rows → IsOpenFor (runs new) plan rows
still_open runs old new plan rows (Some event) took same before =
    (_, took plan before.0 before.1)
still_open runs old new plan rows None took same before =
    subst (λ b. IsOpenFor (runs b) plan rows) (sym same) before

pub step-requires : goal.step-requires
step-requires g c =
    record { «open» = (c.args.plan.now, c.requires.runs.0, c.requires.runs.1) }

pub returns-clause-runs : goal.returns-clause-runs
returns-clause-runs g c =
    still_open g.B.Stepped.runs c.args.block.now c.step.new.self c.args.plan.now c.args.input.now
    c.step.result c.step.ensures.block c.step.ensures.same c.requires.runs
