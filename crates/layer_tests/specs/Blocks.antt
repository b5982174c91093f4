-- Blocks of one plan. This project's own.
use Rattle.clocked_layer.specs.Block.{Block}
use Rattle.clocked_layer.specs.Stepped.{Runs}
use Rattle.rcp_model.specs.FrameRows.{FrameRows}
use Rattle.rcp_model.specs.declared.plan.PlanParts.{PlanParts}

-- a block of this plan is open with these rows
abbrev pub IsOpenFor : Runs → PlanParts → FrameRows → Type 0
IsOpenFor runs plan rows = (block : Block) × runs plan rows block
