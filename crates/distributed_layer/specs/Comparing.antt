-- Two layers of one plan at one state. This project's own.
use Rattle.rcp_model.specs.declared.plan.PlanParts.{PlanParts}
use Rattle.rcp_model.specs.System.{SystemState}

-- two layers are at the same state
abbrev pub AreBothAt : (PlanParts → SystemState → Type 0) → (PlanParts → SystemState → Type 0)
    → PlanParts → SystemState → Type 0
AreBothAt one other plan state = one plan state × other plan state
