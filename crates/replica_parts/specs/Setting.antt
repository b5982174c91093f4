-- What is kept of a plan for all that happens to a replica, but its votes. This project's own.
use Rattle.std.specs.Prelude.{◌≡◌, length}
use Rattle.rcp_base.specs.Tables.{table}
use Rattle.rcp_model.specs.declared.plan.PlanParts.{PlanParts}
use Rattle.rcp_model.specs.Ballot.{is_median}
use Rattle.rcp_model.specs.FrameLimits.{IsFrameOf}
use Rattle.rcp_model.specs.FrameRows.{FrameRows}
use Rattle.rcp_model.specs.Plan.{IsPlan}
use Rattle.rcp_model.specs.Slot.{slot_count}
use Rattle.replica_parts.specs.declared.setting.Setting.{Setting}

-- the setting has the sizes, the timing and the median cells of a plan that keeps its rules
pub record IsSettingOf (plan : PlanParts) (setting : Setting) : Type 0 where
  pub rules : IsPlan plan
  pub replicas : setting.replicas ≡ plan.replicas
  pub cells : setting.cells ≡ length plan.cells
  pub actuators : setting.actuators ≡ length plan.actuators
  pub slots : setting.slots ≡ slot_count plan
  pub timing : setting.timing ≡ plan.timing
  pub medians : setting.medians.items ≡ table (length plan.cells) (is_median plan)

-- it is the setting of some plan
abbrev pub HasPlan : Setting → Type 0
HasPlan setting = (plan : PlanParts) × IsSettingOf plan setting

-- it is the setting of some plan, of a frame of which these are the rows
abbrev pub HasPlanWith : Setting → FrameRows → Type 0
HasPlanWith setting rows = (plan : PlanParts) × IsSettingOf plan setting × IsFrameOf plan rows
