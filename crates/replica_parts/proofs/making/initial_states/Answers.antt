use Rattle.std.proofs.Common.{subst}
use Rattle.std.specs.Prelude.{IfOk}
use Rattle.rcp_model.specs.declared.plan.PlanParts.{PlanParts}
use Rattle.replica_parts.specs.Rooms.{AreStates}
use Rattle.replica_parts.specs.Setting.{IsSettingOf}
use Rattle.replica_parts.specs.declared.setting.Setting.{Setting}
use Rattle.replica_parts.proofs.making.initial_states.Goals as goal

pub returns-clause-room : goal.returns-clause-room
returns-clause-room c = subst (λ (p : PlanParts). IfOk c.states_of.result (λ held. (setting : Setting) → IsSettingOf p setting → AreStates setting held.items)) c.parts.ensures.parts c.states_of.ensures.room
