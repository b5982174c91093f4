use Rattle.rcp_base.specs.Filling.{Filled}
use Rattle.rcp_model.specs.System.{state_after_rows}
use Rattle.rcp_model.specs.declared.plan.PlanParts.{PlanParts}
use Rattle.replica_parts.specs.Ballots.{AreBallots}
use Rattle.replica_parts.specs.Rooms.{AreStates}
use Rattle.replica_parts.specs.Setting.{IsSettingOf}
use Rattle.replica_parts.specs.States.{no_state, state_after_vote}
use Rattle.std.proofs.Common.{Option, get_or, ℕ}
use Rattle.rcp_model.specs.Ballot as model
use Rattle.replica_parts.proofs.holding.hold_all.Given as goal

abbrev pub invariant-loop-replica : goal.invariant-loop-replica
invariant-loop-replica l = record {
  held : (plan : PlanParts) (voted : ℕ → Option model.Ballot) → IsSettingOf plan l.setting → AreBallots plan.replicas l.ballots voted
      → Filled l.setting.replicas (λ (p : ℕ). state_after_rows plan l.input p (state_after_vote plan (voted p) (get_or l.initial.held.items p no_state))) no_state l.initial.held.items l.held.items l.replica;
  cells : AreStates l.setting l.held.items;
}
