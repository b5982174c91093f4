use Rattle.phase_machine.specs.Phase.{AllShow, RestsPhase, ShowsSeat, last_stage, rested}
use Rattle.phase_machine.specs.Seats.{Seat}
use Rattle.phase_machine.specs.declared.phase.Phase.TheVariants.{Moving}
use Rattle.rcp_model.specs.FrameLimits.{IsFrameOf}
use Rattle.rcp_model.specs.Messages.{is_up}
use Rattle.rcp_model.specs.declared.plan.PlanParts.{PlanParts}
use Rattle.std.proofs.Common.{None, cond, get_or, length, ℕ, ◌<◌, ◌≡◌, ◌≤◌}
use Rattle.phase_machine.proofs.steps.finish_all.Given as goal

abbrev pub invariant-loop-replica : goal.invariant-loop-replica
invariant-loop-replica l = record {
  size : length l.phases.items ≡ length l.initial.phases.items;
  left : (plan : PlanParts) (seats : ℕ → Seat) → AllShow plan l.input l.initial.phases.items seats
      → (k : ℕ) → l.replica ≤ k → k < length l.phases.items
      → ShowsSeat plan l.input k (get_or l.phases.items k Moving) (seats k);
  done : (plan : PlanParts) (seats : ℕ → Seat) → AllShow plan l.input l.initial.phases.items seats
      → IsFrameOf plan l.input
      → ((k : ℕ) → (seats k).stage ≡ last_stage (is_up plan l.input k))
      → (k : ℕ) → k < l.replica → RestsPhase plan k (get_or l.phases.items k Moving)
      (rested plan l.input k (seats k) (cond (is_up plan l.input k) (seats k).ballot None));
}
