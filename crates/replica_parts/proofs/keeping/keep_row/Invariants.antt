use Rattle.rcp_base.specs.Filling.{Filled}
use Rattle.rcp_model.specs.System.{still_on_its_way}
use Rattle.rcp_model.specs.TimingRules.{frame_length}
use Rattle.rcp_model.specs.declared.plan.PlanParts.{PlanParts}
use Rattle.replica_parts.specs.Places.{letters_in}
use Rattle.replica_parts.specs.Rooms.{ArePosts}
use Rattle.std.proofs.Common.{None, get_or, pos, ℕ, ◌*ℤ◌, ◌+◌, ◌-ℤ◌, ◌≡◌}
use Rattle.replica_parts.proofs.keeping.keep_row.Given as goal

abbrev pub invariant-loop-sender : goal.invariant-loop-sender
invariant-loop-sender l = record {
  letters : (plan : PlanParts) (frame : ℕ) → l.end ≡ (pos (frame + 1) *ℤ frame_length plan.timing) -ℤ plan.timing.skew_limit
      → Filled l.setting.replicas (λ (k : ℕ). still_on_its_way plan frame (get_or (letters_in l.initial.row.items) k None)) None (letters_in l.initial.row.items) (letters_in l.row.items) l.sender;
  room : ArePosts l.setting l.row.items;
}
