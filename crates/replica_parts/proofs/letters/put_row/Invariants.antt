use Rattle.rcp_base.specs.Filling.{Filled}
use Rattle.rcp_model.specs.Messages.{letter_to}
use Rattle.rcp_model.specs.declared.plan.PlanParts.{PlanParts}
use Rattle.replica_parts.specs.Places.{letters_in}
use Rattle.replica_parts.specs.Rooms.{ArePosts}
use Rattle.replica_parts.specs.Setting.{IsSettingOf}
use Rattle.replica_parts.specs.States.{no_content}
use Rattle.std.proofs.Common.{None, get_or, ℕ}
use Rattle.replica_parts.proofs.letters.put_row.Given as goal

abbrev pub invariant-loop-sender : goal.invariant-loop-sender
invariant-loop-sender l = record {
  letters : (plan : PlanParts) → IsSettingOf plan l.setting → Filled l.setting.replicas (λ (sender : ℕ). letter_to plan l.frame l.input (get_or l.own sender no_content) sender l.receiver) None (letters_in l.initial.row.items) (letters_in l.row.items) l.sender;
  room : ArePosts l.setting l.row.items;
}
