use Rattle.std.proofs.Common.{Some, arith}
use Rattle.phase_machine.proofs.syncing.Syncing.heard_slot.Goals as goal

pub heard_slot-requires : goal.heard_slot-requires
heard_slot-requires c = (
  c.args.self.now.body.value.setting,
  rw c.deref.ensures c.requires.room.ballot,
  c.requires.from,
)

pub returns : goal.returns
returns c = λ plan replica has h.
    c.heard_slot.ensures plan.replicas (Some has.ballot) (rw c.deref.ensures h.voted)
    (omega (arith, c.requires.from, h.body.setting.replicas))
