use Rattle.std.proofs.Common.{Some, arith}
use Rattle.phase_machine.proofs.syncing.Syncing.heard_value.Goals as goal

pub heard_value-requires : goal.heard_value-requires
heard_value-requires c = (
  c.args.self.now.body.value.setting,
  rw c.deref.ensures c.requires.room.ballot,
  c.requires.from,
  c.requires.cell,
)

pub returns : goal.returns
returns c = λ plan replica has h.
    c.heard_value.ensures plan.replicas (Some has.ballot) (rw c.deref.ensures h.voted)
    (omega (arith, c.requires.from, h.body.setting.replicas))
