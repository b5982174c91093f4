use Rattle.std.proofs.Common.{◌<◌, ◌∙◌, ap, subst, sym, arith, length, List, ℤ, Option, Vec}
use Rattle.std.specs.Global.{Global}
use Rattle.replica_parts.specs.Places.{command_rows}
use Rattle.replica_parts.specs.Rooms.{AreCommandRows}
use Rattle.replica_layer.proofs.replicated.ReplicatedLayer.command.Goals as goal

pub command_at-requires : goal.command_at-requires
command_at-requires c =
    let h = c.requires.2 in
    let setting = c.args.self.now.setting in
    let replica : c.args.replica < setting.replicas = omega (arith, c.requires.3, h.setting.replicas) in
    let actuator : c.args.actuator < setting.actuators = omega (arith, c.requires.4, h.setting.actuators) in
    (setting, subst (AreCommandRows setting) (sym c.as_slice.ensures.value) h.room.commands, replica, actuator)

pub returns : goal.returns
returns c = λ plan state h lt below.
    c.command_at.ensures plan.replicas (length plan.actuators) state.commands
    (ap (λ (rows : List (Vec (Option ℤ) Global)). command_rows rows) c.as_slice.ensures.value ∙ h.commands) lt below
