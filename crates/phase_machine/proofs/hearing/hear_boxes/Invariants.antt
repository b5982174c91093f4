use Rattle.mailbox.specs.Mailboxes.{box_of}
use Rattle.phase_machine.specs.Body.{heard_with}
use Rattle.rcp_base.specs.Filling.{Filled}
use Rattle.replica_parts.specs.Places.{messages_in}
use Rattle.replica_parts.specs.Rooms.{AreHeard}
use Rattle.std.proofs.Common.{None}
use Rattle.phase_machine.proofs.hearing.hear_boxes.Given as goal

abbrev pub invariant-loop-sender : goal.invariant-loop-sender
invariant-loop-sender l = record {
  heard : Filled l.setting.replicas (heard_with l.replica l.own (box_of l.boxes)) None
      (messages_in l.initial.places.items) (messages_in l.places.items) l.sender;
  room : AreHeard l.setting l.places.items;
}
