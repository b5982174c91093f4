use Rattle.clocked_layer.proofs.ClockedLemmas.{shows_some}
use Rattle.clocked_layer.proofs.MachineLemmas.{unread_rows, waits_there}
use Rattle.phase_machine.specs.Seats.{waiting_seat}
use Rattle.clocked_layer.proofs.clocked.ClockedStepped.box_slot.Goals as goal

pub box_slot-requires : goal.box_slot-requires
box_slot-requires g c =
    let there = shows_some c.args.self.now c.requires.0 c.args.to c.phase.result.now
    c.phase.ensures c.resting_replicas_wait.ensures c.requires.1 c.requires.2 in
    (c.requires.0, there.0, c.args.to, there.1, there.2, c.requires.3)

pub returns-clause-rests : goal.returns-clause-rests
returns-clause-rests g c plan state mail rests to from =
    c.box_slot.ensures plan unread_rows c.args.to (waiting_seat state c.args.to (mail c.args.to))
    (waits_there c.args.self.now.machine plan c.args.to c.phase.result.now c.phase.ensures
    c.resting_replicas_wait.ensures state mail rests.at to)
