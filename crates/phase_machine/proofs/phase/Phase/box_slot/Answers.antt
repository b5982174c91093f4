use Rattle.phase_machine.proofs.SeatLemmas.{boxes_shown, computed_part, sent_part, voted_part}
use Rattle.phase_machine.specs.Phase.{ShowsSeat}
use Rattle.phase_machine.specs.declared.phase.Phase.{Phase}
use Rattle.rcp_base.specs.Message.{Content}
use Rattle.std.proofs.Common.{option_map, subst, ◌≡◌}
use Rattle.phase_machine.proofs.phase.Phase.box_slot.Goals as goal

pub returns-in-Computing : goal.returns-in-Computing
returns-in-Computing c = λ plan rows replica seat shows.
    boxes_shown plan rows replica seat c.in-Computing.phase
    (λ boxes. c.box_slot.result ≡ option_map (λ (m : Content). m.slot) (boxes c.args.from))
    (c.box_slot.ensures plan replica) seat.stage
    (subst (λ (x : Phase). ShowsSeat plan rows replica x seat) c.in-Computing.is shows)

pub returns-in-Sending : goal.returns-in-Sending
returns-in-Sending c = λ plan rows replica seat shows.
    let at = subst (λ (x : Phase). ShowsSeat plan rows replica x seat) c.in-Sending.is shows in
    c.box_slot-in-Sending.ensures plan replica (computed_part seat) at.1

pub returns-in-Voting : goal.returns-in-Voting
returns-in-Voting c = λ plan rows replica seat shows.
    let at = subst (λ (x : Phase). ShowsSeat plan rows replica x seat) c.in-Voting.is shows in
    c.box_slot-in-Voting.ensures plan replica (sent_part seat at.1) at.3

pub returns-in-Syncing : goal.returns-in-Syncing
returns-in-Syncing c = λ plan rows replica seat shows.
    let at = subst (λ (x : Phase). ShowsSeat plan rows replica x seat) c.in-Syncing.is shows in
    c.box_slot-in-Syncing.ensures plan replica (voted_part plan rows seat at.1) at.3
