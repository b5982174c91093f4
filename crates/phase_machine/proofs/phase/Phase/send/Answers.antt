use Rattle.phase_machine.proofs.SeatLemmas.{computed_part, sent_shown}
use Rattle.phase_machine.specs.Phase.{ShowsSeat, computed_now}
use Rattle.phase_machine.specs.Seats.{own_now}
use Rattle.phase_machine.specs.declared.phase.Phase.{Phase}
use Rattle.rcp_base.specs.Message.{Content}
use Rattle.replica_parts.specs.States.{message_of}
use Rattle.std.proofs.Common.{Bool, ap, refl, subst, ℕ, ◌∙◌}
use Rattle.vote_pattern.specs.Votes.{is_in}
use Rattle.phase_machine.proofs.phase.Phase.send.Goals as goal

pub returns-in-Sending-clause-shows : goal.returns-in-Sending-clause-shows
returns-in-Sending-clause-shows c = λ plan rows replica seat shows computed same.
    let at = subst (λ (x : Phase). ShowsSeat plan rows replica x seat) c.in-Sending.is shows in (
      refl,
      own_now plan seat,
      refl,
      sent_shown plan rows replica seat c.send.result (is_in c.args.pattern.now) same
          (c.send.ensures.sent plan replica (computed_part seat) at.1),
    )

pub returns-in-Sending-clause-out : goal.returns-in-Sending-clause-out
returns-in-Sending-clause-out c = λ plan rows replica seat shows computed same.
    let at = subst (λ (x : Phase). ShowsSeat plan rows replica x seat) c.in-Sending.is shows in
    c.send.ensures.out plan replica (computed_part seat) at.1
    ∙ ap {B = Content} (λ (v : ℕ → ℕ → Bool). message_of plan v (computed_now seat)) same
