-- What a step of a phase makes of the seat that it shows.
use Rattle.std.proofs.Common.{◌≡◌, ◌==◌, ℕ, ℤ, Bool, [], Option, Some, None, unwrap_or, cond, refl, sym, ap, ap₂, subst}
use Rattle.rcp_base.specs.Message.{Content}
use Rattle.mailbox.specs.Mailboxes.{put}
use Rattle.rcp_model.specs.declared.plan.PlanParts.{PlanParts}
use Rattle.rcp_model.specs.Ballot.{Ballot, ballot_of}
use Rattle.rcp_model.specs.Command.{command_of}
use Rattle.rcp_model.specs.FrameRows.{FrameRows}
use Rattle.rcp_model.specs.Messages.{Letter, is_voted}
use Rattle.rcp_model.specs.System.{state_after_rows, state_after_sync}
use Rattle.replica_parts.specs.States.{message_of, state_after_compute, state_after_vote}
use Rattle.phase_machine.specs.Body.{commands_after_rows, heard_with}
use Rattle.phase_machine.specs.Phase.{ShowsComputing, ShowsSeat, computed_now, rested}
use Rattle.phase_machine.specs.Phases.{BeforeFrame, HasComputed, HasSent, HasVoted, IsComputing, IsSending, IsSyncing, IsVoting, evaluated_over, vote_after}
use Rattle.phase_machine.specs.Seats.{Computed, Decided, Finished, Seat, Stage, Told, Waiting, begun_seat, got_seat, heard_now, own_now, synced_seat, voted_seat}
use Rattle.phase_machine.specs.declared.computing.Computing.{Computing}
use Rattle.phase_machine.specs.declared.sending.Sending.{Sending}
use Rattle.phase_machine.specs.declared.syncing.Syncing.{Syncing}
use Rattle.phase_machine.specs.declared.voting.Voting.{Voting}
use Rattle.phase_machine.specs.declared.phase.Phase.TheVariants as phase

-- what a replica that waits has before its frame
abbrev pub waits_with : Seat → Option Ballot → (ℕ → Option ℤ) → BeforeFrame
waits_with seat voted commands =
    record { held = seat.held; boxes = seat.boxes; voted = voted; commands = commands }

-- what it has when it has computed, and when it has sent
abbrev pub computed_part : Seat → HasComputed
computed_part seat = record { computed = computed_now seat; boxes = seat.boxes }

abbrev pub sent_part : Seat → Content → HasSent
sent_part seat own = record { computed = computed_now seat; own = own; boxes = seat.boxes }

-- what it has when it has voted
abbrev pub voted_part : PlanParts → FrameRows → Seat → Ballot → HasVoted
voted_part plan rows seat ballot = record {
  ballot = ballot;
  commands = evaluated_over plan rows.sensors ballot;
  boxes = seat.boxes;
}

module _ (plan : PlanParts) (rows : FrameRows) (replica : ℕ) (seat : Seat) where
  pub begun_shown : (old : Computing) (new : Sending)
      → ((before : BeforeFrame) → IsComputing plan replica old before
      → IsSending plan replica new (record {
        computed = state_after_compute plan rows.sensors before.held;
        boxes = λ sender. None;
      }))
      → seat.stage ≡ Waiting → ShowsComputing plan rows replica old seat seat.stage
      → ShowsSeat plan rows replica (phase.Sending new) (begun_seat plan rows seat)
  begun_shown old new step waits shows =
      let s = subst (λ (at : Stage). ShowsComputing plan rows replica old seat at) waits shows in
      (refl, step (waits_with seat s.0 s.1) s.2)

  pub sent_shown : (new : Voting) (votes : ℕ → ℕ → Bool)
      → ◌≡◌ {A = ℕ → ℕ → Bool} votes (is_voted plan)
      → IsVoting plan replica new (sent_part seat (message_of plan votes (computed_now seat)))
      → IsVoting plan replica new (sent_part seat (own_now plan seat))
  sent_shown new votes same h =
      subst (λ (v : ℕ → ℕ → Bool). IsVoting plan replica new
      (sent_part seat (message_of plan v (computed_now seat)))) same h

  pub voted_shown : (new : Syncing) (votes : ℕ → ℕ → Bool) (own : Content)
      → ◌≡◌ {A = ℕ → ℕ → Bool} votes (is_voted plan) → seat.own ≡ Some own
      → IsSyncing plan replica new
      (voted_part plan rows seat (vote_after plan votes replica (sent_part seat own)))
      → ShowsSeat plan rows replica (phase.Syncing new) (voted_seat plan replica seat)
  voted_shown new votes own same own_is h =
      let heard_is : ◌≡◌ {A = ℕ → Option Content}
      (heard_with replica own seat.boxes) (heard_now replica seat) =
      ap {B = ℕ → Option Content}
      (λ (o : Option Content) (sender : ℕ). cond (sender == replica) o (seat.boxes sender))
      (sym own_is) in
      let ballot_is =
      ap₂ (λ (v : ℕ → ℕ → Bool) (heard : ℕ → Option Content).
      ballot_of plan v seat.held.slot (unwrap_or seat.computed []) heard) same heard_is in (
        refl,
        _,
        refl,
        subst (λ ballot. IsSyncing plan replica new (voted_part plan rows seat ballot)) ballot_is h,
      )

  pub synced_shown : (new : Computing) (ballot : Ballot) → seat.ballot ≡ Some ballot
      → IsComputing plan replica new (record {
        held = state_after_rows plan rows replica (state_after_sync plan ballot);
        boxes = seat.boxes;
        voted = Some ballot;
        commands = commands_after_rows rows replica
            (λ a. Some (evaluated_over plan rows.sensors ballot a));
      })
      → ShowsSeat plan rows replica (phase.Computing new) (synced_seat plan seat)
  unfolding command_of
  synced_shown new ballot is h =
      subst (λ (voted : Option Ballot). IsComputing plan replica new (record {
        held = state_after_rows plan rows replica (state_after_vote plan voted seat.held);
        boxes = seat.boxes;
        voted = voted;
        commands = λ a. command_of plan rows replica a voted;
      })) (sym is) h

  pub skipped_rests : (old new : Computing)
      → ((before : BeforeFrame) → IsComputing plan replica old before
      → IsComputing plan replica new (record {
        held = state_after_rows plan rows replica before.held;
        boxes = before.boxes;
        voted = None;
        commands = commands_after_rows rows replica (λ a. None);
      }))
      → seat.stage ≡ Waiting → ShowsComputing plan rows replica old seat seat.stage
      → IsComputing plan replica new (rested plan rows replica seat None)
  unfolding command_of
  skipped_rests old new step waits shows =
      let s = subst (λ (at : Stage). ShowsComputing plan rows replica old seat at) waits shows in
      step (waits_with seat s.0 s.1) s.2

  -- a replica that waits or has finished, to which a letter comes
  pub got_shown : (old new : Computing) (from : ℕ) (letter : Letter)
      → ((before : BeforeFrame) → IsComputing plan replica old before
      → IsComputing plan replica new
      (record before { boxes = put before.boxes from (Some letter.message) }))
      → (stage : Stage) → ShowsComputing plan rows replica old seat stage
      → ShowsComputing plan rows replica new (got_seat from (Some letter) seat) stage
  got_shown old new from letter step Waiting s = (s.0, s.1, step (waits_with seat s.0 s.1) s.2)
  got_shown old new from letter step Finished s = step (rested plan rows replica seat seat.ballot) s
  got_shown old new from letter step Computed s = s
  got_shown old new from letter step Told s = s
  got_shown old new from letter step Decided s = s

  -- its mailboxes
  pub boxes_shown : (old : Computing) (P : (ℕ → Option Content) → Type 0)
      → ((before : BeforeFrame) → IsComputing plan replica old before → P before.boxes)
      → (stage : Stage) → ShowsComputing plan rows replica old seat stage → P seat.boxes
  boxes_shown old P tells Waiting s = tells (waits_with seat s.0 s.1) s.2
  boxes_shown old P tells Finished s = tells (rested plan rows replica seat seat.ballot) s
  boxes_shown old P tells Computed s = absurd s
  boxes_shown old P tells Told s = absurd s
  boxes_shown old P tells Decided s = absurd s
