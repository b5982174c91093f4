use Rattle.mailbox.specs.Mailboxes.{put}
use Rattle.phase_machine.proofs.SeatLemmas.{computed_part, got_shown, sent_part, voted_part}
use Rattle.phase_machine.specs.Phase.{ShowsSeat}
use Rattle.phase_machine.specs.Phases.{IsComputing, IsSending, IsSyncing, IsVoting}
use Rattle.phase_machine.specs.declared.phase.Phase.{Phase}
use Rattle.rcp_base.specs.Message.{Content}
use Rattle.std.proofs.Common.{Some, subst, sym}
use Rattle.phase_machine.proofs.phase.Phase.deliver.Goals as goal

pub returns-in-Computing : goal.returns-in-Computing
returns-in-Computing c = record {
  shows = λ plan rows replica seat letter shows same.
      got_shown plan rows replica seat c.in-Computing.phase c.deliver.new.self c.args.from letter
      (λ before at. subst (λ (m : Content). IsComputing plan replica c.deliver.new.self
      (record before { boxes = put before.boxes c.args.from (Some m) })) (sym same)
      (c.deliver.ensures plan replica before at)) seat.stage
      (subst (λ (x : Phase). ShowsSeat plan rows replica x seat) c.in-Computing.is shows);
}

pub returns-in-Sending : goal.returns-in-Sending
returns-in-Sending c = record {
  shows = λ plan rows replica seat letter shows same.
      let at = subst (λ (x : Phase). ShowsSeat plan rows replica x seat) c.in-Sending.is shows in
      let has = computed_part seat in (
        at.0,
        subst (λ (m : Content). IsSending plan replica c.deliver-in-Sending.new.self
            (record has { boxes = put seat.boxes c.args.from (Some m) })) (sym same)
            (c.deliver-in-Sending.ensures plan replica has at.1),
      );
}

pub returns-in-Voting : goal.returns-in-Voting
returns-in-Voting c = record {
  shows = λ plan rows replica seat letter shows same.
      let at = subst (λ (x : Phase). ShowsSeat plan rows replica x seat) c.in-Voting.is shows in
      let has = sent_part seat at.1 in (
        at.0,
        at.1,
        at.2,
        subst (λ (m : Content). IsVoting plan replica c.deliver-in-Voting.new.self
            (record has { boxes = put seat.boxes c.args.from (Some m) })) (sym same)
            (c.deliver-in-Voting.ensures plan replica has at.3),
      );
}

pub returns-in-Syncing : goal.returns-in-Syncing
returns-in-Syncing c = record {
  shows = λ plan rows replica seat letter shows same.
      let at = subst (λ (x : Phase). ShowsSeat plan rows replica x seat) c.in-Syncing.is shows in
      let has = voted_part plan rows seat at.1 in (
        at.0,
        at.1,
        at.2,
        subst (λ (m : Content). IsSyncing plan replica c.deliver-in-Syncing.new.self
            (record has { boxes = put seat.boxes c.args.from (Some m) })) (sym same)
            (c.deliver-in-Syncing.ensures plan replica has at.3),
      );
}
