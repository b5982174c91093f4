use Rattle.rcp_model.specs.declared.plan.PlanParts.{PlanParts}
use Rattle.replica_parts.specs.Ballots.{IsBallotOrNone, ballot_now, heard_by}
use Rattle.replica_parts.specs.Places.{post_at}
use Rattle.replica_parts.specs.Rooms.{HaveBallotRoom}
use Rattle.replica_parts.specs.Setting.{IsSettingOf}
use Rattle.replica_parts.specs.States.{no_content, no_state}
use Rattle.replica_parts.specs.declared.ballot.Ballot.{Ballot}
use Rattle.std.proofs.Common.{get_or, length, ℕ, ◌<◌, ◌≡◌}
use Rattle.vote_pattern.specs.Votes.{is_in}
use Rattle.replica_parts.proofs.voting.vote_all.Given as goal

abbrev pub invariant-loop-receiver : goal.invariant-loop-receiver
invariant-loop-receiver l = record {
  voted : (plan : PlanParts) → IsSettingOf plan l.setting → (p : ℕ) (d : Ballot) → p < l.receiver
      → IsBallotOrNone plan.replicas (get_or l.ballots.items p d) (ballot_now plan (is_in l.votes) l.input p (get_or l.computed p no_state) (heard_by plan l.frame l.input p (get_or l.own p no_content) (post_at l.fresh p) (post_at l.late p)));
  places : length l.places.items ≡ l.setting.replicas;
  room : HaveBallotRoom l.setting l.ballots.items;
}
