use Rattle.replica_parts.proofs.BallotLemmas.{ballot_read, ballot_set, row_read}
use Rattle.replica_parts.proofs.RoomLemmas.{each_set}
use Rattle.replica_parts.specs.Ballots.{ballot_now, heard_by}
use Rattle.replica_parts.specs.Places.{letters_in, post_at}
use Rattle.replica_parts.specs.Rooms.{HasBallotRoom}
use Rattle.replica_parts.specs.States.{no_content, no_state}
use Rattle.std.proofs.Common.{arith, get_or}
use Rattle.std.proofs.lemmas.List.{get_or_read}
use Rattle.vote_pattern.specs.Votes.{is_in}
use Rattle.replica_parts.proofs.voting.vote_all.Goals as goal

pub loop-receiver-preserved : goal.loop-receiver-preserved
loop-receiver-preserved c = record {
  voted = λ plan s p d lt.
      ballot_set plan.replicas c.loop-receiver.ballots.items c.loop-receiver.receiver c.vote_one.new.ballot
      (λ q. ballot_now plan (is_in c.args.votes.now) c.args.input.now q (get_or c.args.computed.now q no_state) (heard_by plan c.args.frame c.args.input.now q (get_or c.args.own.now q no_content) (post_at c.args.fresh.now q) (post_at c.args.late.now q)))
      (omega (arith, c.loop-receiver-test.true, c.loop-receiver.invariant.room.size)) (c.loop-receiver.invariant.voted plan s)
      (ballot_read plan (is_in c.args.votes.now) c.args.frame c.args.input.now c.loop-receiver.receiver c.vote_one.new.ballot _ _ _ _ (letters_in c.as_slice.result.now) _ (letters_in c.as_slice-in-loop-receiver.result.now) _
      (get_or_read c.args.computed.now c.loop-receiver.receiver c.index-computed-number.result (omega (arith, c.loop-receiver-test.true, c.requires.computed.size)) c.index-computed-number.is no_state)
      (get_or_read c.args.own.now c.loop-receiver.receiver c.index-own-number.result (omega (arith, c.loop-receiver-test.true, c.requires.own.size)) c.index-own-number.is no_content)
      (row_read c.args.fresh.now c.loop-receiver.receiver c.index-fresh-number.result c.as_slice.result.now (omega (arith, c.loop-receiver-test.true, c.requires.fresh.size)) c.index-fresh-number.is c.as_slice.ensures.value)
      (row_read c.args.late.now c.loop-receiver.receiver c.index-late-number.result c.as_slice-in-loop-receiver.result.now (omega (arith, c.loop-receiver-test.true, c.requires.late.size)) c.index-late-number.is c.as_slice-in-loop-receiver.ensures.value)
      (c.vote_one.ensures.ballot plan s)) p d lt;
  places = c.vote_one.ensures.places;
  room = each_set c.args.setting.now.replicas (HasBallotRoom c.args.setting.now) c.loop-receiver.ballots.items c.loop-receiver.receiver c.vote_one.new.ballot c.loop-receiver.invariant.room c.vote_one.ensures.room;
}

pub returns-clause-ballots : goal.returns-clause-ballots
returns-clause-ballots c = λ plan s p d lt.
    c.loop-receiver.invariant.voted plan s p d (let e = s.replicas in omega (arith, lt, e, c.loop-receiver-test.false))
