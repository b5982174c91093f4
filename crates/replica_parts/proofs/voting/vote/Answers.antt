use Rattle.replica_parts.proofs.BallotLaws.{ballot_agrees}
use Rattle.replica_parts.proofs.BallotLemmas.{heard_at}
use Rattle.replica_parts.specs.Ballots.{heard_by}
use Rattle.replica_parts.specs.Places.{letter_at}
use Rattle.vote_pattern.specs.Votes.{is_in}
use Rattle.replica_parts.proofs.voting.vote.Goals as goal

pub returns-clause-ballot : goal.returns-clause-ballot
returns-clause-ballot c = λ plan s.
    ballot_agrees plan (is_in c.args.votes.now) c.args.slot c.args.computed.now _ _ _
    (heard_at plan.replicas c.hear_all.new.places.items (heard_by plan c.args.frame c.args.input.now c.args.receiver c.args.own.now (letter_at c.args.fresh.now) (letter_at c.args.late.now)) (c.hear_all.ensures.heard plan s))
    (c.vote_heard.ensures.ballot plan s)
