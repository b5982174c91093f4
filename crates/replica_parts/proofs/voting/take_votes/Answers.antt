use Rattle.rcp_model.specs.Ballot.{voted_cells, taken_slot}
use Rattle.replica_parts.proofs.BallotLemmas.{ballot_over}
use Rattle.replica_parts.specs.Places.{message_at}
use Rattle.replica_parts.specs.declared.ballot.Heard.{Heard}
use Rattle.std.proofs.Common.{ap, List, ◌∙◌}
use Rattle.vote_pattern.specs.Votes.{is_in}
use Rattle.replica_parts.proofs.voting.take_votes.Goals as goal

pub returns-clause-ballot : goal.returns-clause-ballot
returns-clause-ballot c = λ plan s.
    ballot_over plan (is_in c.args.votes.now) c.args.slot c.args.computed.now _ c.args.setting.now.replicas s.replicas c.requires.room.heard.size
    (c.take_slot-ballot.ensures.taken plan s ∙ ap (λ (xs : List Heard). taken_slot plan c.args.slot (message_at xs)) c.as_slice.ensures.value)
    (c.vote_cells.ensures.cells plan s ∙ ap (λ (xs : List Heard). voted_cells plan (is_in c.args.votes.now) c.take_slot-ballot.result (message_at xs) c.args.computed.now) c.as_slice-2.ensures.value)
