use Rattle.rcp_model.specs.Ballot.{ballot_of}
use Rattle.replica_parts.proofs.BallotLemmas.{none_now, some_now}
use Rattle.replica_parts.specs.Ballots.{IsBallot, heard_by}
use Rattle.replica_parts.specs.Places.{letter_at}
use Rattle.std.proofs.Common.{List, arith, refl, subst, sym, ℕ, ℤ, ◌∙◌}
use Rattle.vote_pattern.specs.Votes.{is_in}
use Rattle.replica_parts.proofs.voting.vote_one.Goals as goal

pub returns-then-down-clause-ballot : goal.returns-then-down-clause-ballot
returns-then-down-clause-ballot c = λ plan s. none_now plan (is_in c.args.votes.now) c.args.input.now c.args.receiver c.args.computed.now (heard_by plan c.args.frame c.args.input.now c.args.receiver c.args.own.now (letter_at c.args.fresh.now) (letter_at c.args.late.now)) _ (sym c.down.ensures ∙ c.if-down.true) refl

pub returns-else-down-clause-ballot : goal.returns-else-down-clause-ballot
returns-else-down-clause-ballot c = λ plan s.
    some_now plan (is_in c.args.votes.now) c.args.input.now c.args.receiver c.args.computed.now (heard_by plan c.args.frame c.args.input.now c.args.receiver c.args.own.now (letter_at c.args.fresh.now) (letter_at c.args.late.now)) _
    (let e = s.replicas in omega (arith, e, c.requires.receiver)) (sym c.down.ensures ∙ c.if-down.false) c.vote.ensures.up
    (subst (λ (k : List ℤ). IsBallot plan.replicas c.vote.new.ballot (ballot_of plan (is_in c.args.votes.now) c.args.computed.now.slot k (heard_by plan c.args.frame c.args.input.now c.args.receiver c.args.own.now (letter_at c.args.fresh.now) (letter_at c.args.late.now)))) c.cells.ensures
    (subst (λ (n : ℕ). IsBallot plan.replicas c.vote.new.ballot (ballot_of plan (is_in c.args.votes.now) n c.cells.result.now (heard_by plan c.args.frame c.args.input.now c.args.receiver c.args.own.now (letter_at c.args.fresh.now) (letter_at c.args.late.now)))) c.slot.ensures
    (c.vote.ensures.ballot plan s)))
