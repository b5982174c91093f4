use Rattle.phase_machine.proofs.voting.Voting.vote.Goals as goal

pub returns-clause-voted : goal.returns-clause-voted
returns-clause-voted c = λ plan replica has h code.
    c.vote_with.ensures.voted plan replica has (rw c.deref_mut.ensures.value h) code
