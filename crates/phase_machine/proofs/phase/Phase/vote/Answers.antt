use Rattle.phase_machine.proofs.SeatLemmas.{sent_part, voted_shown}
use Rattle.phase_machine.specs.Phase.{ShowsSeat}
use Rattle.phase_machine.specs.declared.phase.Phase.{Phase}
use Rattle.std.proofs.Common.{subst}
use Rattle.vote_pattern.specs.Votes.{is_in}
use Rattle.phase_machine.proofs.phase.Phase.vote.Goals as goal

pub returns-in-Voting-clause-shows : goal.returns-in-Voting-clause-shows
returns-in-Voting-clause-shows c = λ plan replica seat shows told code same.
    let rows = c.args.input.now in
    let at = subst (λ (x : Phase). ShowsSeat plan rows replica x seat) c.in-Voting.is shows in
    voted_shown plan rows replica seat c.vote.result (is_in c.args.pattern.now) at.1 same at.2
    (c.vote.ensures.voted plan replica (sent_part seat at.1) at.3 code)
