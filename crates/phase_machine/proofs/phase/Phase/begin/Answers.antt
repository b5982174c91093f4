use Rattle.phase_machine.proofs.SeatLemmas.{begun_shown}
use Rattle.phase_machine.specs.Phase.{ShowsSeat}
use Rattle.phase_machine.specs.declared.phase.Phase.{Phase}
use Rattle.std.proofs.Common.{subst}
use Rattle.phase_machine.proofs.phase.Phase.begin.Goals as goal

pub returns-in-Computing-clause-shows : goal.returns-in-Computing-clause-shows
returns-in-Computing-clause-shows c = λ plan replica seat shows waits code.
    let rows = c.args.input.now in
    begun_shown plan rows replica seat c.in-Computing.phase c.begin.result
    (λ before at. c.begin.ensures.computed plan replica before at code) waits
    (subst (λ (x : Phase). ShowsSeat plan rows replica x seat) c.in-Computing.is shows)
