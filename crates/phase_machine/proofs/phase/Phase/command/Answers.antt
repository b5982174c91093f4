use Rattle.phase_machine.specs.Phase.{RestsPhase}
use Rattle.phase_machine.specs.declared.phase.Phase.{Phase}
use Rattle.std.proofs.Common.{subst}
use Rattle.phase_machine.proofs.phase.Phase.command.Goals as goal

pub returns-in-Computing : goal.returns-in-Computing
returns-in-Computing c = λ plan replica before rests below.
    c.command.ensures plan replica before
    (subst (λ (x : Phase). RestsPhase plan replica x before) c.in-Computing.is rests)
