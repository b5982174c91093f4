use Rattle.phase_machine.specs.Phase.{RestsPhase}
use Rattle.phase_machine.specs.declared.phase.Phase.{Phase}
use Rattle.std.proofs.Common.{FitsSigned, rules, subst, w64, ◌∙◌}
use Rattle.std.proofs.lemmas.Int.{to_z-of_z}
use Rattle.phase_machine.proofs.phase.Phase.cell.Goals as goal

pub returns-in-Computing : goal.returns-in-Computing
returns-in-Computing c = λ plan replica before rests.
    let fits : FitsSigned w64 c.cell.result = search rules in
    to_z-of_z w64 c.cell.result fits
    ∙ c.cell.ensures plan replica before
    (subst (λ (x : Phase). RestsPhase plan replica x before) c.in-Computing.is rests)
