use Rattle.phase_machine.proofs.computing.Computing.begin.Goals as goal

pub returns-clause-computed : goal.returns-clause-computed
returns-clause-computed c = λ plan replica before h code.
    c.begin_with.ensures.computed plan replica before (rw c.deref_mut.ensures.value h) code
