use Rattle.phase_machine.proofs.sending.Sending.send.Goals as goal

pub returns-clause-sent : goal.returns-clause-sent
returns-clause-sent c = λ plan replica has h.
    c.send_with.ensures.sent plan replica has (rw c.deref_mut.ensures.value h)

pub returns-clause-out : goal.returns-clause-out
returns-clause-out c = λ plan replica has h.
    c.send_with.ensures.out plan replica has (rw c.deref_mut.ensures.value h)
