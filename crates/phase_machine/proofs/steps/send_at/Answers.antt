use Rattle.phase_machine.proofs.StepLemmas.{stepped_show}
use Rattle.phase_machine.proofs.steps.send_at.Goals as goal

pub returns-clause-show : goal.returns-clause-show
returns-clause-show c = λ plan rows seats all stage same.
    let q = c.args.replica in
    stepped_show plan rows seats q _ _ _ _ _ _ _ all c.requires.replica
    c.take_at-phase.ensures.phase c.take_at-phase.ensures.moving c.put_at.ensures
    (λ at. c.send-phase.ensures.shows plan rows q (seats q) at stage same)
