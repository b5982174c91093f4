use Rattle.phase_machine.proofs.StepLemmas.{stepped_show}
use Rattle.phase_machine.proofs.steps.vote_at.Goals as goal

pub returns-clause-show : goal.returns-clause-show
returns-clause-show c = λ plan seats all stage code same.
    let q = c.args.replica in
    stepped_show plan c.args.input.now seats q _ _ _ _ _ _ _ all c.requires.replica
    c.take_at-phase.ensures.phase c.take_at-phase.ensures.moving c.put_at.ensures
    (λ at. c.vote-phase.ensures.shows plan q (seats q) at stage code same)
