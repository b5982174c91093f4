use Rattle.phase_machine.proofs.StepLemmas.{stepped_here, stepped_there}
use Rattle.phase_machine.specs.Phase.{RestsPhase, ShowsSeat, rested}
use Rattle.phase_machine.specs.declared.phase.Phase.{Phase}
use Rattle.rcp_model.specs.Messages.{is_up}
use Rattle.std.proofs.Common.{None, cond, subst, sym}
use Rattle.phase_machine.proofs.steps.finish_at.Goals as goal

pub returns-clause-here : goal.returns-clause-here
returns-clause-here c = λ plan seat shows frame stage.
    let q = c.args.replica in
    let rows = c.args.input.now in
    let ballot = cond (is_up plan rows q) seat.ballot None in
    subst (λ (x : Phase). RestsPhase plan q x (rested plan rows q seat ballot))
    (sym (stepped_here _ _ _ q _ _ c.requires.replica
    c.take_at-phase.ensures.moving c.put_at.ensures))
    (c.finish-phase.ensures.rests plan seat
    (subst (λ (x : Phase). ShowsSeat plan rows q x seat) (sym c.take_at-phase.ensures.phase) shows)
    frame stage)

pub returns-clause-others : goal.returns-clause-others
returns-clause-others c = λ other ne.
    stepped_there _ _ _ c.args.replica _ _ other ne
    c.take_at-phase.ensures.moving c.put_at.ensures
