use Rattle.phase_machine.specs.Phases.{OwnsBefore, part_of}
use Rattle.phase_machine.specs.declared.body.Body.{Body}
use Rattle.rcp_model.specs.System.{initial_state}
use Rattle.std.proofs.Common.{None, subst, sym, ℕ}
use Rattle.phase_machine.proofs.computing.Computing.new.Goals as goal

pub returns : goal.returns
unfolding initial_state
returns c =
    let plan = c.args.plan.now in
    let part = part_of (initial_state plan) c.args.replica (λ (sender : ℕ). None) in
    subst (λ (b : Body). OwnsBefore plan c.args.replica b part) (sym c.in_ok-new-2.ensures.ok)
    (record {
      body = c.in_ok-new.ensures.body;
      held = c.in_ok-new.ensures.held;
      boxes = c.in_ok-new.ensures.boxes;
      voted = c.in_ok-new.ensures.voted;
      commands = c.in_ok-new.ensures.commands;
    })
