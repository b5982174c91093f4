use Rattle.std.proofs.Common.{ap, arith, ◌∙◌}
use Rattle.clocked_layer.proofs.Interleavings.{initial_ready}
use Rattle.clocked_layer.specs.Clocked.{most_events}
use Rattle.event_queue.specs.Agenda.{EventQueue}
use Rattle.rcp_model.specs.declared.plan.PlanParts.{PlanParts}
use Rattle.clocked_layer.proofs.clocked.Clocked.new.Goals as goal

pub returns-clause-rests : goal.returns-clause-rests
returns-clause-rests g c =
    let most = c.most_events-most.ensures
    ∙ ap (λ (parts : PlanParts). most_events parts.replicas) c.parts.ensures.parts in
    record {
      at = c.in_ok-machine.ensures;
      ready = initial_ready c.args.plan.now;
      none = ap (λ (q : EventQueue). q.left) c.in_ok-agenda.ensures;
      spare = ap (λ (q : EventQueue). q.spare) c.in_ok-agenda.ensures ∙ most;
      room = omega (arith, c.in_ok-taken.ensures.exact, most);
    }
