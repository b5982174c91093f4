use Rattle.rcp_base.specs.Tables.{table}
use Rattle.rcp_model.specs.System.{initial_state}
use Rattle.rcp_model.specs.Uniprocessor.{initial_values}
use Rattle.rcp_model.specs.declared.plan.Variable.{Variable}
use Rattle.replica_parts.proofs.RoomLemmas.{initial_room, none_grown, grown}
use Rattle.replica_parts.specs.Rooms.{AreStates}
use Rattle.std.proofs.Common.{ap, List, ◌∙◌, sym, ℕ, subst, rules, ◌≡◌}
use Rattle.replica_parts.proofs.making.states_of.Goals as goal

pub loop-replica-init : goal.loop-replica-init
loop-replica-init c = none_grown _ _ c.new-held.ensures.items

pub loop-replica-preserved : goal.loop-replica-preserved
unfolding initial_state
loop-replica-preserved c = grown _ _ _ _ _ c.loop-replica.invariant (c.in_ok-new.ensures ∙ ap (λ (cells : List Variable). record { slot = 0; cells = initial_values cells }) c.as_slice.ensures) c.in_ok-push.ensures.items

pub returns-clause-room : goal.returns-clause-room
returns-clause-room c = λ setting s.
    let e : c.loop-replica._replica ≡ c.args.parts.now.replicas = search rules in
    subst (AreStates setting) (sym (c.loop-replica.invariant ∙ ap (λ (n : ℕ). table n (initial_state c.args.parts.now).replicas) e)) (initial_room c.args.parts.now setting s)
