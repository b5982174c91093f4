use Rattle.frame_table.specs.Plan.{IsOf}
use Rattle.rcp_base.proofs.FillLaws.{filled_more}
use Rattle.rcp_model.specs.Uniprocessor.{ProcessorState}
use Rattle.replica_parts.proofs.ComputingLemmas.{filled_map, length-state_after_compute}
use Rattle.replica_parts.proofs.RoomLemmas.{each_set}
use Rattle.replica_parts.specs.Rooms.{HasCells}
use Rattle.replica_parts.specs.States.{no_state, state_after_compute}
use Rattle.std.proofs.Common.{ap, arith, length, subst, sym, ◌<◌, ◌∙◌}
use Rattle.std.proofs.lemmas.List.{get_or_read}
use Rattle.replica_parts.proofs.computing.compute_all.Goals as goal

pub loop-replica-preserved : goal.loop-replica-preserved
loop-replica-preserved c =
    let inside : c.loop-replica.replica < length c.args.held.now = omega (arith, c.loop-replica-test.true, c.requires.held.size) in
    let read = get_or_read c.args.held.now c.loop-replica.replica c.index-held-number.result inside c.index-held-number.is no_state in
    record {
      computed = λ plan t. filled_more _ _ no_state _ _ c.loop-replica.replica _ (c.loop-replica.invariant.computed plan t) c.loop-replica-test.true
          (c.compute.ensures.computed plan (subst (IsOf plan) (sym c.loop-replica.invariant.kept) t) ∙ ap (state_after_compute plan c.args.sensors.now) read);
      kept = c.compute.ensures.table ∙ c.loop-replica.invariant.kept;
      room = each_set c.args.setting.now.replicas (HasCells c.args.setting.now) c.loop-replica.computed.items c.loop-replica.replica c.compute.new.computed c.loop-replica.invariant.room
          (let p = c.requires.plan in ap (λ (h : ProcessorState). length h.cells) (c.compute.ensures.computed p.0 (subst (IsOf p.0) (sym c.loop-replica.invariant.kept) p.1)) ∙ length-state_after_compute p.0 _ _ ∙ ap (λ (h : ProcessorState). length h.cells) read ∙ c.requires.held.each c.loop-replica.replica no_state inside);
    }

pub returns-clause-computed : goal.returns-clause-computed
returns-clause-computed c = λ plan t. filled_map (state_after_compute plan c.args.sensors.now) c.args.held.now _ no_state no_state _ _ c.loop-replica.replica c.requires.held.size (c.loop-replica.invariant.computed plan t) c.loop-replica-test.false
