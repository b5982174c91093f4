use Rattle.rcp_base.proofs.FillLaws.{filled_all, filled_more}
use Rattle.rcp_base.specs.Tables.{table}
use Rattle.rcp_model.specs.System.{state_after_rows}
use Rattle.rcp_model.specs.Uniprocessor.{ProcessorState}
use Rattle.replica_parts.proofs.RoomLemmas.{each_set}
use Rattle.replica_parts.specs.Ballots.{IsBallotOrNone}
use Rattle.replica_parts.specs.Rooms.{HasCells}
use Rattle.replica_parts.specs.States.{no_state, state_after_vote}
use Rattle.replica_parts.specs.declared.ballot.Ballot.{Ballot}
use Rattle.std.proofs.Common.{ap, arith, get_or, subst, sym, ℕ, ◌∙◌}
use Rattle.std.proofs.lemmas.List.{get_or_read}
use Rattle.replica_parts.proofs.holding.hold_all.Goals as goal

pub loop-replica-preserved : goal.loop-replica-preserved
loop-replica-preserved c = record {
  held = λ plan voted s b.
      let f = c.loop-replica.invariant.held plan voted s b in
      let e = s.replicas in
      let one = subst (λ (x : Ballot). IsBallotOrNone plan.replicas x (voted c.loop-replica.replica)) (sym c.index-ballots-number.is) (b c.loop-replica.replica c.index-ballots-number.result (omega (arith, e, c.loop-replica-test.true))) in
      filled_more _ _ no_state _ _ c.loop-replica.replica _ f c.loop-replica-test.true
      (c.hold_one.ensures.held plan (voted c.loop-replica.replica) s one
      ∙ ap (λ (h : ProcessorState). state_after_rows plan c.args.input.now c.loop-replica.replica (state_after_vote plan (voted c.loop-replica.replica) h)) (get_or_read c.loop-replica.held.items c.loop-replica.replica c.index_mut.result.now (omega (arith, c.loop-replica-test.true, c.loop-replica.invariant.cells.size)) c.index_mut.ensures.value no_state ∙ f.rest c.loop-replica.replica (omega arith)));
  cells = each_set c.args.setting.now.replicas (HasCells c.args.setting.now) c.loop-replica.held.items c.loop-replica.replica c.hold_one.new.held c.loop-replica.invariant.cells c.hold_one.ensures.cells;
}

pub returns-clause-held : goal.returns-clause-held
returns-clause-held c = λ plan voted s b.
    filled_all _ _ no_state _ _ c.loop-replica.replica (c.loop-replica.invariant.held plan voted s b) c.loop-replica-test.false
    ∙ ap (λ (n : ℕ). table n (λ (p : ℕ). state_after_rows plan c.args.input.now p (state_after_vote plan (voted p) (get_or c.args.held.now.items p no_state)))) s.replicas
