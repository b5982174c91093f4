use Rattle.frame_table.specs.Plan.{IsOf}
use Rattle.rcp_base.proofs.FillLaws.{filled_all, filled_seen}
use Rattle.rcp_base.specs.Tables.{table}
use Rattle.rcp_model.specs.Command.{command_of}
use Rattle.replica_parts.proofs.RoomLemmas.{each_set}
use Rattle.replica_parts.specs.Ballots.{IsBallotOrNone}
use Rattle.replica_parts.specs.Rooms.{IsCommandRow}
use Rattle.replica_parts.specs.declared.ballot.Ballot.{Ballot}
use Rattle.std.proofs.Common.{Option, Vec, [], ap, arith, length, subst, sym, ℕ, ℤ, ◌∙◌}
use Rattle.std.specs.Global.{Global}
use Rattle.replica_parts.proofs.commanding.command_all.Goals as goal

pub loop-replica-preserved : goal.loop-replica-preserved
loop-replica-preserved c = record {
  commands = λ plan voted s t b.
      let e = s.replicas in
      let one = subst (λ (x : Ballot). IsBallotOrNone plan.replicas x (voted c.loop-replica.replica)) (sym c.index-ballots-number.is) (b c.loop-replica.replica c.index-ballots-number.result (omega (arith, e, c.loop-replica-test.true))) in
      filled_seen (λ (row : Vec (Option ℤ) Global). row.items) _ _ [] _ _ c.loop-replica.replica c.command_row.new.row (c.loop-replica.invariant.commands plan voted s t b) c.loop-replica-test.true
      (c.command_row.ensures.row plan plan.replicas (voted c.loop-replica.replica) s (subst (IsOf plan) (sym c.loop-replica.invariant.kept) t) one);
  room = each_set c.args.setting.now.replicas (IsCommandRow c.args.setting.now) c.loop-replica.rows.items c.loop-replica.replica c.command_row.new.row c.loop-replica.invariant.room c.command_row.ensures.size;
  kept = c.command_row.ensures.table ∙ c.loop-replica.invariant.kept;
}

pub returns-clause-commands : goal.returns-clause-commands
returns-clause-commands c = λ plan voted s t b.
    filled_all _ _ [] _ _ c.loop-replica.replica (c.loop-replica.invariant.commands plan voted s t b) c.loop-replica-test.false
    ∙ ap (λ (n : ℕ). table n (λ (p : ℕ). table (length plan.actuators) (λ (a : ℕ). command_of plan c.args.input.now p a (voted p)))) s.replicas
