use Rattle.std.proofs.Common.{◌≡◌, drop}
use Rattle.rcp_model.specs.declared.plan.PlanParts.{PlanParts}
use Rattle.rcp_model.specs.FrameRows.{AreRowsOf}
use Rattle.fault_journal.specs.Filling.{put_all}
use Rattle.fault_journal.proofs.journal.put_rows.Given as goal

abbrev pub invariant-loop-row : goal.invariant-loop-row
invariant-loop-row l = record {
  rest : put_all l.input (drop l.row-index l.rows) ≡ put_all l.initial.input l.rows;
  kept : (plan : PlanParts) → AreRowsOf plan l.initial.input → AreRowsOf plan l.input;
}
