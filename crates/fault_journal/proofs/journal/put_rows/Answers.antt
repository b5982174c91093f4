-- One row more is put, and the rest are still to be put.
use Rattle.std.proofs.Common.{◌+◌, ◌∙◌, sym, ap, drop}
use Rattle.std.proofs.lemmas.List.{drop_more}
use Rattle.rcp_model.specs.FrameRows.{FrameRows}
use Rattle.fault_journal.specs.Filling.{put_all}
use Rattle.fault_journal.proofs.PutLemmas.{put_row_is_of_plan}
use Rattle.fault_journal.proofs.journal.put_rows.Goals as goal

pub loop-row-preserved : goal.loop-row-preserved
loop-row-preserved c =
    let rows = c.args.rows.now in
    let i = c.loop-row.row-index in
    record {
      rest =
          ap (λ (input : FrameRows). put_all input (drop (i + 1) rows)) c.put.ensures
          ∙ sym (ap (put_all c.loop-row.input) (drop_more rows i _ c.loop-row-test.true))
          ∙ c.loop-row.invariant.rest;
      kept = λ plan are. put_row_is_of_plan plan _ _ _ c.put.ensures (c.loop-row.invariant.kept plan are);
    }
