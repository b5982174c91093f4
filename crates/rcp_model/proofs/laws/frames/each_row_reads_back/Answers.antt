use Rattle.rcp_model.proofs.RowLaws.{each_row}
use Rattle.rcp_model.proofs.laws.frames.each_row_reads_back.Goals as goal

pub returns : goal.returns
returns c = each_row
