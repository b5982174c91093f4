use Rattle.std.proofs.Common.{ap}
use Rattle.rcp_top.specs.Summary.{counts_of}
use Rattle.rcp_top.specs.declared.counts.Counts.{Counts}
use Rattle.rcp_top.specs.declared.counts.Tally.{Tally}
use Rattle.rcp_top.proofs.counts.Counts.new.Goals as goal

pub returns : goal.returns
unfolding counts_of
returns c plan recovery =
    let with_tally : Tally → Counts = λ tally. record { guarded = 0; tally = tally; working = 0 } in
    ap with_tally c.new.ensures
