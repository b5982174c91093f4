use Rattle.std.proofs.Common.{◌≡◌}
use Rattle.std.proofs.lemmas.List.Elements.{All-more}
use Rattle.fault_journal.specs.declared.row.Row.{Row}
use Rattle.fault_journal.proofs.journal.count_of_frame.Goals as goal

pub loop-place-preserved : goal.loop-place-preserved
loop-place-preserved c =
    All-more (λ (row : Row). row.frame ≡ c.args.frame) c.args.rows.now c.loop-place.place _ c.loop-place-test.true c.loop-place.invariant c.if-row-frame.false
