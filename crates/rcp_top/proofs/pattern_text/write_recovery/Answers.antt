use Rattle.rcp_base.proofs.AddingLaws.{adds_then}
use Rattle.trace_text.specs.declared.label.Label.TheVariants as label
use Rattle.trace_text.specs.Lines.{count_line}
use Rattle.trace_text.specs.PlanLines.{walk_line}
use Rattle.rcp_top.specs.PatternText.{recovery_text}
use Rattle.rcp_top.proofs.pattern_text.write_recovery.Goals as goal

pub returns : goal.returns
unfolding recovery_text
returns g c =
    let last = walk_line c.args.plan.now.cells c.args.walk.now in
    adds_then _ _ _ _ _ _ (count_line label.Recovery c.args.length) last (rw c.count.ensures at c.add-so_far.ensures) (c.add_made.ensures last c.walk.ensures)
