-- The thinned pattern, what was spared, and its recovery, one after the other.
use Rattle.rcp_base.proofs.AddingLaws.{adds_then, adds_all}
use Rattle.trace_text.specs.declared.label.Label.TheVariants as label
use Rattle.trace_text.specs.Lines.{count_line}
use Rattle.rcp_top.specs.PatternText.{pattern_text, recovery_text}
use Rattle.rcp_top.specs.Thin.{thin_text, thinned_graph}
use Rattle.rcp_top.proofs.thin.write_thin.Goals as goal

pub returns : goal.returns
unfolding thin_text
returns g c =
    let plan = c.args.plan.now in
    let graph = thinned_graph plan in
    adds_all _ _ _ _ _ (adds_then _ _ _ _ _ _ (pattern_text plan.cells graph) _ (c.write_pattern-so_far.ensures graph c.requires)
    (adds_then _ _ _ _ _ _ (count_line label.Spared c.args.spared) (recovery_text plan.cells c.args.length c.args.walk.now)
    (rw c.count.ensures at c.add-so_far.ensures) c.write_recovery.ensures))
