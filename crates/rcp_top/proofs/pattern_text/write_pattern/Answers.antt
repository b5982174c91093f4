-- The lines of the slots, and their number.
use Rattle.std.proofs.Common.{◌≡◌, ap, ◌∙◌}
use Rattle.rcp_base.proofs.AddingLaws.{adds_then}
use Rattle.vote_pattern.proofs.GraphLaws.{listed_alike}
use Rattle.rcp_model.specs.PlanGraph.{voted_at, voted_count}
use Rattle.trace_text.specs.declared.label.Label.TheVariants as label
use Rattle.trace_text.specs.Lines.{count_line}
use Rattle.rcp_top.specs.PatternText.{slot_lines, pattern_text}
use Rattle.rcp_top.proofs.CheckLemmas.{graph_lines}
use Rattle.rcp_top.proofs.pattern_text.write_pattern.Goals as goal

pub returns : goal.returns
unfolding pattern_text
returns g c graph are =
    let cells = c.args.plan.now.cells in
    let votes = count_line label.Votes (voted_count graph) in
    let line : c.count.result.now ≡ votes = c.count.ensures ∙ ap (count_line label.Votes) (c.count-votes.ensures ∙ (listed_alike graph c.args.pattern.now are).count) in
    adds_then _ _ _ _ _ _ (slot_lines cells (voted_at graph) graph.slots) votes
    (rw (graph_lines cells graph c.args.pattern.now are) at c.write_slots-so_far.ensures) (rw line at c.add.ensures)
