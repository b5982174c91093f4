use Rattle.rcp_model.specs.Walk.{IsUnvoted}
use Rattle.recovery_analysis.specs.Graphs.{graph_of}
use Rattle.pattern_thinning.proofs.FrontierLemmas.{IsReachedBy}
use Rattle.pattern_thinning.proofs.reach.steps_on.Given as goal

abbrev pub invariant-loop-step : goal.invariant-loop-step
invariant-loop-step l = (u : IsUnvoted (graph_of l.rows l.pattern) l.node) → IsReachedBy l.rows l.pattern l.node u l.step l.slot l.frontier
