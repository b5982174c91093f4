use Rattle.rcp_model.specs.Walk.{IsUnvoted}
use Rattle.recovery_analysis.specs.Graphs.{graph_of}
use Rattle.pattern_thinning.proofs.FrontierLemmas.{IsLedBy}
use Rattle.pattern_thinning.proofs.reach.ends_walk.Given as goal

abbrev pub invariant-loop-step : goal.invariant-loop-step
invariant-loop-step l = (u : IsUnvoted (graph_of l.rows l.pattern) l.fn.node) → IsLedBy l.rows l.pattern l.fn.node u l._step l.slot l.frontier
