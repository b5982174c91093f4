use Rattle.recovery_analysis.specs.Graphs.{graph_of}
use Rattle.recovery_analysis.specs.Steps.{is_fed}
use Rattle.recovery_analysis.proofs.StepLemmas.{ArePassing}
use Rattle.recovery_analysis.proofs.steps.next_word.Given as goal

abbrev pub invariant-loop-cell : goal.invariant-loop-cell
invariant-loop-cell l = ArePassing (is_fed (graph_of l.rows l.pattern) l.word l.slot) l.cell l.fed
