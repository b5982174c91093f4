use Rattle.std.proofs.Common.{ℕ, true, inl, inr, sym, ◌∙◌, subst, arith}
use Rattle.recovery_analysis.specs.Graphs.{graph_of}
use Rattle.recovery_analysis.specs.Verdict.{TellsWithin}
use Rattle.recovery_analysis.specs.inner.Levels.{AnswersLeast}
use Rattle.recovery_analysis.proofs.WithinLemmas.{enough, below, none_if, early_level_tells, last_level_tells, within_of_graphs}
use Rattle.recovery_analysis.proofs.verdict.within.Goals.{then-limit-count, else-limit-count}
use Rattle.recovery_analysis.proofs.verdict.within.Goals as goal

pub returns-then-is_none-clause-within : goal.returns-then-is_none-clause-within
returns-then-is_none-clause-within c =
    let g = graph_of c.args.rows.now c.args.pattern.now in
    let limit : ℕ = c.args.limit in
    let enough_steps = enough g limit c.node_count-count.result c.if-limit-count.steps c.node_count-count.ensures.value
    (elim c.if-limit-count.branch [
      | then-limit-count w ↦ inl (w.if-limit-count.true, w.steps-is)
      | else-limit-count w ↦ inr (w.if-limit-count.false, w.steps-is)
    ]) in
    let less = below g limit c.if-limit-count.steps c.requires.limit enough_steps in
    early_level_tells g limit c.loop-depth._depth c.least_of.result (omega arith)
    (c.least_of.ensures g c.loop-depth._depth (sym c.slots.ensures.value) c.loop-depth.invariant) (sym (none_if c.least_of.result c.is_none.result c.is_none.ensures) ∙ c.if-is_none.true)

pub returns-then-is_none-clause-graph : goal.returns-then-is_none-clause-graph
returns-then-is_none-clause-graph c = within_of_graphs c.args.rows.now c.args.pattern.now c.args.limit true (returns-then-is_none-clause-within c)

pub returns-clause-within : goal.returns-clause-within
returns-clause-within c =
    let g = graph_of c.args.rows.now c.args.pattern.now in
    let limit : ℕ = c.args.limit in
    let enough_steps = enough g limit c.node_count-count.result c.if-limit-count.steps c.node_count-count.ensures.value
    (elim c.if-limit-count.branch [
      | then-limit-count w ↦ inl (w.if-limit-count.true, w.steps-is)
      | else-limit-count w ↦ inr (w.if-limit-count.false, w.steps-is)
    ]) in
    let found = c.least_of-longest.ensures g c.loop-depth._depth (sym c.slots-2.ensures.value) c.loop-depth.invariant in
    let last = subst (λ (k : ℕ). AnswersLeast g k c.least_of-longest.result) (omega arith) found in
    subst (TellsWithin limit g) (sym (none_if c.least_of-longest.result c.is_none-2.result c.is_none-2.ensures)) (last_level_tells g limit c.if-limit-count.steps c.least_of-longest.result c.requires.limit enough_steps last)

pub returns-clause-graph : goal.returns-clause-graph
returns-clause-graph c = within_of_graphs c.args.rows.now c.args.pattern.now c.args.limit c.is_none-2.result (returns-clause-within c)
