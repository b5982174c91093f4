use Rattle.std.proofs.Common.{◌≡◌, ℕ, true, ap, ◌∙◌, subst, arith}
use Rattle.rcp_model.specs.Walk.{node_count}
use Rattle.rcp_model.specs.Levels.{level, is_core, node_before}
use Rattle.rcp_model.proofs.LevelLaws.{level_unvoted, level_step}
use Rattle.rcp_model.proofs.CoreLaws.{core_back, back_node-is, back_core}
use Rattle.recovery_analysis.specs.inner.Levels.{graph_in}
use Rattle.recovery_analysis.proofs.cycles.core_back.Goals as goal

pub back-requires-clause-node : goal.back-requires-clause-node
back-requires-clause-node c =
    let g = graph_in c.args.levels.now in
    let n = c.args.node in
    let b = core_back g n c.requires.node in
    let more = level_step g (node_count g) b.m n b.level b.steps (level_unvoted g (node_count g) n c.requires.node) in
    subst (λ (k : ℕ). level g k n ≡ true) (omega (arith, c.node_count.ensures.value)) more

pub returns-clause-value : goal.returns-clause-value
returns-clause-value c =
    let g = graph_in c.args.levels.now in
    c.back.ensures ∙ ap (λ (k : ℕ). node_before g k c.args.node) c.node_count.ensures.value ∙ back_node-is g c.args.node

pub returns-clause-core : goal.returns-clause-core
returns-clause-core c =
    let g = graph_in c.args.levels.now in
    let e = c.back.ensures ∙ ap (λ (k : ℕ). node_before g k c.args.node) c.node_count.ensures.value ∙ back_node-is g c.args.node in
    ap (is_core g) e ∙ back_core g c.args.node c.requires.node
