use Rattle.std.proofs.Common.{refl, sym, ◌∙◌}
use Rattle.recovery_analysis.specs.Graphs.{graph_of}
use Rattle.pattern_thinning.proofs.ReachLemmas.{back_is_on_walk, far_is_on_walk, on_walk_is_far}
use Rattle.pattern_thinning.proofs.reach.is_on_walk.Goals as goal

pub returns-in-None : goal.returns-in-None
returns-in-None c =
    (λ t. back_is_on_walk (graph_of c.args.rows.now c.args.pattern.now) c.args.node c.args.steps c.requires.node c.in-None.ensures, λ w. refl)

pub returns-in-Some : goal.returns-in-Some
returns-in-Some c =
    let g = graph_of c.args.rows.now c.args.pattern.now in (
      λ t. far_is_on_walk g c.args.node c.args.steps c.in-Some.on c.in-Some.ensures (sym c.ends_walk.ensures ∙ t),
      λ w. c.ends_walk.ensures ∙ on_walk_is_far g c.args.node c.args.steps c.in-Some.on c.in-Some.ensures w,
    )
