use Rattle.std.proofs.Common.{◌≡◌, false, not, sym, ◌∙◌, ap, arith}
use Rattle.rcp_model.specs.Thinning.{is_good}
use Rattle.recovery_analysis.specs.Graphs.{graph_of}
use Rattle.pattern_thinning.proofs.TryLemmas.{absent_is_taken, search_decides, cleared_is_taken, back_is_kept, back_is_good, count_taken, count_kept}
use Rattle.pattern_thinning.proofs.thinning.try_vote.Goals as goal

pub returns-then-not-has-clause-tried : goal.returns-then-not-has-clause-tried
returns-then-not-has-clause-tried c =
    absent_is_taken c.args.limit c.args.rows.now c.args.pattern.now c.args.node c.requires.size (sym c.has.ensures ∙ c.if-not-has.true) c.requires.good

pub returns-then-is_on_walk-clause-tried : goal.returns-then-is_on_walk-clause-tried
returns-then-is_on_walk-clause-tried c =
    let rows = c.args.rows.now in
    let old = c.args.pattern.now in
    let cleared = c.clear.new.self in
    let bad : is_good c.args.limit (graph_of rows cleared) ≡ false =
    search_decides c.args.limit rows old c.args.node cleared c.clear.ensures c.requires.good c.step_limit.result c.step_limit.ensures c.is_on_walk.result c.is_on_walk.ensures ∙ ap not c.if-is_on_walk.true in
    back_is_kept c.args.limit rows old c.args.node cleared c.clear.ensures c.set.new.self c.set.ensures (sym c.has.ensures ∙ c.if-not-has.false) c.requires.size bad

pub returns-then-is_on_walk-clause-good : goal.returns-then-is_on_walk-clause-good
returns-then-is_on_walk-clause-good c =
    back_is_good c.args.limit c.args.rows.now c.args.pattern.now c.args.node c.clear.new.self c.clear.ensures c.set.new.self c.set.ensures (sym c.has.ensures ∙ c.if-not-has.false) c.requires.good

pub returns-then-is_on_walk-clause-count : goal.returns-then-is_on_walk-clause-count
returns-then-is_on_walk-clause-count c =
    let same = count_kept c.args.limit c.args.rows.now c.args.pattern.now c.args.node c.clear.new.self c.clear.ensures c.set.new.self c.set.ensures (sym c.has.ensures ∙ c.if-not-has.false) c.requires.size c.requires.node in
    omega arith

pub returns-clause-good : goal.returns-clause-good
returns-clause-good c =
    search_decides c.args.limit c.args.rows.now c.args.pattern.now c.args.node c.clear.new.self c.clear.ensures c.requires.good c.step_limit.result c.step_limit.ensures c.is_on_walk.result c.is_on_walk.ensures ∙ ap not c.if-is_on_walk.false

pub returns-clause-tried : goal.returns-clause-tried
returns-clause-tried c =
    cleared_is_taken c.args.limit c.args.rows.now c.args.pattern.now c.args.node c.clear.new.self c.clear.ensures c.requires.size (returns-clause-good c)

pub returns-clause-count : goal.returns-clause-count
returns-clause-count c =
    count_taken c.args.limit c.args.rows.now c.args.pattern.now c.args.node c.clear.new.self c.clear.ensures c.requires.size c.requires.node (sym c.has.ensures ∙ c.if-not-has.false)
