use Rattle.std.proofs.Common.{sym, ◌∙◌}
use Rattle.pattern_thinning.proofs.NeedLemmas.{other_is_left}
use Rattle.pattern_thinning.proofs.thinning.thin.Goals as goal

pub returns-else-branch-clause-thinned : goal.returns-else-branch-clause-thinned
returns-else-branch-clause-thinned c =
    other_is_left c.args.limit c.args.rows.now c.args.pattern.now (sym c.in_ok-is_good_pattern.ensures.good ∙ c.if-branch.false)
