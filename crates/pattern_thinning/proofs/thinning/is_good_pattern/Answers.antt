use Rattle.std.proofs.Common.{sym}
use Rattle.recovery_analysis.specs.Graphs.{graph_of}
use Rattle.pattern_thinning.proofs.GoodLemmas.{good_without_limit, good_if_within}
use Rattle.pattern_thinning.proofs.thinning.is_good_pattern.Goals as goal

pub returns-in-None-clause-good : goal.returns-in-None-clause-good
returns-in-None-clause-good c = sym (good_without_limit c.args.limit (graph_of c.args.rows.now c.args.pattern.now) c.in-None.is c.requires.no_cycle)

pub returns-in-Some-clause-good : goal.returns-in-Some-clause-good
returns-in-Some-clause-good c =
    good_if_within c.args.limit (graph_of c.args.rows.now c.args.pattern.now) c.in-Some.most c.within.result c.in-Some.is c.requires.no_cycle c.within.ensures.within
