-- The thinned pattern of a plan and its analysis.
use Rattle.std.proofs.Common.{◌≡◌, ℕ, ◌+◌, ◌≤◌, false, List, Option, None, Some, IfSome, sym, ◌∙◌, arith}
use Rattle.std.proofs.lemmas.Bool.{cond-false}
use Rattle.rcp_model.specs.declared.node.Node.{Node}
use Rattle.rcp_model.specs.declared.plan.PlanParts.{PlanParts}
use Rattle.rcp_model.specs.Levels.{has_cycle}
use Rattle.rcp_model.specs.Plan.{IsRecoveryLimit}
use Rattle.rcp_model.specs.PlanGraph.{graph_of_plan, voted_count}
use Rattle.rcp_model.specs.Shown.{recovery_length, witness_walk}
use Rattle.rcp_model.specs.Thinning.{thinned}
use Rattle.rcp_model.specs.Walk.{Graph}
use Rattle.task_graph.specs.Rows.{Rows, AreFeedsOf}
use Rattle.vote_pattern.proofs.GraphLaws.{listed_alike}
use Rattle.vote_pattern.specs.Votes.{Votes, AreVotesOf, vote_count}
use Rattle.recovery_analysis.specs.declared.verdict.Verdict.{Verdict}
use Rattle.recovery_analysis.specs.declared.verdict.Verdict.TheVariants.{Recovers, Cycle}
use Rattle.recovery_analysis.specs.Verdict.{IsVerdictOfGraphs}
use Rattle.pattern_thinning.proofs.ThinningLaws.{thinned_feeds, thinned_none}
use Rattle.pattern_thinning.specs.Thinned.{IsThinnedFor}
use Rattle.rcp_top.specs.Thin.{IsThinned}

-- rows and thinned votes are of one size
pub record AreOneSize (rows : Rows) (votes : Votes) : Type 0 where
  pub slots : rows.slots ≡ votes.slots
  pub cells : rows.cells ≡ votes.cells

pub thinned_size : (limit : Option ℕ) (g : Graph) (rows : Rows) (old new : Votes) → AreFeedsOf g rows → AreVotesOf g old → IsThinnedFor limit rows old new → AreOneSize rows new
thinned_size limit g rows old new feeds are is =
    let now = is g feeds are in
    let same = thinned_feeds limit g rows feeds in
    record { slots = same.slots ∙ sym now.slots; cells = same.cells ∙ sym now.cells }

-- the verdict on them is a recovery
thinned_verdict : (limit : Option ℕ) (g : Graph) (rows : Rows) (old new : Votes) (verdict : Verdict) → AreFeedsOf g rows → AreVotesOf g old → IsThinnedFor limit rows old new
    → has_cycle g ≡ false → IsVerdictOfGraphs rows new verdict → verdict ≡ Recovers (recovery_length (thinned limit g)) (witness_walk (thinned limit g))
thinned_verdict limit g rows old new verdict feeds are is none judged =
    judged (thinned limit g) (thinned_feeds limit g rows feeds) (is g feeds are) ∙ cond-false (has_cycle (thinned limit g)) _ _ (thinned_none limit g none)

pub never_a_cycle : (limit : Option ℕ) (g : Graph) (rows : Rows) (old new : Votes) (nodes : List Node) → AreFeedsOf g rows → AreVotesOf g old → IsThinnedFor limit rows old new
    → has_cycle g ≡ false → IsVerdictOfGraphs rows new (Cycle nodes) → ⊥
never_a_cycle limit g rows old new nodes feeds are is none judged =
    let both : Cycle nodes ≡ Recovers (recovery_length (thinned limit g)) (witness_walk (thinned limit g)) =
    thinned_verdict limit g rows old new (Cycle nodes) feeds are is none judged
    in
    cc both

pub thinned_found : (plan : PlanParts) (rows : Rows) (old new : Votes) (spared length : ℕ) (walk : List Node)
    → AreFeedsOf (graph_of_plan plan) rows → AreVotesOf (graph_of_plan plan) old → IsThinnedFor plan.recovery_limit rows old new → has_cycle (graph_of_plan plan) ≡ false
    → vote_count new + spared ≡ vote_count old → IsVerdictOfGraphs rows new (Recovers length walk)
    → IsThinned plan (record { pattern = new; spared = spared; length = length; walk = walk })
thinned_found plan rows old new spared length walk feeds are is none count judged =
    let g = graph_of_plan plan in
    let limit = plan.recovery_limit in
    let now = is g feeds are in
    let both : Recovers length walk ≡ Recovers (recovery_length (thinned limit g)) (witness_walk (thinned limit g)) =
    thinned_verdict limit g rows old new (Recovers length walk) feeds are is none judged
    in
    let before : vote_count old ≡ voted_count g = (listed_alike g old are).count in
    let left : vote_count new ≡ voted_count (thinned limit g) = (listed_alike (thinned limit g) new now).count in
    record { votes = now; spared = omega (arith, before, left, count); length = cc both; walk = cc both }

-- a limit on recovery is at least 1
pub limit_is_some : (limit : Option ℕ) → IsRecoveryLimit limit → IfSome limit (λ k. 1 ≤ k)
limit_is_some None is = tt
limit_is_some (Some k) is = is.0
