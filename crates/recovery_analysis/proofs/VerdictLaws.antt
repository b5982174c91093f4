-- What a graph without unvoted cycles says of the rows and votes that are its own.
use Rattle.std.proofs.Common.{◌≡◌, false, List, ◌∙◌, subst}
use Rattle.std.proofs.lemmas.Bool.{cond-false}
use Rattle.rcp_model.specs.declared.node.Node.{Node}
use Rattle.rcp_model.specs.Levels.{has_cycle}
use Rattle.rcp_model.specs.Shown.{recovery_length, witness_walk}
use Rattle.rcp_model.specs.Walk.{Graph, IsUnvotedCycle}
use Rattle.task_graph.specs.Rows.{Rows, AreFeedsOf}
use Rattle.vote_pattern.specs.Votes.{Votes, AreVotesOf}
use Rattle.recovery_analysis.specs.declared.verdict.Verdict.{Verdict}
use Rattle.recovery_analysis.specs.declared.verdict.Verdict.TheVariants.{Recovers}
use Rattle.recovery_analysis.specs.Graphs.{graph_of}
use Rattle.recovery_analysis.specs.Verdict.{IsVerdict, verdict_of}
use Rattle.recovery_analysis.proofs.VerdictLemmas.{verdict_is_right, verdict_of_graphs}

-- where the graph has no unvoted cycle, the rows and votes have none
pub no_cycle_over : (g : Graph) (rows : Rows) (votes : Votes) → AreFeedsOf g rows → AreVotesOf g votes → has_cycle g ≡ false
    → (nodes : List Node) → IsUnvotedCycle (graph_of rows votes) nodes → ⊥
no_cycle_over g rows votes dependence pattern none =
    let same : verdict_of (graph_of rows votes) ≡ verdict_of g =
    verdict_of_graphs rows votes (verdict_of (graph_of rows votes)) (verdict_is_right (graph_of rows votes)) g dependence pattern in
    let is : verdict_of (graph_of rows votes) ≡ Recovers (recovery_length g) (witness_walk g) =
    same ∙ cond-false (has_cycle g) _ _ none in
    let P : Verdict → Type 0 = IsVerdict (graph_of rows votes) in
    (subst P is (verdict_is_right (graph_of rows votes))).no_cycle
