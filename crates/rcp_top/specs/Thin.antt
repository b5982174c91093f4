-- `thin FILE`: a plan's votes without those that can be spared, and how soon they recover. This project's own.
use Rattle.std.specs.Prelude.{◌≡◌, ℕ, ◌-◌, List, ◌++◌}
use Rattle.rcp_model.specs.declared.node.Node.{Node}
use Rattle.rcp_model.specs.declared.plan.PlanParts.{PlanParts}
use Rattle.rcp_model.specs.PlanGraph.{graph_of_plan, voted_count}
use Rattle.rcp_model.specs.Shown.{recovery_length, witness_walk}
use Rattle.rcp_model.specs.Thinning.{thinned}
use Rattle.rcp_model.specs.Walk.{Graph}
use Rattle.trace_text.specs.declared.label.Label.TheVariants as label
use Rattle.trace_text.specs.Lines.{count_line}
use Rattle.vote_pattern.specs.Votes.{AreVotesOf}
use Rattle.rcp_top.specs.declared.thin.Thin.{Thin}
use Rattle.rcp_top.specs.declared.thin.Thinned.{Thinned}
use Rattle.rcp_top.specs.PatternText.{pattern_text, recovery_text}
use Rattle.rcp_top.specs.Read.{plan_at, shown}
use Rattle.rcp_top.specs.Reading.{Reading, ◌>>=◌}

-- the votes that are left of a plan's, by its limit on recovery
abbrev pub thinned_graph : PlanParts → Graph
thinned_graph plan = thinned plan.recovery_limit (graph_of_plan plan)

-- how many votes are spared
abbrev pub spared_count : PlanParts → ℕ
spared_count plan = voted_count (graph_of_plan plan) - voted_count (thinned_graph plan)

-- the text of `thin`, by the votes that were spared, the recovery length and the walk
unfoldable pub thin_text : PlanParts → ℕ → ℕ → List Node → List ℕ
thin_text plan spared length walk =
    pattern_text plan.cells (thinned_graph plan)
    ++ (count_line label.Spared spared ++ recovery_text plan.cells length walk)

-- the analysis of a plan's thinned pattern
abbrev pub thinning_text : PlanParts → List ℕ
thinning_text plan =
    let g = thinned_graph plan in thin_text plan (spared_count plan) (recovery_length g) (witness_walk g)

-- what `thin FILE` reads, and the text that is then due
abbrev pub thin_of : List ℕ → Reading (List ℕ)
thin_of file = do
  plan ← plan_at file
  shown (thinning_text plan)

-- the thinned pattern of the plan, how many votes were spared, its recovery length and its walk
pub record IsThinned (plan : PlanParts) (found : Thinned) : Type 0 where
  pub votes : AreVotesOf (thinned_graph plan) found.pattern
  pub spared : found.spared ≡ spared_count plan
  pub length : found.length ≡ recovery_length (thinned_graph plan)
  pub walk : found.walk ≡ witness_walk (thinned_graph plan)

-- what was found shows this text
pub record ShowsThin (found : Thin) (text : List ℕ) : Type 0 where
  pub votes : AreVotesOf (thinned_graph found.plan) found.thinned.pattern
  pub is : text ≡ thin_text found.plan found.thinned.spared found.thinned.length found.thinned.walk
