-- `check FILE`: the tasks of a plan, its votes, and how soon they recover. This project's own.
use Rattle.std.specs.Prelude.{◌≡◌, ℕ, List, ◌++◌, flat_map}
use Rattle.rcp_model.specs.declared.node.Node.{Node}
use Rattle.rcp_model.specs.declared.plan.PlanParts.{PlanParts}
use Rattle.rcp_model.specs.Plan.{variable_names}
use Rattle.rcp_model.specs.PlanGraph.{graph_of_plan}
use Rattle.rcp_model.specs.Shown.{recovery_length, witness_walk}
use Rattle.trace_text.specs.PlanLines.{task_line}
use Rattle.vote_pattern.specs.Votes.{AreVotesOf}
use Rattle.rcp_top.specs.declared.check.Check.{Check}
use Rattle.rcp_top.specs.PatternText.{pattern_text, recovery_text}
use Rattle.rcp_top.specs.Read.{plan_at, shown}
use Rattle.rcp_top.specs.Reading.{Reading, ◌>>=◌}

-- a line for each task
abbrev pub task_lines : PlanParts → List ℕ
task_lines plan =
    flat_map (task_line (variable_names plan.sensors) (variable_names plan.cells)) plan.tasks

-- the text of `check`, by the recovery length and the walk
unfoldable pub check_text : PlanParts → ℕ → List Node → List ℕ
check_text plan length walk =
    task_lines plan ++ (pattern_text plan.cells (graph_of_plan plan) ++ recovery_text plan.cells length walk)

-- the analysis of a plan
abbrev pub analysis_text : PlanParts → List ℕ
analysis_text plan = let g = graph_of_plan plan in check_text plan (recovery_length g) (witness_walk g)

-- what `check FILE` reads, and the text that is then due
abbrev pub check_of : List ℕ → Reading (List ℕ)
check_of file = do
  plan ← plan_at file
  shown (analysis_text plan)

-- what was found shows this text
pub record ShowsCheck (found : Check) (text : List ℕ) : Type 0 where
  pub votes : AreVotesOf (graph_of_plan found.judged.plan) found.pattern
  pub is : text ≡ check_text found.judged.plan found.judged.length found.judged.walk
