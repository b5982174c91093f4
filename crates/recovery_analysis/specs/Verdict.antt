-- What the analysis of a vote pattern answers. After NASA TM-102716.
use Rattle.std.specs.Prelude.{◌≡◌, ◌↔◌, ℕ, Bool, IsTrue, if◌then◌else◌}
use Rattle.task_graph.specs.Rows.{Rows, AreFeedsOf}
use Rattle.vote_pattern.specs.Votes.{Votes, AreVotesOf}
use Rattle.recovery_analysis.specs.declared.verdict.Verdict.{Verdict}
use Rattle.recovery_analysis.specs.declared.verdict.Verdict.TheVariants.{Recovers, Cycle}
use Rattle.rcp_model.specs.Walk.{Graph, HasNoWalk}
use Rattle.rcp_model.specs.Levels.{has_cycle}
use Rattle.rcp_model.specs.Shown.{recovery_length, witness_walk, witness_cycle}
use Rattle.rcp_model.specs.Recovery.{IsRecovery}
use Rattle.rcp_model.specs.Witness.{IsShownCycle}

-- the verdict is right: the recovery length with its walk, or the cycle
abbrev pub IsVerdict : Graph → Verdict → Type 0
IsVerdict g (Recovers k walk) = IsRecovery g k walk
IsVerdict g (Cycle nodes) = IsShownCycle g nodes

-- the verdict on a graph
abbrev pub verdict_of : Graph → Verdict
verdict_of g = if has_cycle g then Cycle (witness_cycle g) else Recovers (recovery_length g) (witness_walk g)

-- it is the verdict on each graph that has these rows and votes
abbrev pub IsVerdictOfGraphs : Rows → Votes → Verdict → Type 0
IsVerdictOfGraphs rows votes verdict = (g : Graph) → AreFeedsOf g rows → AreVotesOf g votes → verdict ≡ verdict_of g

-- the answer tells whether no unvoted walk has so many nodes
abbrev pub TellsWithin : ℕ → Graph → Bool → Type 0
TellsWithin limit g answer = IsTrue answer ↔ HasNoWalk g limit

-- it tells so of each graph that has these rows and votes
abbrev pub TellsWithinOfGraphs : ℕ → Rows → Votes → Bool → Type 0
TellsWithinOfGraphs limit rows votes answer =
    (g : Graph) → AreFeedsOf g rows → AreVotesOf g votes → TellsWithin limit g answer
