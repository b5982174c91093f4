-- What follows of a plan's pattern for the votes that the definitions take, and what is so of each
-- frame in which only sensors were written. This project's own.
use Rattle.std.specs.Prelude.{◌≡◌, ℕ, Bool}
use Rattle.rcp_model.specs.declared.plan.PlanParts.{PlanParts}
use Rattle.rcp_model.specs.FrameRows.{FrameRows}
use Rattle.rcp_model.specs.Messages.{is_voted}
use Rattle.rcp_model.specs.Plan.{IsPlan}
use Rattle.rcp_model.specs.RowWrites.{cleared}
use Rattle.replica_parts.specs.Quiet.{AreAlike}
use Rattle.vote_pattern.specs.Votes.{Votes, IsPatternOf, is_in}

-- the votes of a plan's pattern are the plan's, for every slot and cell
abbrev pub VotesOfAPatternAreThePlans : Type 0
VotesOfAPatternAreThePlans =
    (plan : PlanParts) (votes : Votes) → IsPlan plan → IsPatternOf plan votes
    → ◌≡◌ {A = ℕ → ℕ → Bool} (is_in votes) (is_voted plan)

-- where only sensors were written, all replicas and all messages are alike
abbrev pub QuietFramesAreAlike : Type 0
QuietFramesAreAlike =
    (plan : PlanParts) (frame : ℕ) (rows : FrameRows) → rows ≡ cleared rows
    → AreAlike plan frame rows
