-- What follows from the definitions of a journal. This project's own.
use Rattle.std.specs.Prelude.{◌≡◌, ℕ, List, Ok}
use Rattle.rcp_model.specs.declared.plan.PlanParts.{PlanParts}
use Rattle.rcp_model.specs.Plan.{IsPlan}
use Rattle.rcp_model.specs.History.{History}
use Rattle.layer_stack.specs.Inputs.{IsHistoryOf}
use Rattle.fault_journal.specs.History.{journal_result}

-- a journal that passes each test gives the rows of at most 1,000,000 frames of the plan, within the limits
abbrev pub JournalsGiveHistories : Type 0
JournalsGiveHistories =
    (plan : PlanParts) (bytes : List ℕ) (history : History) → IsPlan plan → journal_result plan bytes ≡ Ok history → IsHistoryOf plan history
