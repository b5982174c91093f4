-- What a replica votes: the slot that it takes, and its cells after the vote. Votes are a test of slot and cell.
-- After NASA TM-102716; the median is this project's own.
use Rattle.std.specs.Prelude.{ℕ, ◌==◌, nat_eq, ℤ, pos, Bool, List, length, slice_index_or, Option, option_map, if◌then◌else◌}
use Rattle.std.specs.List.{list_any}
use Rattle.std.specs.Option.{option_and_then}
use Rattle.rcp_base.specs.Majority.{voted_value}
use Rattle.rcp_base.specs.Median.{chosen_value}
use Rattle.rcp_base.specs.Message.{Content, value_in}
use Rattle.rcp_base.specs.Tables.{table}
use Rattle.rcp_model.specs.declared.plan.PlanParts.{PlanParts}

-- what a replica heard of each sender, the slot that it took, and its cells after the vote
pub record Ballot : Type 0 where
  pub heard : ℕ → Option Content
  pub taken : ℕ
  pub cells : List ℤ

-- the cell is voted by the median
unfoldable pub is_median : PlanParts → ℕ → Bool
is_median plan cell = list_any (λ median. median == cell) plan.medians

-- the slots that the heard messages name, by sender
abbrev pub slots_heard : PlanParts → (ℕ → Option Content) → List (Option ℕ)
slots_heard plan heard = table plan.replicas (λ sender. option_map (λ message. message.slot) (heard sender))

-- the values that they name for a cell
abbrev pub values_heard : PlanParts → (ℕ → Option Content) → ℕ → List (Option ℤ)
values_heard plan heard cell = table plan.replicas (λ sender. option_and_then (λ message. value_in message cell) (heard sender))

-- the slot that is taken: by vote, else one's own
unfoldable pub taken_slot : PlanParts → ℕ → (ℕ → Option Content) → ℕ
taken_slot plan own heard = voted_value nat_eq (slots_heard plan heard) own

-- a cell after the vote: where these votes have it at the slot taken, what is chosen of the values heard, else as computed
unfoldable pub voted_cell : PlanParts → (ℕ → ℕ → Bool) → ℕ → (ℕ → Option Content) → ℕ → ℤ → ℤ
voted_cell plan votes taken heard cell computed =
    if votes taken cell then chosen_value (is_median plan cell) (values_heard plan heard cell) computed else computed

-- the cells after the vote
unfoldable pub voted_cells : PlanParts → (ℕ → ℕ → Bool) → ℕ → (ℕ → Option Content) → List ℤ → List ℤ
voted_cells plan votes taken heard computed =
    table (length plan.cells) (λ cell. voted_cell plan votes taken heard cell (slice_index_or computed cell (pos 0)))

-- the vote of a replica that is in this slot, computed these cells and heard these messages
unfoldable pub ballot_of : PlanParts → (ℕ → ℕ → Bool) → ℕ → List ℤ → (ℕ → Option Content) → Ballot
ballot_of plan votes slot computed heard =
    let taken = taken_slot plan slot heard in
    record { heard = heard; taken = taken; cells = voted_cells plan votes taken heard computed }
