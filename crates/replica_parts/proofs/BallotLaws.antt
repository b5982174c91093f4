-- Ballots of what was heard of the senders that there are.
use Rattle.std.proofs.Common.{◌≡◌, ℕ, ◌<◌, List, length, get_or, Bool, cond, Option, None, option_map, ap, ◌∙◌, ℤ, pos}
use Rattle.std.specs.Option.{option_and_then}
use Rattle.rcp_base.specs.Majority.{voted_value}
use Rattle.std.proofs.Common.{nat_eq}
use Rattle.rcp_base.specs.Median.{chosen_value}
use Rattle.rcp_base.specs.Message.{Content, value_in}
use Rattle.rcp_base.proofs.FillLaws.{table_agree}
use Rattle.rcp_model.specs.declared.plan.PlanParts.{PlanParts}
use Rattle.rcp_model.specs.Ballot.{values_heard, taken_slot, is_median, voted_cell, voted_cells, ballot_of}
use Rattle.replica_parts.specs.declared.ballot.Ballot.{Ballot}
use Rattle.replica_parts.specs.Ballots.{IsBallot}

-- what is heard of the senders that there are decides the vote
module _ (plan : PlanParts) (heard other : ℕ → Option Content) (same : (sender : ℕ) → sender < plan.replicas → heard sender ≡ other sender) where
  pub taken_same : (slot : ℕ) → taken_slot plan slot heard ≡ taken_slot plan slot other
  unfolding taken_slot
  taken_same slot = ap (λ (xs : List (Option ℕ)). voted_value nat_eq xs slot)
      (table_agree plan.replicas (λ sender. option_map (λ (message : Content). message.slot) (heard sender)) (λ sender. option_map (λ (message : Content). message.slot) (other sender)) None (λ k lt. ap (option_map (λ (message : Content). message.slot)) (same k lt)))

  values_same : (cell : ℕ) → values_heard plan heard cell ≡ values_heard plan other cell
  values_same cell = table_agree plan.replicas (λ sender. option_and_then (λ message. value_in message cell) (heard sender)) (λ sender. option_and_then (λ message. value_in message cell) (other sender)) None (λ k lt. ap (option_and_then (λ message. value_in message cell)) (same k lt))

  pub cells_same : (votes : ℕ → ℕ → Bool) (taken : ℕ) (computed : List ℤ) → voted_cells plan votes taken heard computed ≡ voted_cells plan votes taken other computed
  unfolding voted_cells voted_cell
  cells_same votes taken computed = table_agree (length plan.cells) _ _ (pos 0)
      (λ c lt. ap (λ (xs : List (Option ℤ)). cond (votes taken c) (chosen_value (is_median plan c) xs (get_or computed c (pos 0))) (get_or computed c (pos 0))) (values_same c))

-- a ballot over what is heard of the senders that there are
pub ballot_agrees : (plan : PlanParts) (votes : ℕ → ℕ → Bool) (slot : ℕ) (computed : List ℤ) (place : Ballot) (heard other : ℕ → Option Content)
    → ((sender : ℕ) → sender < plan.replicas → heard sender ≡ other sender)
    → IsBallot plan.replicas place (ballot_of plan votes slot computed heard) → IsBallot plan.replicas place (ballot_of plan votes slot computed other)
unfolding ballot_of
ballot_agrees plan votes slot computed place heard other same h =
    let taken : taken_slot plan slot heard ≡ taken_slot plan slot other = taken_same plan heard other same slot in
    record {
      heard = h.heard ∙ table_agree plan.replicas heard other None same;
      taken = h.taken ∙ taken;
      cells = h.cells ∙ cells_same plan heard other same votes (taken_slot plan slot heard) computed ∙ ap (λ s. voted_cells plan votes s other computed) taken;
    }
