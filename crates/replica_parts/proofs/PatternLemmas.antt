-- The votes of a plan's pattern are the plan's, past the last slot and cell too.
use Rattle.std.proofs.Common.{◌≡◌, ℕ, ◌<◌, ◌≤◌, ◌==◌, ◌&&◌, Bool, false, nat_lt, List, length, All, get_or, sym, ap, ◌∙◌, inl, inr, arith}
use Rattle.std.proofs.Math.Path.{fun_ext}
use Rattle.std.specs.List.{list_any}
use Rattle.std.proofs.lemmas.Bool.{and_left, and_right, cases_lt, le-ltb, ne_eqb}
use Rattle.std.proofs.lemmas.List.Folds.{list_any_none}
use Rattle.std.proofs.lemmas.List.{get_or_past}
use Rattle.rcp_model.specs.declared.plan.PlanParts.{PlanParts}
use Rattle.rcp_model.specs.declared.plan.SlotRow.{SlotRow}
use Rattle.rcp_model.specs.Messages.{is_voted}
use Rattle.rcp_model.specs.Plan.{IsPlan}
use Rattle.rcp_model.specs.Slot.{no_slot, slot_count}
use Rattle.vote_pattern.specs.Votes.{Votes, IsPatternOf, is_in}

-- a number that is not below another has no vote in rows that keep below it
none_voted : (votes : List ℕ) (cells cell : ℕ) → All (λ number. number < cells) votes → cells ≤ cell → list_any (λ voted. voted == cell) votes ≡ false
none_voted votes cells cell all past = list_any_none (λ voted. voted == cell) votes
    (λ i d lt. ne_eqb (get_or votes i d) cell (λ e. let less = all i d lt in absurd (omega (arith, less, past, e))))

module _ (plan : PlanParts) (votes : Votes) (rules : IsPlan plan) (v : IsPatternOf plan votes) (slot cell : ℕ) where
  -- past the last slot
  no_slot_votes : slot_count plan ≤ slot → is_in votes slot cell ≡ is_voted plan slot cell
  unfolding is_in is_voted
  no_slot_votes past =
      and_left _ _ (and_left _ _ (le-ltb slot votes.slots (omega (arith, past, v.slots))))
      ∙ sym (ap (λ (row : SlotRow). list_any (λ voted. voted == cell) row.votes) (get_or_past plan.slots slot no_slot past))

  -- past the last cell
  no_cell_votes : slot < slot_count plan → length plan.cells ≤ cell → is_in votes slot cell ≡ is_voted plan slot cell
  unfolding is_in is_voted
  no_cell_votes lt past =
      and_left _ _ (and_right _ _ (le-ltb cell votes.cells (omega (arith, past, v.cells))))
      ∙ sym (none_voted _ (length plan.cells) cell (rules.each_slot slot no_slot lt).votes_there past)

  pub voted_alike : is_in votes slot cell ≡ is_voted plan slot cell
  voted_alike = elim (cases_lt slot (slot_count plan)) [
    | inl in_slots ↦ elim (cases_lt cell (length plan.cells)) [
      | inl in_cells ↦ v.each slot cell in_slots in_cells
      | inr past ↦ no_cell_votes in_slots past
    ]
    | inr past ↦ no_slot_votes past
  ]

pub votes_alike : (plan : PlanParts) (votes : Votes) → IsPlan plan → IsPatternOf plan votes → ◌≡◌ {A = ℕ → ℕ → Bool} (is_in votes) (is_voted plan)
votes_alike plan votes rules v = fun_ext (λ slot. fun_ext (λ cell. voted_alike plan votes rules v slot cell))

-- no vote outside of the pattern
pub not_in : (votes : Votes) (slot cell : ℕ) → (nat_lt slot votes.slots && nat_lt cell votes.cells) ≡ false → is_in votes slot cell ≡ false
unfolding is_in
not_in votes slot cell outside = and_left _ _ outside
