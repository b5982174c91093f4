-- What replicas hold behind a frame.
use Rattle.std.proofs.Common.{◌≡◌, ℕ, ◌≤◌, ◌+◌, ◌%◌, true, false, List, length, get_or, Option, Some, None, unwrap_or, refl, sym, ap, ◌∙◌, ℤ, pos}
use Rattle.std.proofs.lemmas.Bool.{true≢false}
use Rattle.rcp_base.specs.Tables.{table}
use Rattle.rcp_model.specs.declared.plan.PlanParts.{PlanParts}
use Rattle.rcp_model.specs.FrameRows.{FrameRows, slot_row, cell_row}
use Rattle.rcp_model.specs.Slot.{slot_count}
use Rattle.rcp_model.specs.Ballot as model
use Rattle.rcp_model.specs.System.{state_after_rows, state_after_sync}
use Rattle.rcp_model.specs.Uniprocessor.{ProcessorState}
use Rattle.rcp_base.proofs.FillLaws.{filled_all}
use Rattle.rcp_base.specs.Filling.{Filled}
use Rattle.replica_parts.specs.declared.ballot.Ballot.{Ballot}
use Rattle.replica_parts.specs.Ballots.{IsBallotOrNone}
use Rattle.replica_parts.specs.States.{state_after_vote}

pub same_held : (s t : ℕ) (v w : List ℤ) → s ≡ t → v ≡ w → ◌≡◌ {A = ProcessorState} (record { slot = s; cells = v }) (record { slot = t; cells = w })
same_held s t v w e f = cc

pub is_overwritten : (plan : PlanParts) (rows : FrameRows) (replica : ℕ) (held begun now : ProcessorState) (n i : ℕ)
    → length plan.cells ≡ n → begun ≡ record held { slot = unwrap_or (slot_row rows replica) held.slot }
    → now.slot ≡ begun.slot
    → Filled n (λ (c : ℕ). unwrap_or (cell_row rows replica c) (get_or begun.cells c (pos 0))) (pos 0) begun.cells now.cells i → n ≤ i
    → now ≡ state_after_rows plan rows replica held
unfolding state_after_rows
is_overwritten plan rows replica held begun now n i size begins slot filled le =
    same_held _ _ _ _ (slot ∙ ap (λ (h : ProcessorState). h.slot) begins)
    (filled_all _ _ (pos 0) _ _ i filled le
    ∙ ap (λ (h : ProcessorState). table n (λ (c : ℕ). unwrap_or (cell_row rows replica c) (get_or h.cells c (pos 0)))) begins
    ∙ ap (λ m. table m (λ (c : ℕ). unwrap_or (cell_row rows replica c) (get_or held.cells c (pos 0)))) (sym size))

-- one that is up holds what it voted
pub held_up : (plan : PlanParts) (replicas : ℕ) (place : Ballot) (voted : Option model.Ballot) (held now : ProcessorState) → IsBallotOrNone replicas place voted → place.up ≡ true
    → now.slot ≡ (place.taken + 1) % slot_count plan → now.cells ≡ place.cells.items → now ≡ state_after_vote plan voted held
unfolding state_after_sync
held_up plan replicas place None held now b u s v = absurd (true≢false (sym u ∙ b))
held_up plan replicas place (Some ballot) held now b u s v = same_held _ _ _ _ (s ∙ ap (λ t. (t + 1) % slot_count plan) b.1.taken) (v ∙ b.1.cells)

-- one that is down holds what it held
pub held_down : (plan : PlanParts) (replicas : ℕ) (place : Ballot) (voted : Option model.Ballot) (held : ProcessorState) → IsBallotOrNone replicas place voted → place.up ≡ false → held ≡ state_after_vote plan voted held
held_down plan replicas place None held b u = refl
held_down plan replicas place (Some ballot) held b u = absurd (true≢false (sym b.0 ∙ u))
