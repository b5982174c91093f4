-- The induction over frames: each cell of a healthy replica that ends no unvoted walk is the single processor's.
use Rattle.std.proofs.Common.{◌≡◌, ℕ, zero, suc, ◌+◌, ◌%◌, ◌/◌, mod-lt, ◌<◌, ◌≤◌, Bool, true, false, List, [], ◌∷◌, length, ℤ, pos, refl, sym, ap, ◌∙◌, arith, inl, inr}
use Rattle.std.specs.Ordering.{int_eq}
use Rattle.std.proofs.Math.Nat.{zero-mod, add-mul-mod_self_left, mod-add-div}
use Rattle.std.proofs.lemmas.Bool.{cases_Bool, and_parts}
use Rattle.std.proofs.lemmas.Bool.Decides.{Decides-int_eq}
use Rattle.std.proofs.lemmas.List.{ext_get_or, length-map}
use Rattle.rcp_base.proofs.MajorityLaws.{majority_is, majority_all}
use Rattle.rcp_base.proofs.TableLaws.{length-table}
use Rattle.rcp_model.specs.declared.plan.PlanParts.{PlanParts}
use Rattle.rcp_model.specs.declared.plan.Variable.{Variable}
use Rattle.rcp_model.specs.Command.{voted_command}
use Rattle.rcp_model.specs.FrameRows.{FrameRows}
use Rattle.rcp_model.specs.Health.{is_healthy_for, HasHealthyMajority, MeetsGuard}
use Rattle.rcp_model.specs.History.{sensors_of}
use Rattle.rcp_model.specs.Messages.{is_voted}
use Rattle.rcp_model.specs.Plan.{IsPlan}
use Rattle.rcp_model.specs.PlanGraph.{graph_of_plan}
use Rattle.rcp_model.specs.Slot.{slot_count, cells_after_slot}
use Rattle.rcp_model.specs.System.{computed_cells, state_after_rows, end_of_frame, next_state, initial_state, state_after, actuator_vote}
use Rattle.rcp_model.specs.Uniprocessor.{ProcessorState, ideal_slot, ideal_cells, ideal_state}
use Rattle.rcp_model.specs.Walk.{IsUnvoted, EndsWalk, HasNoWalk}
use Rattle.rcp_model.proofs.LevelLaws.{ends_one, ends_push}
use Rattle.clock_model.specs.Laws.{HealthyPairsHear}
use Rattle.task_graph.specs.Laws.{Agree, FeedingCellsDecide}
use Rattle.layer_stack.specs.Recovery.{VotesAreIdeal, ReplicasRecover}
use Rattle.layer_stack.proofs.LengthLemmas.{length-cells_after_slot}
use Rattle.layer_stack.proofs.ReplicaLemmas.{MostHeld, slot_after, cell_after, cell_voted, cell_unvoted, command_held}

-- the slot that the last frame ran
abbrev last_slot : PlanParts → List FrameRows → ℕ
last_slot plan [] = 0
last_slot plan (rows ∷ past) = ideal_slot plan (sensors_of past)

-- the replica has the ideal slot, and each cell that ends no unvoted walk of j + 1 nodes within the history is the ideal one
record IsClose (plan : PlanParts) (past : List FrameRows) (j p : ℕ) : Type 0 where
  slot : ((state_after plan past).replicas p).slot ≡ ideal_slot plan (sensors_of past)
  cells : (c : ℕ) → c < length plan.cells
      → (suc j ≤ length past → EndsWalk (graph_of_plan plan) (suc j) (record { slot = last_slot plan past; cell = c }) → ⊥)
      → Agree ((state_after plan past).replicas p).cells (ideal_cells plan (sensors_of past)) c

mod_step : (n m : ℕ) → (n % m + 1) % m ≡ (n + 1) % m
mod_step n m = sym (add-mul-mod_self_left (n % m + 1) m (n / m)) ∙ ap (λ x. x % m) (omega (arith, mod-add-div n m))

length-ideal_cells : (plan : PlanParts) (past : List FrameRows) → length (ideal_cells plan (sensors_of past)) ≡ length plan.cells
length-ideal_cells plan [] = length-map plan.cells (λ (variable : Variable). variable.initial)
length-ideal_cells plan (rows ∷ past) = length-cells_after_slot plan _ _ _ ∙ length-ideal_cells plan past

length-held_cells : (plan : PlanParts) (past : List FrameRows) (p : ℕ) → length ((state_after plan past).replicas p).cells ≡ length plan.cells
unfolding initial_state next_state end_of_frame state_after_rows
length-held_cells plan [] p = length-map plan.cells (λ (variable : Variable). variable.initial)
length-held_cells plan (rows ∷ past) p = length-table _ _

same_state : (s t : ℕ) (v w : List ℤ) → s ≡ t → v ≡ w → ◌≡◌ {A = ProcessorState} (record { slot = s; cells = v }) (record { slot = t; cells = w })
same_state s t v w e f = cc

-- where no walk is so long, the replica holds the ideal state
is_ideal : (plan : PlanParts) (past : List FrameRows) (j p : ℕ) → HasNoWalk (graph_of_plan plan) (suc j) → IsClose plan past j p → (state_after plan past).replicas p ≡ ideal_state plan (sensors_of past)
is_ideal plan past j p none close =
    same_state _ _ _ _ close.slot (ext_get_or (pos 0) _ _ (length-held_cells plan past p ∙ sym (length-ideal_cells plan past))
    (λ c inside. close.cells c (omega (arith, inside, length-held_cells plan past p)) (λ l e. none _ e)))

-- the walk goes on from the frame before
turn : (plan : PlanParts) (past : List FrameRows) → 1 ≤ length past → ideal_slot plan (sensors_of past) ≡ (last_slot plan past + 1) % slot_count plan
turn plan [] h = absurd (omega arith)
turn plan (rows ∷ past) h = ap (λ x. x % slot_count plan) (omega arith) ∙ sym (mod_step (length (sensors_of past)) (slot_count plan))

-- all that are healthy for some frames are close
abbrev AreClose : PlanParts → List FrameRows → Type 0
AreClose plan past = (j p : ℕ) → p < plan.replicas → is_healthy_for plan (suc j) past p ≡ true → IsClose plan past j p

module _ (plan : PlanParts) (rules : IsPlan plan) (l : ℕ) (none : HasNoWalk (graph_of_plan plan) (suc l)) (rows : FrameRows) (past : List FrameRows)
    (many : HasHealthyMajority plan (suc l) (rows ∷ past)) (prior : AreClose plan past) (decide : FeedingCellsDecide) (hear : HealthyPairsHear) where
  good : ℕ → Bool
  good = is_healthy_for plan (suc (suc l)) (rows ∷ past)

  -- more than half held the ideal state before the frame
  most_held : MostHeld plan (state_after plan past) rows (is_healthy_for plan (suc (suc l)) (rows ∷ past)) (ideal_state plan (sensors_of past))
  most_held = record {
    many = many;
    healthy = λ p lt g. (and_parts _ _ g).0;
    same = λ p lt g. is_ideal plan past l p none (prior l p lt (and_parts _ _ g).1);
  }

  some_slots : 0 < slot_count plan
  some_slots = let h = rules.slots.some in omega (arith, h)

  unvoted_node : (c : ℕ) → c < length plan.cells → is_voted plan (ideal_slot plan (sensors_of past)) c ≡ false → IsUnvoted (graph_of_plan plan) (record { slot = ideal_slot plan (sensors_of past); cell = c })
  unvoted_node c lt v = record { slot_in = mod-lt (length (sensors_of past)) some_slots; cell_in = lt; unvoted = v }

  -- an unvoted cell, computed by a replica that was healthy for j frames before this one
  unvoted_cell : (j p : ℕ) → p < plan.replicas → is_healthy_for plan j past p ≡ true → (c : ℕ) → c < length plan.cells → is_voted plan (ideal_slot plan (sensors_of past)) c ≡ false
      → (suc j ≤ suc (length past) → EndsWalk (graph_of_plan plan) (suc j) (record { slot = ideal_slot plan (sensors_of past); cell = c }) → ⊥)
      → Agree (computed_cells plan rows ((state_after plan past).replicas p)) (cells_after_slot plan (ideal_slot plan (sensors_of past)) rows.sensors (ideal_cells plan (sensors_of past))) c
  unvoted_cell zero p lt h c inside v away = absurd (away (omega arith) (ends_one _ _ (unvoted_node c inside v)))
  unvoted_cell (suc i) p lt h c inside v away =
      let close : IsClose plan past i p = prior i p lt h in
      rw close.slot (decide plan (ideal_slot plan (sensors_of past)) c rows.sensors ((state_after plan past).replicas p).cells (ideal_cells plan (sensors_of past)) inside (length-held_cells plan past p) (length-ideal_cells plan past)
      (λ d below feeding. close.cells d below (λ long ends. away (omega arith)
      (ends_push (graph_of_plan plan) (suc i) (record { slot = last_slot plan past; cell = d }) _ ends (record { turn = turn plan past (omega arith); feeds = feeding }) (unvoted_node c inside v)))))

  step : (j p : ℕ) → p < plan.replicas → is_healthy_for plan (suc j) (rows ∷ past) p ≡ true → IsClose plan (rows ∷ past) j p
  step j p lt h = record { slot = slot; cells = cells }
    where
      slot : ((next_state plan (state_after plan past) rows).replicas p).slot ≡ ideal_slot plan (sensors_of (rows ∷ past))
      slot = slot_after hear plan rules.timing_range rules.timing_rules (state_after plan past) rows _ _ most_held p lt (and_parts _ _ h).0 ∙ mod_step (length (sensors_of past)) (slot_count plan) ∙ ap (λ x. x % slot_count plan) (omega arith)

      cells : (c : ℕ) → c < length plan.cells → (suc j ≤ length (rows ∷ past) → EndsWalk (graph_of_plan plan) (suc j) (record { slot = last_slot plan (rows ∷ past); cell = c }) → ⊥) → Agree ((next_state plan (state_after plan past) rows).replicas p).cells (ideal_cells plan (sensors_of (rows ∷ past))) c
      cells c inside away =
          cell_after hear plan rules.timing_range rules.timing_rules (state_after plan past) rows _ _ most_held p lt (and_parts _ _ h).0 c inside
          ∙ elim (cases_Bool (is_voted plan (ideal_slot plan (sensors_of past)) c)) [
            | inl v ↦ cell_voted hear plan rules.timing_range rules.timing_rules (state_after plan past) rows _ _ most_held p lt (and_parts _ _ h).0 c inside v
            | inr v ↦ cell_unvoted hear plan rules.timing_range rules.timing_rules (state_after plan past) rows _ _ most_held p lt (and_parts _ _ h).0 c inside v ∙ unvoted_cell j p lt (and_parts _ _ h).1 c inside v away
          ]

  votes_step : VotesAreIdeal plan (next_state plan (state_after plan past) rows) (rows ∷ past)
  unfolding actuator_vote voted_command
  votes_step a lt =
      majority_is int_eq Decides-int_eq _ _ (majority_all int_eq Decides-int_eq plan.replicas (is_healthy_for plan (suc (suc l)) (rows ∷ past)) _ _ many
      (λ p inside g. command_held hear plan rules.timing_range rules.timing_rules (state_after plan past) rows _ _ most_held p inside (most_held.healthy p inside g) (length-ideal_cells plan past) (most_held.same p inside g) a lt))

close : FeedingCellsDecide → HealthyPairsHear → (plan : PlanParts) → IsPlan plan → (l : ℕ) → HasNoWalk (graph_of_plan plan) (suc l) → (past : List FrameRows) → MeetsGuard plan (suc l) past → AreClose plan past
unfolding initial_state
close decide hear plan rules l none [] guard j p lt h = record {
  slot = sym (zero-mod (slot_count plan));
  cells = λ c inside away. refl;
}
close decide hear plan rules l none (rows ∷ past) guard j p lt h =
    step plan rules l none rows past guard.0 (close decide hear plan rules l none past guard.1) decide hear j p lt h

votes_are_ideal : FeedingCellsDecide → HealthyPairsHear → (plan : PlanParts) → IsPlan plan → (l : ℕ) → HasNoWalk (graph_of_plan plan) (suc l) → (past : List FrameRows) → MeetsGuard plan (suc l) past → VotesAreIdeal plan (state_after plan past) past
votes_are_ideal decide hear plan rules l none [] guard = tt
votes_are_ideal decide hear plan rules l none (rows ∷ past) guard = votes_step plan rules l none rows past guard.0 (close decide hear plan rules l none past guard.1) decide hear

pub recovers : FeedingCellsDecide → HealthyPairsHear → ReplicasRecover
recovers decide hear plan zero past rules some none guard = absurd (omega arith)
recovers decide hear plan (suc l) past rules some none guard = record {
  replicas = λ p lt h. is_ideal plan past l p none (close decide hear plan rules l none past guard l p lt h);
  votes = votes_are_ideal decide hear plan rules l none past guard;
}
