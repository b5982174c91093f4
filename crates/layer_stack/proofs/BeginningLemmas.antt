-- Before the first frame all replicas are alike, working and up, and nothing was voted.
use Rattle.std.proofs.Common.{◌≡◌, ℕ, zero, suc, ◌+◌, true, false, [], get_or, replicate, map, find, filter_map, Option, None, ℤ, refl, sym, ap}
use Rattle.std.specs.List.{range_with_len}
use Rattle.std.specs.Ordering.{int_eq}
use Rattle.std.proofs.Math.Nat.{zero-mod}
use Rattle.rcp_base.specs.Majority.{has_majority, majority_of}
use Rattle.rcp_base.specs.Tables.{table}
use Rattle.rcp_model.specs.declared.plan.PlanParts.{PlanParts}
use Rattle.rcp_model.specs.Command.{voted_command}
use Rattle.rcp_model.specs.FrameRows.{is_down, no_rows}
use Rattle.rcp_model.specs.Health.{is_working}
use Rattle.rcp_model.specs.Slot.{slot_count}
use Rattle.rcp_model.specs.System.{initial_state, actuator_vote}
use Rattle.rcp_model.specs.Uniprocessor.{ProcessorState, initial_values, ideal_state}
use Rattle.layer_stack.specs.Beginning.{EverySystemBeginsIdeal}

none_down : (n replica : ℕ) → get_or (replicate n false) replica false ≡ false
none_down zero replica = refl
none_down (suc n) zero = refl
none_down (suc n) (suc replica) = none_down n replica

none_named : (a n : ℕ) → filter_map (λ (place : Option ℤ). place) (map (λ (k : ℕ). None) (range_with_len a n)) ≡ []
none_named a zero = refl
none_named a (suc n) = none_named (a + 1) n

holds_ideal : (plan : PlanParts) (replica : ℕ) → (initial_state plan).replicas replica ≡ ideal_state plan []
unfolding initial_state
holds_ideal plan replica =
    let at : ℕ → ProcessorState = λ slot. record { slot = slot; cells = initial_values plan.cells } in
    ap at (sym (zero-mod (slot_count plan)))

works : (plan : PlanParts) (recovery replica : ℕ) → is_working plan recovery [] replica ≡ true
works plan zero replica = refl
works plan (suc recovery) replica = refl

is_up : (plan : PlanParts) (replica : ℕ) → is_down (no_rows plan (initial_values plan.sensors)) replica ≡ false
unfolding is_down no_rows
is_up plan replica = none_down plan.replicas replica

votes_none : (plan : PlanParts) (actuator : ℕ) → actuator_vote plan (initial_state plan) actuator ≡ None
unfolding actuator_vote voted_command majority_of table initial_state
votes_none plan actuator =
    ap (find (has_majority int_eq (map (λ (k : ℕ). None) (range_with_len 0 plan.replicas)))) (none_named 0 plan.replicas)

pub begins_ideal : EverySystemBeginsIdeal
begins_ideal plan recovery = record {
  replicas = holds_ideal plan;
  working = works plan recovery;
  up = is_up plan;
  guard = tt;
  votes = votes_none plan;
}
