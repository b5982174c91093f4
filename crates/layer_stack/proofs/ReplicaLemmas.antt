-- One frame, in which more than half of the replicas are healthy and held one state before it.
use Rattle.std.proofs.Common.{◌≡◌, ℕ, ◌+◌, ◌*◌, ◌%◌, ◌<◌, Bool, true, false, cond, List, length, get_or, Option, Some, None, option_map, unwrap_or, nat_eq, ◌==◌, ℤ, pos, refl, sym, ap, ◌∙◌, arith, inl, inr, count_by}
use Rattle.std.specs.List.{range_with_len}
use Rattle.std.specs.Option.{option_or, option_and_then}
use Rattle.std.specs.Ordering.{int_eq}
use Rattle.std.proofs.lemmas.Bool.{and_from, not_from_false, cases_Bool, cond-true, cond-false, lt-ltb}
use Rattle.std.proofs.lemmas.Bool.Decides.{Decides-eqb, Decides-int_eq}
use Rattle.std.proofs.lemmas.List.{ext_get_or}
use Rattle.rcp_base.specs.Majority.{IsMajority, voted_value}
use Rattle.rcp_base.specs.Median.{chosen_value}
use Rattle.rcp_base.specs.Message.{Content, value_in}
use Rattle.rcp_base.specs.Tables.{table}
use Rattle.rcp_base.proofs.MajorityLaws.{majority_is, majority_all}
use Rattle.rcp_base.proofs.MedianLaws.{majority_is_median}
use Rattle.rcp_base.proofs.TableLaws.{get_or-table, length-table}
use Rattle.rcp_model.specs.declared.plan.PlanParts.{PlanParts}
use Rattle.rcp_model.specs.Ballot.{is_median, values_heard, taken_slot, voted_cell, voted_cells, ballot_of}
use Rattle.rcp_model.specs.Command.{command_of}
use Rattle.rcp_model.specs.FrameRows.{FrameRows, lie_row}
use Rattle.rcp_model.specs.Health.{is_healthy}
use Rattle.rcp_model.specs.Messages.{is_voted, own_message, is_up, goes_out, message_to, letter_to, in_time, arrival_of, heard_message}
use Rattle.rcp_model.specs.Slot.{slot_count, cells_after_slot, actuator_at, actuator_value}
use Rattle.rcp_model.specs.System.{SystemState, computed_cells, fresh_letter, heard_in, ballot_in, state_after_sync, state_after_rows, end_of_frame, next_state}
use Rattle.rcp_model.specs.TimingRules.{AreInRange, KeepsRules}
use Rattle.rcp_model.specs.Uniprocessor.{ProcessorState}
use Rattle.clock_model.specs.Laws.{HealthyPairsHear}
use Rattle.clock_model.proofs.HealthLaws.{SendsRight, IsHealthy, healthy_facts}
use Rattle.layer_stack.proofs.LengthLemmas.{length-cells_after_slot}

same_content : (s t : ℕ) (v w : List (Option ℤ)) → s ≡ t → v ≡ w → ◌≡◌ {A = Content} (record { slot = s; values = v }) (record { slot = t; values = w })
same_content s t v w e f = cc

-- a message that no row changes comes as it is
faithful_message : (plan : PlanParts) (rows : FrameRows) (votes : ℕ → ℕ → Bool) (slot : ℕ) (computed : List ℤ) (sender receiver : ℕ) → SendsRight plan rows sender receiver
    → message_to rows (own_message plan votes slot computed) sender receiver ≡ own_message plan votes slot computed
unfolding message_to own_message
faithful_message plan rows votes slot computed sender receiver h =
    same_content _ _ _ _ (let e = h.lie_slot in rw e refl)
    (ext_get_or None _ _ (length-table _ _)
    (λ c below.
    let inside : c < length plan.cells = omega (arith, below, length-table (length (table (length plan.cells) own)) changed, length-table (length plan.cells) own) in
    get_or-table _ changed c None (omega (arith, inside, length-table (length plan.cells) own))
    ∙ ap (λ o. option_or o (get_or (table (length plan.cells) own) c None)) (h.lie c inside)))
  where
    own : ℕ → Option ℤ
    own c = cond (votes slot c) (Some (get_or computed c (pos 0))) None

    changed : ℕ → Option ℤ
    changed c = option_or (lie_row rows sender receiver c) (get_or (table (length plan.cells) own) c None)

-- what a majority names is chosen, by median and by majority
chosen : (median : Bool) (places : List (Option ℤ)) (own value : ℤ) → IsMajority int_eq places value → chosen_value median places own ≡ value
unfolding chosen_value voted_value
chosen true places own value h = ap (λ o. unwrap_or o own) (majority_is_median places value h)
chosen false places own value h = ap (λ o. unwrap_or o own) (majority_is int_eq Decides-int_eq places value h)

-- more than half are healthy in the frame, and held this slot and these cells before it
pub record MostHeld (plan : PlanParts) (state : SystemState) (rows : FrameRows) (good : ℕ → Bool) (held : ProcessorState) : Type 0 where
  pub many : plan.replicas < 2 * count_by good (range_with_len 0 plan.replicas)
  pub healthy : (p : ℕ) → p < plan.replicas → good p ≡ true → is_healthy plan rows p ≡ true
  pub same : (p : ℕ) → p < plan.replicas → good p ≡ true → state.replicas p ≡ held

pub length-computed : (plan : PlanParts) (rows : FrameRows) (held : ProcessorState) → length (computed_cells plan rows held) ≡ length held.cells
length-computed plan rows held = length-cells_after_slot plan held.slot rows.sensors held.cells

module _ (hear : HealthyPairsHear) (plan : PlanParts) (range : AreInRange plan.timing) (rules : KeepsRules plan.timing) (state : SystemState) (rows : FrameRows) (good : ℕ → Bool) (held : ProcessorState)
    (most : MostHeld plan state rows good held) (q : ℕ) (within : q < plan.replicas) (healthy : is_healthy plan rows q ≡ true) where
  fit : IsHealthy plan rows q
  fit = healthy_facts plan rows q healthy

  -- the message of the majority
  ideal_message : Content
  ideal_message = own_message plan (is_voted plan) held.slot (computed_cells plan rows held)

  is_up_now : (p : ℕ) → p < plan.replicas → IsHealthy plan rows p → is_up plan rows p ≡ true
  is_up_now p lt f = and_from _ _ (lt-ltb _ _ lt) (not_from_false _ f.up)

  own_held : (p : ℕ) → p < plan.replicas → good p ≡ true → own_message plan (is_voted plan) (state.replicas p).slot (computed_cells plan rows (state.replicas p)) ≡ own_message plan (is_voted plan) held.slot (computed_cells plan rows held)
  own_held p lt g = ap (λ (h : ProcessorState). own_message plan (is_voted plan) h.slot (computed_cells plan rows h)) (most.same p lt g)

  -- what comes from a member of the majority
  fresh_good : (p : ℕ) → p < plan.replicas → good p ≡ true → (p == q) ≡ false
      → fresh_letter plan state rows q p ≡ Some (record { arrival = arrival_of plan state.done rows p q; message = own_message plan (is_voted plan) held.slot (computed_cells plan rows held) })
  unfolding fresh_letter letter_to goes_out
  fresh_good p lt g other =
      let f = healthy_facts plan rows p (most.healthy p lt g) in
      let right = f.to q within in
      let out = and_from _ _ (and_from _ _ (and_from _ _ (is_up_now p lt f) (lt-ltb _ _ within)) (not_from_false _ other)) (not_from_false _ right.drop) in
      cond-true _ _ _ out ∙ ap (λ m. Some (record { arrival = arrival_of plan state.done rows p q; message = m })) (faithful_message plan rows (is_voted plan) _ _ p q right ∙ own_held p lt g)

  pub heard_good : (p : ℕ) → p < plan.replicas → good p ≡ true → heard_in plan state rows q p ≡ Some (own_message plan (is_voted plan) held.slot (computed_cells plan rows held))
  unfolding heard_in heard_message
  heard_good p lt g = elim (cases_Bool (p == q)) [
    | inl e ↦ let is : p ≡ q = (Decides-eqb p q).0 e in
        cond-true _ _ _ e ∙ ap Some (ap (λ r. own_message plan (is_voted plan) (state.replicas r).slot (computed_cells plan rows (state.replicas r))) (sym is) ∙ own_held p lt g)
    | inr e ↦
        cond-false _ _ _ e
        ∙ ap (λ o. option_or (in_time plan state.done rows q o) (in_time plan state.done rows q (state.letters q p))) (fresh_good p lt g e)
        ∙ ap (λ o. option_or o (in_time plan state.done rows q (state.letters q p))) (cond-true _ _ _ (hear plan state.done rows p q range rules within (most.healthy p lt g) healthy))
  ]

  pub taken_held : (ballot_in plan state rows q).taken ≡ held.slot
  unfolding ballot_in ballot_of taken_slot voted_value own_message
  taken_held = ap (λ o. unwrap_or o (state.replicas q).slot)
      (majority_is nat_eq Decides-eqb _ held.slot (majority_all nat_eq Decides-eqb plan.replicas good _ held.slot most.many (λ p lt g. ap (option_map (λ m. m.slot)) (heard_good p lt g))))

  -- what the majority names for a cell that its slot votes
  named : (c : ℕ) → c < length plan.cells → is_voted plan held.slot c ≡ true → IsMajority int_eq (values_heard plan (heard_in plan state rows q) c) (get_or (computed_cells plan rows held) c (pos 0))
  unfolding own_message
  named c lt v = majority_all int_eq Decides-int_eq plan.replicas good _ _ most.many
      (λ p l g. ap (option_and_then (λ message. value_in message c)) (heard_good p l g) ∙ get_or-table _ _ c None lt ∙ cond-true _ _ _ v)

  pub cell_at : (c : ℕ) → c < length plan.cells → get_or (ballot_in plan state rows q).cells c (pos 0) ≡ voted_cell plan (is_voted plan) held.slot (heard_in plan state rows q) c (get_or (computed_cells plan rows (state.replicas q)) c (pos 0))
  unfolding ballot_in ballot_of voted_cells
  cell_at c lt = get_or-table _ _ c (pos 0) lt ∙ ap (λ s. voted_cell plan (is_voted plan) s (heard_in plan state rows q) c (get_or (computed_cells plan rows (state.replicas q)) c (pos 0))) taken_held

  pub cell_voted : (c : ℕ) → c < length plan.cells → is_voted plan held.slot c ≡ true → get_or (ballot_in plan state rows q).cells c (pos 0) ≡ get_or (computed_cells plan rows held) c (pos 0)
  unfolding voted_cell
  cell_voted c lt v = cell_at c lt ∙ cond-true _ _ _ v ∙ chosen (is_median plan c) _ _ _ (named c lt v)

  pub cell_unvoted : (c : ℕ) → c < length plan.cells → is_voted plan held.slot c ≡ false → get_or (ballot_in plan state rows q).cells c (pos 0) ≡ get_or (computed_cells plan rows (state.replicas q)) c (pos 0)
  unfolding voted_cell
  cell_unvoted c lt v = cell_at c lt ∙ cond-false _ _ _ v

  pub slot_after : ((next_state plan state rows).replicas q).slot ≡ (held.slot + 1) % slot_count plan
  unfolding next_state end_of_frame state_after_rows state_after_sync
  slot_after = let s = fit.slot in let u = is_up_now q within fit in rw (s, u, taken_held) refl

  pub cell_after : (c : ℕ) → c < length plan.cells → get_or ((next_state plan state rows).replicas q).cells c (pos 0) ≡ get_or (ballot_in plan state rows q).cells c (pos 0)
  unfolding next_state end_of_frame state_after_rows state_after_sync
  cell_after c lt = get_or-table _ _ c (pos 0) lt ∙ (let e = fit.cell c lt in let u = is_up_now q within fit in rw (e, u) refl)

  -- one that held the state itself computes and votes what the majority does
  pub cells_held : length held.cells ≡ length plan.cells → state.replicas q ≡ held → (ballot_in plan state rows q).cells ≡ cells_after_slot plan held.slot rows.sensors held.cells
  unfolding ballot_in ballot_of voted_cells
  cells_held l same = ext_get_or (pos 0) _ _ (length-table _ _ ∙ sym (length-computed plan rows held ∙ l)) (λ c below. at c (omega (arith, below, length-table (length plan.cells) (λ cell. voted_cell plan (is_voted plan) (taken_slot plan (state.replicas q).slot (heard_in plan state rows q)) (heard_in plan state rows q) cell (get_or (computed_cells plan rows (state.replicas q)) cell (pos 0))))))
    where
      at : (c : ℕ) → c < length plan.cells → get_or (ballot_in plan state rows q).cells c (pos 0) ≡ get_or (computed_cells plan rows held) c (pos 0)
      at c lt = elim (cases_Bool (is_voted plan held.slot c)) [
        | inl v ↦ cell_voted c lt v
        | inr v ↦ cell_unvoted c lt v ∙ ap (λ r. get_or (computed_cells plan rows r) c (pos 0)) same
      ]

  pub command_held : length held.cells ≡ length plan.cells → state.replicas q ≡ held → (a : ℕ) → a < length plan.actuators
      → (next_state plan state rows).commands q a ≡ Some (actuator_value (actuator_at plan a) rows.sensors (cells_after_slot plan held.slot rows.sensors held.cells))
  unfolding next_state end_of_frame command_of
  command_held l same a lt = let e = fit.act a lt in let u = is_up_now q within fit in rw (e, u, cells_held l same) refl
