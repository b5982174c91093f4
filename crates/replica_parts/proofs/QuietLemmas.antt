-- Where no row but sensors' stands, messages go out as they are said, and replicas hold what they have.
use Rattle.std.proofs.Common.{ℤ, ◌<◌, ◌==◌, ◌&&◌, Bool, true, false, not, cond, Some, ap₂, ◌≡◌, ℕ, ◌*◌, length, get_or, None, unwrap_or, refl, sym, ap, ◌∙◌, pos}
use Rattle.std.proofs.lemmas.Bool.{lt-ltb}
use Rattle.std.specs.Option.{option_or}
use Rattle.rcp_base.specs.Message.{Content, value_in}
use Rattle.rcp_base.proofs.FillLaws.{is_table}
use Rattle.replica_parts.proofs.HoldingLemmas.{same_held}
use Rattle.replica_parts.proofs.LetterLemmas.{same_content}
use Rattle.rcp_model.specs.declared.plan.PlanParts.{PlanParts}
use Rattle.layer_stack.proofs.QuietLaws.{same_everywhere, same_entry, no_slot, no_cell, no_lie_slot, no_lie, no_down, no_drop}
use Rattle.replica_parts.specs.Quiet.{AreAlike}
use Rattle.rcp_model.specs.FrameRows.{skew_of, rate_of, delay_of, FrameRows}
use Rattle.rcp_model.specs.Messages.{Letter, arrival_of, goes_out, letter_to, message_to}
use Rattle.rcp_model.specs.RowWrites.{cleared}
use Rattle.rcp_model.specs.System.{state_after_rows}
use Rattle.rcp_model.specs.Uniprocessor.{ProcessorState}

abbrev pub the_letter : ℤ → Content → Letter
the_letter tick own = record { arrival = tick; message = own }

module _ (rows : FrameRows) (quiet : rows ≡ cleared rows) where
  pub message_kept : (own : Content) (sender receiver : ℕ) → own ≡ message_to rows own sender receiver
  unfolding message_to
  message_kept own sender receiver = same_content _ _ _ _ (sym (ap (λ o. unwrap_or o own.slot) (no_lie_slot rows quiet sender receiver)))
      (is_table (length own.values) _ own.values None refl (λ cell lt. sym (ap (λ o. option_or o (value_in own cell)) (no_lie rows quiet sender receiver cell))))

  pub state_kept : (plan : PlanParts) (replica : ℕ) (held : ProcessorState) → length held.cells ≡ length plan.cells → held ≡ state_after_rows plan rows replica held
  unfolding state_after_rows
  state_kept plan replica held size = same_held _ _ _ _ (sym (ap (λ o. unwrap_or o held.slot) (no_slot rows quiet replica)))
      (is_table (length plan.cells) _ held.cells (pos 0) size (λ cell lt. sym (ap (λ o. unwrap_or o (get_or held.cells cell (pos 0))) (no_cell rows quiet replica cell))))

  same_skew : (replica : ℕ) → skew_of rows replica ≡ pos 0
  unfolding skew_of cleared
  same_skew replica = ap (λ (r : FrameRows). skew_of r replica) quiet ∙ same_everywhere rows.replicas replica (pos 0)

  same_rate : (replica : ℕ) → rate_of rows replica ≡ pos 0
  unfolding rate_of cleared
  same_rate replica = ap (λ (r : FrameRows). rate_of r replica) quiet ∙ same_everywhere rows.replicas replica (pos 0)

  same_delay : (sender receiver : ℕ) → delay_of rows sender receiver ≡ rows.delay_min
  unfolding delay_of cleared
  same_delay sender receiver = ap (λ (r : FrameRows). delay_of r sender receiver) quiet ∙ same_entry rows.replicas (rows.replicas * rows.replicas) sender receiver rows.delay_min

  same_arrival : (plan : PlanParts) (frame sender receiver : ℕ) → arrival_of plan frame rows 0 0 ≡ arrival_of plan frame rows sender receiver
  unfolding arrival_of
  same_arrival plan frame sender receiver = rw (same_skew 0, same_rate 0, same_delay 0 0, same_skew sender, same_rate sender, same_delay sender receiver) refl

  goes_to_others : (plan : PlanParts) (sender receiver : ℕ) → sender < plan.replicas → receiver < plan.replicas → goes_out plan rows sender receiver ≡ not (sender == receiver)
  unfolding goes_out
  goes_to_others plan sender receiver lt less = rw (lt-ltb sender plan.replicas lt, lt-ltb receiver plan.replicas less, no_down rows quiet sender, no_drop rows quiet sender receiver) (and_true (not (sender == receiver)))
    where
      and_true : (b : Bool) → (b && true) ≡ b
      and_true true = refl
      and_true false = refl

  -- each message goes to each other replica as it is said, and all arrive at one tick
  pub letter_is : (plan : PlanParts) (frame : ℕ) (own : Content) (sender receiver : ℕ) (tick : ℤ) → sender < plan.replicas → receiver < plan.replicas → tick ≡ arrival_of plan frame rows 0 0
      → cond (not (sender == receiver)) (Some (the_letter tick own)) None ≡ letter_to plan frame rows own sender receiver
  unfolding letter_to
  letter_is plan frame own sender receiver tick lt less is =
      ap (λ b. cond b (Some (the_letter tick own)) None) (sym (goes_to_others plan sender receiver lt less))
      ∙ ap₂ (λ t m. cond (goes_out plan rows sender receiver) (Some (the_letter t m)) None) (is ∙ same_arrival plan frame sender receiver) (message_kept own sender receiver)

  pub all_alike : (plan : PlanParts) (frame : ℕ) → AreAlike plan frame rows
  all_alike plan frame = record {
    up = no_down rows quiet;
    skew = same_skew;
    rate = same_rate;
    goes = goes_to_others plan;
    arrives = same_arrival plan frame;
  }
