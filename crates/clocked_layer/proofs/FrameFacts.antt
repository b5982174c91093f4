-- What the definition of a frame says, in the words of a block. Definitions are opened here alone.
use Rattle.std.specs.Prelude.{int_le}
use Rattle.std.specs.Option.{option_or}
use Rattle.std.proofs.lemmas.Bool.{and_parts}
use Rattle.std.proofs.Common.{◌≡◌, ℕ, ◌<◌, ◌+◌, nat_lt, true, cond, ◌&&◌, ◌==◌, Some, None, refl, ap, ltb-true}
use Rattle.clock_model.specs.Order.{begin_of, block_begin, vote_of}
use Rattle.clocked_layer.proofs.TableLemmas.{some_when}
use Rattle.rcp_base.specs.Message.{Content}
use Rattle.rcp_model.specs.Ballot.{ballot_of}
use Rattle.rcp_model.specs.FrameRows.{FrameRows}
use Rattle.rcp_model.specs.Messages.{Letter, arrival_of, goes_out, heard_message, in_time, is_up, is_voted, letter_to, own_message}
use Rattle.rcp_model.specs.Moments.{is_in_window}
use Rattle.rcp_model.specs.System.{SystemState, ballot_in, computed_cells, end_of_frame, fresh_letter, heard_in, next_state, state_after_sync, still_on_its_way}
use Rattle.rcp_model.specs.Uniprocessor.{ProcessorState}
use Rattle.rcp_model.specs.declared.plan.PlanParts.{PlanParts}

-- the message of a replica that holds this
abbrev pub own_of_held : PlanParts → FrameRows → ProcessorState → Content
own_of_held plan rows held =
    own_message plan (is_voted plan) held.slot (computed_cells plan rows held)

-- what goes out is sent by a replica that is up, to one of the plan
pub goes_is : (plan : PlanParts) (rows : FrameRows) (sender receiver : ℕ)
    → goes_out plan rows sender receiver ≡ true
    → (is_up plan rows sender ≡ true) × (nat_lt receiver plan.replicas ≡ true)
unfolding goes_out
goes_is plan rows sender receiver h = and_parts _ _ (and_parts _ _ (and_parts _ _ h).0).0

module _ (plan : PlanParts) (rows : FrameRows) (state : SystemState) where
  -- a letter of the frame goes out, and arrives as the rows say
  pub letter_is : (receiver sender : ℕ) (letter : Letter)
      → fresh_letter plan state rows receiver sender ≡ Some letter
      → (goes_out plan rows sender receiver ≡ true)
      × (arrival_of plan state.done rows sender receiver ≡ letter.arrival)
  unfolding fresh_letter letter_to
  letter_is receiver sender letter is =
      let w = some_when (goes_out plan rows sender receiver) _ letter is in
      (w.0, ap (λ (x : Letter). x.arrival) w.1)

  pub sender_up : (receiver sender : ℕ) (letter : Letter)
      → fresh_letter plan state rows receiver sender ≡ Some letter
      → is_up plan rows sender ≡ true
  sender_up receiver sender letter is =
      (goes_is plan rows sender receiver (letter_is receiver sender letter is).0).0

  pub letter_range : (receiver sender : ℕ) (letter : Letter)
      → fresh_letter plan state rows receiver sender ≡ Some letter
      → (receiver < plan.replicas) × (sender < plan.replicas)
  letter_range receiver sender letter is =
      let w = goes_is plan rows sender receiver (letter_is receiver sender letter is).0 in
      (ltb-true receiver plan.replicas w.1, ltb-true sender plan.replicas (and_parts _ _ w.0).0)

  -- what is sent is the letter of the message of what the replica held
  pub letter_sent : (receiver sender : ℕ)
      → letter_to plan state.done rows (own_of_held plan rows (state.replicas sender))
      sender receiver
      ≡ fresh_letter plan state rows receiver sender
  unfolding fresh_letter
  letter_sent receiver sender = refl

  pub in_time_is : (receiver : ℕ) (letter : Letter)
      → cond (int_le (begin_of plan state.done rows receiver) letter.arrival
      && int_le letter.arrival (vote_of plan state.done rows receiver)) (Some letter.message) None
      ≡ in_time plan state.done rows receiver (Some letter)
  unfolding is_in_window
  in_time_is receiver letter = refl

  pub heard_is : (receiver sender : ℕ)
      → cond (sender == receiver) (Some (own_of_held plan rows (state.replicas receiver)))
      (option_or
      (in_time plan state.done rows receiver (fresh_letter plan state rows receiver sender))
      (in_time plan state.done rows receiver (state.letters receiver sender)))
      ≡ heard_in plan state rows receiver sender
  unfolding heard_in heard_message
  heard_is receiver sender = refl

  pub ballot_is : (replica : ℕ)
      → ballot_of plan (is_voted plan) (state.replicas replica).slot
      (computed_cells plan rows (state.replicas replica)) (heard_in plan state rows replica)
      ≡ ballot_in plan state rows replica
  unfolding ballot_in
  ballot_is replica = refl

  -- what a replica holds after the frame, before rows overwrite
  abbrev pub held_after : ℕ → ProcessorState
  held_after replica = state_after_sync plan (ballot_in plan state rows replica)

  pub next_is :
      end_of_frame plan state.done rows
      (λ replica. cond (is_up plan rows replica) (held_after replica) (state.replicas replica))
      (λ replica. cond (is_up plan rows replica) (Some (ballot_in plan state rows replica)) None)
      (λ receiver sender.
      still_on_its_way plan state.done (fresh_letter plan state rows receiver sender))
      ≡ next_state plan state rows
  unfolding next_state
  next_is = refl

pub stays_is : (plan : PlanParts) (frame : ℕ) (letter : Letter)
    → cond (int_le (block_begin plan (frame + 1)) letter.arrival) (Some letter) None
    ≡ still_on_its_way plan frame (Some letter)
unfolding still_on_its_way block_begin
stays_is plan frame letter = refl

pub stays_none : (plan : PlanParts) (frame : ℕ) → None ≡ still_on_its_way plan frame None
unfolding still_on_its_way
stays_none plan frame = refl
