-- All replicas phase by phase: one frame of the system.
use Rattle.std.proofs.Math.Path.{fun_ext}
use Rattle.std.proofs.Common.{◌≡◌, ℕ, nat_lt, Bool, true, false, cond, not, ◌&&◌, ◌==◌, Option, Some, None, refl, ap, ap₂, ◌∙◌}
use Rattle.std.specs.Option.{option_and_then, option_or}
use Rattle.rcp_base.specs.Message.{Content}
use Rattle.rcp_model.specs.declared.plan.PlanParts.{PlanParts}
use Rattle.rcp_model.specs.Ballot.{Ballot, ballot_of}
use Rattle.rcp_model.specs.FrameRows.{FrameRows, is_dropped}
use Rattle.rcp_model.specs.Messages.{Letter, arrival_of, goes_out, heard_message, in_time, is_up, is_voted, letter_to, message_to, own_message}
use Rattle.rcp_model.specs.System.{SystemState, ballot_in, computed_cells, end_of_frame, fresh_letter, heard_in, next_state, state_after_sync, still_on_its_way}
use Rattle.rcp_model.specs.Uniprocessor.{ProcessorState}
use Rattle.phase_machine.specs.Phase.{last_stage}
use Rattle.phase_machine.specs.Seats.{Seat, begun_seat, sent_seat, synced_seat, voted_seat, waiting_seat}
use Rattle.distributed_layer.specs.Together.{boxes_after, letters_together, state_together, synced_together}

or_none : {A : Type 0} (one : Option A) → option_or one None ≡ one
or_none None = refl
or_none (Some x) = refl

module _ (plan : PlanParts) (state : SystemState) (rows : FrameRows)
    (boxes : ℕ → ℕ → Option Content) where
  -- what a replica says that computes what it holds
  abbrev pub said : ℕ → Content
  said p =
      let held = state.replicas p in
      own_message plan (is_voted plan) held.slot (computed_cells plan rows held)

  -- a replica's seat after its send, by whether it is up
  abbrev sent_at : ℕ → Bool → Seat
  sent_at p up =
      let waiting = waiting_seat state p (boxes p) in
      let begun = cond up (begun_seat plan rows waiting) waiting in
      cond up (sent_seat plan begun) begun

  -- the letters that went out
  abbrev fresh : ℕ → ℕ → Option Letter
  fresh = letters_together plan state rows boxes

  -- they are those of the next state
  pub letters_are : (q p : ℕ) → fresh q p ≡ fresh_letter plan state rows q p
  unfolding fresh_letter letter_to goes_out
  letters_are q p = go (is_up plan rows p)
    where
      out : Bool → Content → Option Letter
      out up own =
          cond (up && nat_lt q plan.replicas && not (p == q) && not (is_dropped rows p q))
          (Some (record {
            arrival = arrival_of plan state.done rows p q;
            message = message_to rows own p q;
          })) None

      go : (up : Bool) → option_and_then (out up) (sent_at p up).own ≡ out up (said p)
      go true = refl
      go false = refl

  -- mailboxes of a replica that are filled
  abbrev filled : ℕ → (ℕ → Option Content) → ℕ → Option Content
  filled q old =
      boxes_after plan state.done rows q (fresh q)
      (boxes_after plan state.done rows q (state.letters q) old)

  -- what stands in them, with its own message
  abbrev heard : ℕ → ℕ → Option Content
  heard q p = cond (p == q) (Some (said q)) (filled q (λ sender. None) p)

  -- it is what the replica hears
  heard_is : (q p : ℕ) → heard q p ≡ heard_in plan state rows q p
  unfolding heard_in heard_message
  heard_is q p =
      ap₂ (λ (now : Option Letter) (late : Option Content).
      cond (p == q) (Some (said q)) (option_or (in_time plan state.done rows q now) late))
      (letters_are q p) (or_none (in_time plan state.done rows q (state.letters q p)))

  -- the ballot over it is the replica's
  ballot_is : (q : ℕ) →
      ballot_of plan (is_voted plan) (state.replicas q).slot
      (computed_cells plan rows (state.replicas q)) (heard q)
      ≡ ballot_in plan state rows q
  unfolding ballot_in
  ballot_is q =
      ap (ballot_of plan (is_voted plan) (state.replicas q).slot
      (computed_cells plan rows (state.replicas q))) (fun_ext (λ p. heard_is q p))

  -- a replica's seat after its sync, by whether it is up
  abbrev seat_at : ℕ → Bool → Seat
  seat_at q up =
      let sent = sent_at q up in
      let full = record sent { boxes = filled q sent.boxes } in
      let voted = cond up (voted_seat plan q full) full in
      cond up (synced_seat plan voted) voted

  -- it has come to the last stage, or waits where it is down
  stage_at : (q : ℕ) (up : Bool) → (seat_at q up).stage ≡ last_stage up
  stage_at q true = refl
  stage_at q false = refl

  pub ended_at : (q : ℕ)
      → (synced_together plan state rows boxes q).stage ≡ last_stage (is_up plan rows q)
  ended_at q = stage_at q (is_up plan rows q)

  -- what it holds after a sync
  abbrev synced : ℕ → ProcessorState
  synced q = state_after_sync plan (ballot_in plan state rows q)

  held_at : (q : ℕ) (up : Bool) → (seat_at q up).held ≡ cond up (synced q) (state.replicas q)
  held_at q true = ap (state_after_sync plan) (ballot_is q)
  held_at q false = refl

  ballot_at : (q : ℕ) (up : Bool)
      → cond up (seat_at q up).ballot None ≡ cond up (Some (ballot_in plan state rows q)) None
  ballot_at q true = ap Some (ballot_is q)
  ballot_at q false = refl

  -- the state after such a frame is the next one
  pub together_is : state_together plan state rows boxes ≡ next_state plan state rows
  unfolding next_state
  together_is =
      ap₂ (λ (held : ℕ → ProcessorState) (voted : ℕ → Option Ballot).
      end_of_frame plan state.done rows held voted
      (λ q p. still_on_its_way plan state.done (fresh q p)))
      (fun_ext (λ q. held_at q (is_up plan rows q)))
      (fun_ext (λ q. ballot_at q (is_up plan rows q)))
      ∙ ap (end_of_frame plan state.done rows
      (λ q. cond (is_up plan rows q) (synced q) (state.replicas q))
      (λ q. cond (is_up plan rows q) (Some (ballot_in plan state rows q)) None))
      (fun_ext (λ q. fun_ext (λ p. ap (still_on_its_way plan state.done) (letters_are q p))))
