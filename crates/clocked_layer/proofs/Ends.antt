-- What is kept when all events have happened is the state of the next frame; and the last stages.
use mathlib.Core.Path.{fun_ext}
use Rattle.std.specs.Prelude.{int_le}
use Rattle.std.specs.Int.Signed.{clash_ℤ}
use Rattle.std.proofs.lemmas.Int.{by_lt_z}
use Rattle.std.proofs.Common.{◌≡◌, ℕ, ◌+◌, ◌<ℤ◌, Bool, true, false, cond, not, Option, Some, None, refl, sym, ap, ap₂, ◌∙◌, subst}
use Rattle.clock_model.specs.Order.{block_begin}
use Rattle.clocked_layer.proofs.Before.{Before, le_no, le_yes, up_of}
use Rattle.clocked_layer.proofs.FrameFacts.{held_after, next_is, sender_up, stays_is, stays_none}
use Rattle.clocked_layer.proofs.Kept.{IsAll, IsKept, stage_by}
use Rattle.clocked_layer.proofs.Moves.{Arrives, Arrives_late, Begins, Marks, Move, Of, Sends, Syncs, Votes, arrives, arrives_late, begins, sends, syncs, votes}
use Rattle.clocked_layer.proofs.TableLemmas.{cond_not, cond_twice, none_both, tests_agree}
use Rattle.clocked_layer.specs.Block.{Block, closed_state}
use Rattle.clocked_layer.specs.Way.{StageFor}
use Rattle.event_queue.specs.declared.event.Event.{Event}
use Rattle.phase_machine.specs.Seats.{Finished, Waiting}
use Rattle.rcp_model.specs.Ballot.{Ballot}
use Rattle.rcp_model.specs.FrameRows.{FrameRows}
use Rattle.rcp_model.specs.Messages.{Letter, is_up}
use Rattle.rcp_model.specs.System.{SystemState, ballot_in, end_of_frame, fresh_letter, next_state, still_on_its_way}
use Rattle.rcp_model.specs.Uniprocessor.{ProcessorState}
use Rattle.rcp_model.specs.declared.plan.PlanParts.{PlanParts}

same_end : (plan : PlanParts) (rows : FrameRows) (done done' : ℕ)
    (replicas replicas' : ℕ → ProcessorState) (ballots ballots' : ℕ → Option Ballot)
    (letters letters' : ℕ → ℕ → Option Letter)
    → done ≡ done' → ((q : ℕ) → replicas q ≡ replicas' q) → ((q : ℕ) → ballots q ≡ ballots' q)
    → ((q p : ℕ) → letters q p ≡ letters' q p)
    → end_of_frame plan done rows replicas ballots letters
    ≡ end_of_frame plan done' rows replicas' ballots' letters'
same_end plan rows done done' replicas replicas' ballots ballots' letters letters' d r b l =
    ap (λ x. end_of_frame plan x rows replicas ballots letters) d
    ∙ ap (λ x. end_of_frame plan done' rows x ballots letters) (fun_ext r)
    ∙ ap (λ x. end_of_frame plan done' rows replicas' x letters) (fun_ext b)
    ∙ ap (end_of_frame plan done' rows replicas' ballots') (fun_ext (λ q. fun_ext (l q)))

module _ (plan : PlanParts) (rows : FrameRows) (state : SystemState) where
  abbrev fresh_to : ℕ → ℕ → Option Letter
  fresh_to receiver sender = fresh_letter plan state rows receiver sender

  -- a replica's own moves have happened where it is up
  has_synced : (marks : Marks) (q : ℕ) → IsAll plan rows state marks
      → marks.synced q ≡ is_up plan rows q
  has_synced marks q all =
      tests_agree _ _ (λ up. all.all (Syncs q) _ (syncs q up))
      (λ t. let w = all.only (Syncs q) t in up_of plan rows state _ _ w.1)

  has_voted : (marks : Marks) (q : ℕ) → IsAll plan rows state marks
      → marks.voted q ≡ is_up plan rows q
  has_voted marks q all =
      tests_agree _ _ (λ up. all.all (Votes q) _ (votes q up))
      (λ t. let w = all.only (Votes q) t in up_of plan rows state _ _ w.1)

  has_sent : (marks : Marks) (q : ℕ) → IsAll plan rows state marks
      → marks.sent q ≡ is_up plan rows q
  has_sent marks q all =
      tests_agree _ _ (λ up. all.all (Sends q) _ (sends q up))
      (λ t. let w = all.only (Sends q) t in up_of plan rows state _ _ w.1)

  has_begun : (marks : Marks) (q : ℕ) → IsAll plan rows state marks
      → marks.begun q ≡ is_up plan rows q
  has_begun marks q all =
      tests_agree _ _ (λ up. all.all (Begins q) _ (begins q up))
      (λ t. let w = all.only (Begins q) t in up_of plan rows state _ _ w.1)

  arrived_within : (q p : ℕ) (letter : Letter) (event : Event)
      → Of plan rows state (Arrives q p) event → fresh_to q p ≡ Some letter
      → letter.arrival <ℤ (block_begin plan (state.done + 1))
  arrived_within q p letter event (arrives _ _ other is h) is' =
      let same : other ≡ letter = cc in
      subst (λ x. x.arrival <ℤ (block_begin plan (state.done + 1))) same h

  -- a letter has come where it arrives before the block ends
  has_come : (marks : Marks) (q p : ℕ) (letter : Letter) → IsAll plan rows state marks
      → fresh_to q p ≡ Some letter
      → marks.came q p ≡ not (int_le (block_begin plan (state.done + 1)) letter.arrival)
  has_come marks q p letter all is =
      by_lt_z letter.arrival (block_begin plan (state.done + 1))
      (λ h. all.all (Arrives q p) _ (arrives q p letter is h) ∙ sym (ap not (le_no _ _ h)))
      (λ h. tests_agree _ _ (λ t. cc (le_yes _ _ h, t))
      (λ t. let w = all.only (Arrives q p) t in clash_ℤ (arrived_within q p letter w.0 w.1 is) h))

  letters_left : (marks : Marks) (q p : ℕ) (place : Option Letter) → IsAll plan rows state marks
      → fresh_to q p ≡ place
      → cond (marks.came q p) None (cond (marks.sent p) place None)
      ≡ still_on_its_way plan state.done place
  letters_left marks q p None all is =
      none_both (marks.came q p) (marks.sent p) ∙ stays_none plan state.done
  letters_left marks q p (Some letter) all is =
      ap₂ (λ t u. cond t None (cond u (Some letter) None)) (has_come marks q p letter all is)
      (has_sent marks p all ∙ sender_up plan rows state q p letter is)
      ∙ cond_not (int_le (block_begin plan (state.done + 1)) letter.arrival) (Some letter)
      ∙ stays_is plan state.done letter

  pub at_end : (marks : Marks) (block : Block) → IsAll plan rows state marks
      → IsKept plan rows state marks block
      → closed_state plan rows block ≡ next_state plan state rows
  at_end marks block all kept =
      same_end plan rows _ _ _ _ _ _ _ _ kept.done
      (λ q. (kept.seats q).held
      ∙ ap (λ t. cond t (held_after plan rows state q) (state.replicas q)) (has_synced marks q all))
      (λ q. ap (λ x. cond (is_up plan rows q) x None)
      ((kept.seats q).ballot
      ∙ ap (λ t. cond t (Some (ballot_in plan state rows q)) (state.ballots q))
      (has_voted marks q all))
      ∙ cond_twice (is_up plan rows q) _ _ _)
      (λ q p. kept.fresh q p ∙ letters_left marks q p (fresh_to q p) all refl)
      ∙ next_is plan rows state

  -- an event of a replica's own finds it at its stage
  pub stage_at : (marks : Marks) (block : Block) (move : Move) (event : Event)
      → Of plan rows state move event → Before plan rows state marks move
      → IsKept plan rows state marks block
      → StageFor event.kind (block.seats event.replica).stage
  stage_at marks block move event (begins q up) now kept =
      (kept.seats q).stage
      ∙ ap₂ (λ u v. stage_by (marks.begun q) (marks.sent q) u v) now.unvoted now.unsynced
      ∙ ap₂ (λ u v. stage_by u v false false) now.unbegun now.unsent
  stage_at marks block move event (sends q up) now kept =
      (kept.seats q).stage
      ∙ ap₂ (λ u v. stage_by (marks.begun q) (marks.sent q) u v) now.unvoted now.unsynced
      ∙ ap₂ (λ u v. stage_by u v false false) now.begun now.unsent
  stage_at marks block move event (arrives q p letter is within) now kept = tt
  stage_at marks block move event (arrives_late q p letter is) now kept = tt
  stage_at marks block move event (votes q up) now kept =
      (kept.seats q).stage
      ∙ ap₂ (λ u v. stage_by (marks.begun q) (marks.sent q) u v) now.unvoted now.unsynced
      ∙ ap (λ u. stage_by (marks.begun q) u false false) now.sent
  stage_at marks block move event (syncs q up) now kept =
      (kept.seats q).stage
      ∙ ap₂ (λ u v. stage_by (marks.begun q) (marks.sent q) u v) now.voted now.unsynced

  -- when all have happened, who is up has finished, and who is down has not begun
  pub last_stage : (marks : Marks) (block : Block) → IsAll plan rows state marks
      → IsKept plan rows state marks block → (q : ℕ)
      → (block.seats q).stage ≡ cond (is_up plan rows q) Finished Waiting
  last_stage marks block all kept q =
      (kept.seats q).stage
      ∙ ap₂ (stage_by (marks.begun q) (marks.sent q))
      (has_voted marks q all) (has_synced marks q all)
      ∙ ap₂ (λ u v. stage_by u v up up) (has_begun marks q all) (has_sent marks q all)
      ∙ go up
    where
      up : Bool
      up = is_up plan rows q

      go : (t : Bool) → stage_by t t t t ≡ cond t Finished Waiting
      go true = refl
      go false = refl

  -- and no letter of the frame before is on its way
  pub all_came : (marks : Marks) (block : Block) → IsAll plan rows state marks
      → IsKept plan rows state marks block → block.late ≡ (λ receiver sender. None)
  all_came marks block all kept =
      fun_ext (λ q. fun_ext (λ p. kept.late q p ∙ gone q p (state.letters q p) refl))
    where
      gone : (q p : ℕ) (place : Option Letter) → state.letters q p ≡ place
          → cond (marks.came_late q p) None place ≡ None
      gone q p None is = none_both (marks.came_late q p) true
      gone q p (Some letter) is =
          ap (λ t. cond t None (Some letter))
          (all.all (Arrives_late q p) _ (arrives_late q p letter is))
