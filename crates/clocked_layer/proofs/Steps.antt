-- What is kept through each event.
use mathlib.Core.Path.{fun_ext}
use Rattle.std.specs.Prelude.{int_le, unwrap_or}
use Rattle.std.specs.Option.{option_or}
use Rattle.std.proofs.Common.{◌≡◌, ℕ, ℤ, List, ◌<◌, ◌-◌, Bool, true, false, cond, ◌&&◌, ◌==◌, [], Option, Some, None, refl, sym, ap, ap₂, ◌∙◌, subst, arith, eq-eqb, ne_eqb}
use Rattle.clock_model.specs.Order.{begin_of, vote_of}
use Rattle.clocked_layer.proofs.Before.{Before, BeforeArrival, BeforeBegin, BeforeLate, BeforeSend, BeforeSync, BeforeVote, Counts, before, since_later}
use Rattle.clocked_layer.proofs.FrameFacts.{ballot_is, heard_is, held_after, in_time_is, letter_sent, own_of_held}
use Rattle.clocked_layer.proofs.Kept.{IsDue, IsKept, IsKeptAt, Course, in_box, course_of, since, stage_by}
use Rattle.clocked_layer.proofs.Moves.{Arrives, Arrives_late, Begins, Marks, Move, Of, Sends, Syncs, Votes, arrives, arrives_late, begins, mark, sends, syncs, votes}
use Rattle.clocked_layer.proofs.TableLemmas.{cond_and, none_where, pair_emptied}
use Rattle.clocked_layer.specs.Block.{Block, at_seat, block_after_delivery, block_after_event, block_after_kind, block_after_send}
use Rattle.clocked_layer.specs.Ready.{IsTimely}
use Rattle.event_queue.specs.declared.event.Event.{Event}
use Rattle.mailbox.proofs.PutLaws.{by_place}
use Rattle.mailbox.specs.Mailboxes.{put}
use Rattle.phase_machine.specs.Seats.{Seat, begun_seat, got, got_seat, heard_now, own_now, sent_seat, synced_seat, voted_seat}
use Rattle.rcp_base.specs.Message.{Content}
use Rattle.rcp_model.specs.Ballot.{ballot_of}
use Rattle.rcp_model.specs.FrameRows.{FrameRows}
use Rattle.rcp_model.specs.Messages.{Letter, in_time, is_voted, letter_to, own_message}
use Rattle.rcp_model.specs.System.{SystemState, ballot_in, computed_cells, fresh_letter, heard_in}
use Rattle.rcp_model.specs.Uniprocessor.{ProcessorState}
use Rattle.rcp_model.specs.declared.plan.PlanParts.{PlanParts}
use Rattle.replica_parts.specs.States.{state_after_vote}

-- what stands in a box after a letter
abbrev arrived : Option Letter → Option Content → Option Content
arrived None old = old
arrived (Some letter) old = Some letter.message

got_is : (boxes : ℕ → Option Content) (p c : ℕ) (place : Option Letter) (new : Option Content)
    → arrived place (boxes p) ≡ new → got boxes p place c ≡ cond (c == p) new (boxes c)
got_is boxes p c None new h =
    by_place (λ t. boxes c ≡ cond t new (boxes c)) c p (λ e. ap boxes e ∙ h) refl
got_is boxes p c (Some letter) new h = ap (λ x. cond (c == p) x (boxes c)) h

module _ (plan : PlanParts) (rows : FrameRows) (state : SystemState) where
  abbrev At : ℕ → Course → Seat → Type 0
  At replica part seat = IsKeptAt plan rows state replica part seat

  abbrev Kept : Marks → Block → Type 0
  Kept marks block = IsKept plan rows state marks block

  abbrev box : (receiver sender : ℕ) → Bool → Bool → Option Content
  box receiver sender came came_late = in_box plan rows state receiver sender came came_late

  abbrev fresh_to : ℕ → ℕ → Option Letter
  fresh_to receiver sender = fresh_letter plan state rows receiver sender

  abbrev held_now : ℕ → Bool → ProcessorState
  held_now q synced = cond synced (held_after plan rows state q) (state.replicas q)

  -- what one replica does changes what is kept of it alone
  seats_kept : (change : ℕ → Bool → Course) (old : ℕ → Seat) (q : ℕ) (new : Seat)
      → ((r : ℕ) → At r (change r false) (old r)) → At q (change q true) new
      → (r : ℕ) → At r (change r (r == q)) (put old q new r)
  seats_kept change old q new kept here r =
      by_place (λ t. At r (change r t) (cond t new (old r))) r q
      (λ e. subst (λ x. At x (change x true) new) (sym e) here) (kept r)

  pub at_begin : (marks : Marks) (block : Block) (q : ℕ) → BeforeBegin plan rows state marks q
      → Kept marks block
      → Kept (mark marks (Begins q)) (at_seat (begun_seat plan rows) block q)
  at_begin marks block q now kept = record {
    done = kept.done;
    seats =
        seats_kept (λ r t. record (course_of marks r) { begun = cond t true (marks.begun r) })
        block.seats q (begun_seat plan rows (block.seats q)) kept.seats here;
    fresh = kept.fresh;
    late = kept.late;
  }
    where
      old : At q (course_of marks q) (block.seats q)
      old = kept.seats q

      emptied : (p : ℕ)
          → None ≡ box q p (marks.came q p) (marks.came_late q p)
      emptied p =
          sym (ap₂ option_or (none_where _ _ (now.came p)) (none_where _ _ (now.came_late p)))

      here : At q (record (course_of marks q) { begun = true })
          (begun_seat plan rows (block.seats q))
      here = record {
        stage =
            sym (ap₂ (λ u v. stage_by true (marks.sent q) v u) now.unsynced now.unvoted
            ∙ ap (λ u. stage_by true u false false) now.unsent);
        held = old.held;
        computed =
            ap (λ held. Some (computed_cells plan rows held))
            (old.held ∙ ap (held_now q) now.unsynced);
        own = old.own;
        ballot = old.ballot;
        boxes = λ _. emptied;
      }

  pub at_send : (marks : Marks) (block : Block) (p : ℕ) → BeforeSend plan rows state marks p
      → Kept marks block
      → Kept (mark marks (Sends p)) (block_after_send plan rows block p)
  at_send marks block p now kept = record {
    done = kept.done;
    seats =
        seats_kept (λ r t. record (course_of marks r) { sent = cond t true (marks.sent r) })
        block.seats p (sent_seat plan (block.seats p)) kept.seats here;
    fresh = λ q r.
        by_place (λ t.
        cond t (letter_to plan block.done rows own p q) (block.fresh q r)
        ≡ cond (marks.came q r) None (cond (cond t true (marks.sent r)) (fresh_to q r) None)) r p
        (λ e. subst (λ x.
        letter_to plan block.done rows own p q ≡ cond (marks.came q x) None (fresh_to q x))
        (sym e) (flies q))
        (kept.fresh q r);
    late = kept.late;
  }
    where
      own : Content
      own = own_now plan (block.seats p)

      old : At p (course_of marks p) (block.seats p)
      old = kept.seats p

      message : own_now plan (block.seats p) ≡ own_of_held plan rows (state.replicas p)
      message =
          ap₂ (λ (held : ProcessorState) cells.
          own_message plan (is_voted plan) held.slot (unwrap_or cells []))
          (old.held ∙ ap (held_now p) now.unsynced)
          (old.computed
          ∙ ap (λ t. cond t (Some (computed_cells plan rows (state.replicas p))) None) now.begun)

      here : At p (record (course_of marks p) { sent = true }) (sent_seat plan (block.seats p))
      here = record {
        stage = sym (ap₂ (λ u v. stage_by (marks.begun p) true v u) now.unsynced now.unvoted);
        held = old.held;
        computed = old.computed;
        own = ap Some message;
        ballot = old.ballot;
        boxes = old.boxes;
      }

      flies : (q : ℕ)
          → letter_to plan block.done rows (own_now plan (block.seats p)) p q
          ≡ cond (marks.came q p) None (fresh_to q p)
      flies q =
          ap₂ (λ n own. letter_to plan n rows own p q) kept.done message
          ∙ letter_sent plan rows state q p
          ∙ sym (ap (λ t. cond t None (fresh_to q p)) (now.none_came q))

  -- a letter that counts is what its receiver has since it began
  takes_in : (marks : Marks) (q : ℕ) (place : Option Letter) (old : Option Content)
      → Counts plan rows state marks q place → marks.begun q ≡ true
      → arrived place old ≡ since (begin_of plan state.done rows q) place
  takes_in marks q place old counts begun =
      ap (λ x. arrived x old) counts.is
      ∙ sym (since_later _ _ counts.letter counts.is (counts.since begun))

  -- so it is, whatever stood there of the frame before
  takes_first : (marks : Marks) (q : ℕ) (place : Option Letter) (old late : Option Content)
      → Counts plan rows state marks q place → marks.begun q ≡ true
      → arrived place old ≡ option_or (since (begin_of plan state.done rows q) place) late
  takes_first marks q place old late counts begun =
      ap (λ x. arrived x old) counts.is
      ∙ sym (ap (λ x. option_or x late)
      (since_later _ _ counts.letter counts.is (counts.since begun)))

  pub at_arrival : (marks : Marks) (block : Block) (q p : ℕ)
      → BeforeArrival plan rows state marks q p → Kept marks block
      → Kept (mark marks (Arrives q p)) (block_after_delivery true block q p)
  at_arrival marks block q p now kept = record {
    done = kept.done;
    seats =
        seats_kept
        (λ r t. record (course_of marks r) {
          came = λ c. cond (t && (c == p)) true (marks.came r c);
        })
        block.seats q (got_seat p (block.fresh q p) (block.seats q)) kept.seats here;
    fresh =
        pair_emptied block.fresh (λ a c. cond (marks.sent c) (fresh_to a c) None)
        marks.came q p kept.fresh;
    late = kept.late;
  }
    where
      old : At q (course_of marks q) (block.seats q)
      old = kept.seats q

      flying : block.fresh q p ≡ fresh_to q p
      flying =
          kept.fresh q p
          ∙ ap₂ (λ t u. cond t None (cond u (fresh_to q p) None)) now.new now.sent

      put_in : marks.begun q ≡ true
          → arrived (block.fresh q p) ((block.seats q).boxes p)
          ≡ box q p true (marks.came_late q p)
      put_in begun =
          ap (λ x. arrived x ((block.seats q).boxes p)) flying
          ∙ takes_first marks q _ _ _ now.counts begun

      here : At q (record (course_of marks q) { came = λ c. cond (c == p) true (marks.came q c) })
          (got_seat p (block.fresh q p) (block.seats q))
      here = record {
        stage = old.stage;
        held = old.held;
        computed = old.computed;
        own = old.own;
        ballot = old.ballot;
        boxes = λ begun c.
            got_is (block.seats q).boxes p c (block.fresh q p) _ (put_in begun)
            ∙ by_place (λ t.
            cond t (box q p true (marks.came_late q p)) ((block.seats q).boxes c)
            ≡ box q c (cond t true (marks.came q c)) (marks.came_late q c)) c p
            (λ e. sym (ap (λ x. box q x true (marks.came_late q x)) e))
            (old.boxes begun c);
      }

  pub at_late : (marks : Marks) (block : Block) (q p : ℕ)
      → BeforeLate plan rows state marks q p → Kept marks block
      → Kept (mark marks (Arrives_late q p)) (block_after_delivery false block q p)
  at_late marks block q p now kept = record {
    done = kept.done;
    seats =
        seats_kept
        (λ r t. record (course_of marks r) {
          came_late = λ c. cond (t && (c == p)) true (marks.came_late r c);
        })
        block.seats q (got_seat p (block.late q p) (block.seats q)) kept.seats here;
    fresh = kept.fresh;
    late = pair_emptied block.late state.letters marks.came_late q p kept.late;
  }
    where
      old : At q (course_of marks q) (block.seats q)
      old = kept.seats q

      flying : block.late q p ≡ state.letters q p
      flying = kept.late q p ∙ ap (λ t. cond t None (state.letters q p)) now.new

      put_in : marks.begun q ≡ true
          → arrived (block.late q p) ((block.seats q).boxes p)
          ≡ box q p (marks.came q p) true
      put_in begun =
          ap (λ x. arrived x ((block.seats q).boxes p)) flying
          ∙ takes_in marks q _ _ now.counts begun
          ∙ sym (ap (λ t. box q p t true) now.none_came)

      here : At q
          (record (course_of marks q) { came_late = λ c. cond (c == p) true (marks.came_late q c) })
          (got_seat p (block.late q p) (block.seats q))
      here = record {
        stage = old.stage;
        held = old.held;
        computed = old.computed;
        own = old.own;
        ballot = old.ballot;
        boxes = λ begun c.
            got_is (block.seats q).boxes p c (block.late q p) _ (put_in begun)
            ∙ by_place (λ t.
            cond t (box q p (marks.came q p) true) ((block.seats q).boxes c)
            ≡ box q c (marks.came q c) (cond t true (marks.came_late q c))) c p
            (λ e. sym (ap (λ x. box q x (marks.came q x) true) e))
            (old.boxes begun c);
      }

  pub at_vote : (marks : Marks) (block : Block) (q : ℕ) → BeforeVote plan rows state marks q
      → Kept marks block
      → Kept (mark marks (Votes q)) (at_seat (voted_seat plan q) block q)
  at_vote marks block q now kept = record {
    done = kept.done;
    seats =
        seats_kept (λ r t. record (course_of marks r) { voted = cond t true (marks.voted r) })
        block.seats q (voted_seat plan q (block.seats q)) kept.seats here;
    fresh = kept.fresh;
    late = kept.late;
  }
    where
      old : At q (course_of marks q) (block.seats q)
      old = kept.seats q

      computed : List ℤ
      computed = computed_cells plan rows (state.replicas q)

      -- what has come since the begin by the vote came in the window
      in_window : (t : Bool) (place : Option Letter)
          → ((letter : Letter) → place ≡ Some letter
          → t ≡ int_le letter.arrival (vote_of plan state.done rows q))
          → cond t (since (begin_of plan state.done rows q) place) None
          ≡ in_time plan state.done rows q place
      in_window t None h = none_where t None (λ _. refl)
      in_window t (Some letter) h =
          ap (λ u. cond u (since (begin_of plan state.done rows q) (Some letter)) None)
          (h letter refl)
          ∙ cond_and _ _ (Some letter.message) ∙ in_time_is plan rows state q letter

      hears : (p : ℕ) → heard_now q (block.seats q) p ≡ heard_in plan state rows q p
      hears p =
          ap₂ (cond (p == q))
          (old.own
          ∙ ap (λ t. cond t (Some (own_of_held plan rows (state.replicas q))) None) now.sent)
          (old.boxes now.begun p
          ∙ ap₂ option_or (in_window _ _ (now.came p)) (in_window _ _ (now.came_late p)))
          ∙ heard_is plan rows state q p

      votes_so :
          ballot_of plan (is_voted plan) (block.seats q).held.slot
          (unwrap_or (block.seats q).computed []) (heard_now q (block.seats q))
          ≡ ballot_in plan state rows q
      votes_so =
          ap₂ (λ (held : ProcessorState) cells.
          ballot_of plan (is_voted plan) held.slot (unwrap_or cells [])
          (heard_now q (block.seats q)))
          (old.held ∙ ap (held_now q) now.unsynced)
          (old.computed ∙ ap (λ t. cond t (Some computed) None) now.begun)
          ∙ ap (ballot_of plan (is_voted plan) (state.replicas q).slot computed) (fun_ext hears)
          ∙ ballot_is plan rows state q

      here : At q (record (course_of marks q) { voted = true }) (voted_seat plan q (block.seats q))
      here = record {
        stage = sym (ap (λ t. stage_by (marks.begun q) (marks.sent q) true t) now.unsynced);
        held = old.held;
        computed = old.computed;
        own = old.own;
        ballot = ap Some votes_so;
        boxes = old.boxes;
      }

  pub at_sync : (marks : Marks) (block : Block) (q : ℕ) → BeforeSync plan rows state marks q
      → Kept marks block
      → Kept (mark marks (Syncs q)) (at_seat (synced_seat plan) block q)
  at_sync marks block q now kept = record {
    done = kept.done;
    seats =
        seats_kept (λ r t. record (course_of marks r) { synced = cond t true (marks.synced r) })
        block.seats q (synced_seat plan (block.seats q)) kept.seats here;
    fresh = kept.fresh;
    late = kept.late;
  }
    where
      old : At q (course_of marks q) (block.seats q)
      old = kept.seats q

      here : At q (record (course_of marks q) { synced = true }) (synced_seat plan (block.seats q))
      here = record {
        stage = refl;
        held =
            ap₂ (state_after_vote plan)
            (old.ballot
            ∙ ap (λ t. cond t (Some (ballot_in plan state rows q)) (state.ballots q)) now.voted)
            (old.held ∙ ap (held_now q) now.unsynced);
        computed = old.computed;
        own = old.own;
        ballot = old.ballot;
        boxes = old.boxes;
      }

  module _ (timely : IsTimely plan rows state) where
    through : (marks : Marks) (block : Block) (move : Move) (event : Event)
        → Of plan rows state move event → Before plan rows state marks move
        → Kept marks block
        → Kept (mark marks move) (block_after_kind event.kind plan rows block event)
    through marks block move event (begins q up) now kept = at_begin marks block q now kept
    through marks block move event (sends q up) now kept = at_send marks block q now kept
    through marks block move event (arrives q p letter is within) now kept =
        subst (λ t. Kept (mark marks (Arrives q p)) (block_after_delivery t block q p))
        (sym (eq-eqb state.done block.done (sym kept.done))) (at_arrival marks block q p now kept)
    through marks block move event (arrives_late q p letter is) now kept =
        let earlier : 0 < state.done = timely.ready.done q p letter is in
        let same : block.done ≡ state.done = kept.done in
        subst (λ t. Kept (mark marks (Arrives_late q p)) (block_after_delivery t block q p))
        (sym (ne_eqb (state.done - 1) block.done (λ e. omega arith)))
        (at_late marks block q p now kept)
    through marks block move event (votes q up) now kept = at_vote marks block q now kept
    through marks block move event (syncs q up) now kept = at_sync marks block q now kept

    -- which events are left enters no other part
    pub step : (marks : Marks) (block : Block) (move : Move) (event : Event)
        → IsDue plan rows state marks move event → Kept marks block
        → Kept (mark marks move) (block_after_event plan rows block event)
    step marks block move event now kept =
        let first = before plan rows state timely marks move event now in
        let w = through marks block move event now.is first kept in
        record { done = w.done; seats = w.seats; fresh = w.fresh; late = w.late }
