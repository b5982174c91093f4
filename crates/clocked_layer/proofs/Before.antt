-- What has happened, and what has not, when an event is due: by the order of moments and of kinds.
use Rattle.std.specs.Prelude.{int_le}
use Rattle.std.specs.Int.Signed.{clash_ℤ, <ℤ-≤ℤ_trans}
use Rattle.std.proofs.lemmas.Int.{ints, by_lt_z}
use Rattle.std.proofs.Common.{◌≡◌, ℕ, ℤ, Bool, true, false, cond, Option, Some, None, ◌<ℤ◌, ◌≤ℤ◌, ◌+◌, ◌-◌, refl, sym, ap, ◌∙◌, subst, arith}
use Rattle.clock_model.specs.Order.{begin_of, block_begin, vote_of}
use Rattle.clocked_layer.proofs.FrameFacts.{letter_is, sender_up}
use Rattle.clocked_layer.proofs.Kept.{IsDue, since}
use Rattle.clocked_layer.proofs.Moves.{Arrives, Arrives_late, Begins, InOrder, Marks, Move, Of, Sends, Syncs, Votes, arrives, arrives_late, begins, is_marked, sends, syncs, votes}
use Rattle.clocked_layer.specs.Events.{delivery, own_event}
use Rattle.clocked_layer.specs.Ready.{IsTimely}
use Rattle.event_queue.specs.declared.event.Event.{Event}
use Rattle.event_queue.specs.declared.event.EventKind.TheVariants.{Vote}
use Rattle.rcp_model.specs.FrameRows.{FrameRows}
use Rattle.rcp_model.specs.Messages.{Letter, is_up}
use Rattle.rcp_model.specs.System.{SystemState, fresh_letter}
use Rattle.rcp_model.specs.declared.plan.PlanParts.{PlanParts}

pub le_yes : (a b : ℤ) → a ≤ℤ b → int_le a b ≡ true
le_yes a b h = grind (arith, ints)

pub le_no : (a b : ℤ) → b <ℤ a → int_le a b ≡ false
le_no a b h = grind (arith, ints)

-- what arrives sooner counts for nothing, and what arrives later counts
since_sooner : (from : ℤ) (place : Option Letter) (letter : Letter) → place ≡ Some letter
    → letter.arrival <ℤ from → since from place ≡ None
since_sooner from place letter is h =
    ap (since from) is ∙ ap (λ t. cond t (Some letter.message) None) (le_no _ _ h)

pub since_later : (from : ℤ) (place : Option Letter) (letter : Letter) → place ≡ Some letter
    → from ≤ℤ letter.arrival → since from place ≡ Some letter.message
since_later from place letter is h =
    ap (since from) is ∙ ap (λ t. cond t (Some letter.message) None) (le_yes _ _ h)

module _ (plan : PlanParts) (rows : FrameRows) (state : SystemState) where
  abbrev Is : Move → Event → Type 0
  Is move event = Of plan rows state move event

  abbrev Due : Marks → Move → Event → Type 0
  Due marks move event = IsDue plan rows state marks move event

  abbrev window_start : ℕ → ℤ
  window_start replica = begin_of plan state.done rows replica

  abbrev window_end : ℕ → ℤ
  window_end replica = vote_of plan state.done rows replica

  abbrev fresh_to : ℕ → ℕ → Option Letter
  fresh_to receiver sender = fresh_letter plan state rows receiver sender

  pub record BeforeBegin (marks : Marks) (replica : ℕ) : Type 0 where
    pub unbegun : marks.begun replica ≡ false
    pub unsent : marks.sent replica ≡ false
    pub unvoted : marks.voted replica ≡ false
    pub unsynced : marks.synced replica ≡ false
    -- what has come was too soon
    pub came : (sender : ℕ) → marks.came replica sender ≡ true
        → since (window_start replica) (fresh_to replica sender) ≡ None
    pub came_late : (sender : ℕ) → marks.came_late replica sender ≡ true
        → since (window_start replica) (state.letters replica sender) ≡ None

  pub record BeforeSend (marks : Marks) (replica : ℕ) : Type 0 where
    pub begun : marks.begun replica ≡ true
    pub unsent : marks.sent replica ≡ false
    pub unvoted : marks.voted replica ≡ false
    pub unsynced : marks.synced replica ≡ false
    pub none_came : (receiver : ℕ) → marks.came receiver replica ≡ false

  -- a letter that counts if the receiver has begun
  pub record Counts (marks : Marks) (receiver : ℕ) (place : Option Letter) : Type 0 where
    pub letter : Letter
    pub is : place ≡ Some letter
    pub since : marks.begun receiver ≡ true → window_start receiver ≤ℤ letter.arrival

  pub record BeforeArrival (marks : Marks) (receiver sender : ℕ) : Type 0 where
    pub sent : marks.sent sender ≡ true
    pub new : marks.came receiver sender ≡ false
    pub counts : Counts marks receiver (fresh_to receiver sender)

  pub record BeforeLate (marks : Marks) (receiver sender : ℕ) : Type 0 where
    pub none_came : marks.came receiver sender ≡ false
    pub new : marks.came_late receiver sender ≡ false
    pub counts : Counts marks receiver (state.letters receiver sender)

  pub record BeforeVote (marks : Marks) (replica : ℕ) : Type 0 where
    pub begun : marks.begun replica ≡ true
    pub sent : marks.sent replica ≡ true
    pub unvoted : marks.voted replica ≡ false
    pub unsynced : marks.synced replica ≡ false
    -- what has come arrived no later
    pub came : (sender : ℕ) (letter : Letter) → fresh_to replica sender ≡ Some letter
        → marks.came replica sender ≡ int_le letter.arrival (window_end replica)
    pub came_late : (sender : ℕ) (letter : Letter) → state.letters replica sender ≡ Some letter
        → marks.came_late replica sender ≡ int_le letter.arrival (window_end replica)

  pub record BeforeSync (marks : Marks) (replica : ℕ) : Type 0 where
    pub voted : marks.voted replica ≡ true
    pub unsynced : marks.synced replica ≡ false

  abbrev pub Before : Marks → Move → Type 0
  Before marks (Begins q) = BeforeBegin marks q
  Before marks (Sends q) = BeforeSend marks q
  Before marks (Arrives q p) = BeforeArrival marks q p
  Before marks (Arrives_late q p) = BeforeLate marks q p
  Before marks (Votes q) = BeforeVote marks q
  Before marks (Syncs q) = BeforeSync marks q

  -- the replica of an event of its own is up, and the sender of a message of the frame
  abbrev IsUp : Move → Type 0
  IsUp (Begins q) = is_up plan rows q ≡ true
  IsUp (Sends q) = is_up plan rows q ≡ true
  IsUp (Arrives q p) = is_up plan rows p ≡ true
  IsUp (Arrives_late q p) = Unit {0}
  IsUp (Votes q) = is_up plan rows q ≡ true
  IsUp (Syncs q) = is_up plan rows q ≡ true

  pub up_of : (move : Move) (event : Event) → Is move event → IsUp move
  up_of move event (begins q up) = up
  up_of move event (sends q up) = up
  up_of move event (arrives q p letter is _) = sender_up plan rows state q p letter is
  up_of move event (arrives_late q p letter is) = tt
  up_of move event (votes q up) = up
  up_of move event (syncs q up) = up

  module _ (timely : IsTimely plan rows state) where
    -- that the first can't come by the second
    abbrev Not : Move → Move → Type 0
    Not first second =
        (a b : Event) → Is first a → Is second b → InOrder a b → ⊥

    send_not_begin : (q : ℕ) → Not (Sends q) (Begins q)
    send_not_begin q a b (sends _ _) (begins _ _) h =
        omega (arith, ints, timely.order.send_follows_begin q)

    vote_not_begin : (q : ℕ) → Not (Votes q) (Begins q)
    vote_not_begin q a b (votes _ _) (begins _ _) h =
        omega (arith, ints, timely.order.send_follows_begin q, timely.order.vote_follows_send q)

    sync_not_begin : (q : ℕ) → Not (Syncs q) (Begins q)
    sync_not_begin q a b (syncs _ _) (begins _ _) h =
        omega (
          arith,
          ints,
          timely.order.send_follows_begin q,
          timely.order.vote_follows_send q,
          timely.order.sync_follows_vote q,
        )

    vote_not_send : (q : ℕ) → Not (Votes q) (Sends q)
    vote_not_send q a b (votes _ _) (sends _ _) h =
        omega (arith, ints, timely.order.vote_follows_send q)

    sync_not_send : (q : ℕ) → Not (Syncs q) (Sends q)
    sync_not_send q a b (syncs _ _) (sends _ _) h =
        omega (arith, ints, timely.order.vote_follows_send q, timely.order.sync_follows_vote q)

    sync_not_vote : (q : ℕ) → Not (Syncs q) (Votes q)
    sync_not_vote q a b (syncs _ _) (votes _ _) h =
        omega (arith, ints, timely.order.sync_follows_vote q)

    arrival_not_send : (q p : ℕ) → Not (Arrives q p) (Sends p)
    arrival_not_send q p a b (arrives _ _ letter is _) (sends _ _) h =
        let at = (letter_is plan rows state q p letter is).1 in
        omega (arith, ints, timely.order.arrival_follows_send p q)

    -- a message of the frame before comes sooner than its sender sends again
    arrival_not_late : (q p : ℕ) → Not (Arrives q p) (Arrives_late q p)
    arrival_not_late q p a b (arrives _ _ letter is _) (arrives_late _ _ other late) h =
        let at = (letter_is plan rows state q p letter is).1 in
        let sooner =
        <ℤ-≤ℤ_trans (timely.ready.sooner q p other late) (timely.order.send_from_limit p) in
        omega (arith, ints, timely.order.arrival_follows_send p q)

    -- a letter's delivery has the tick of its arrival
    arrival_event : (q p : ℕ) (letter : Letter) (event : Event) → fresh_to q p ≡ Some letter
        → Is (Arrives q p) event → event ≡ delivery state.done q p letter.arrival
    arrival_event q p letter event is (arrives _ _ other is' _) =
        let same : other ≡ letter = cc in
        ap (λ (x : Letter). delivery state.done q p x.arrival) same

    late_event : (q p : ℕ) (letter : Letter) (event : Event) → state.letters q p ≡ Some letter
        → Is (Arrives_late q p) event
        → event ≡ delivery (state.done - 1) q p letter.arrival
    late_event q p letter event is (arrives_late _ _ other is') =
        let same : other ≡ letter = cc in
        ap (λ (x : Letter). delivery (state.done - 1) q p x.arrival) same

    -- what comes by a vote arrives no later, and what comes after it later
    by_vote : (q frame p : ℕ) (tick : ℤ) (event last : Event) → Is (Votes q) event
        → last ≡ delivery frame q p tick → InOrder last event → tick ≤ℤ window_end q
    by_vote q frame p tick event last (votes _ _) is h =
        subst (λ x. InOrder x (own_event Vote state.done q (window_end q))) is h

    after_vote : (q frame p : ℕ) (tick : ℤ) (event : Event) → Is (Votes q) event
        → InOrder event (delivery frame q p tick) → window_end q <ℤ tick
    after_vote q frame p tick event (votes _ _) h = h

    module _ (marks : Marks) (move : Move) (event : Event)
        (now : Due marks move event) where
      -- what can't come after the event has happened
      has_been : (other : Move) (first : Event) → Is other first
          → (InOrder event first → ⊥) → is_marked marks other ≡ true
      has_been other first of not_after = go (is_marked marks other) refl
        where
          go : (t : Bool) → is_marked marks other ≡ t → t ≡ true
          go true e = refl
          go false e = absurd (not_after (now.due other first of e))

      -- what can't come before it has not happened
      is_to_come : (other : Move)
          → ((last : Event) → Is other last → InOrder last event → ⊥)
          → is_marked marks other ≡ false
      is_to_come other not_before = go (is_marked marks other) refl
        where
          go : (t : Bool) → is_marked marks other ≡ t → t ≡ false
          go false e = refl
          go true e = let past = now.past other e in absurd (not_before past.0 past.1 past.2)

      to_come : (other : Move) → Not other move → is_marked marks other ≡ false
      to_come other not = is_to_come other (λ last of. not last event of now.is)

      has_come : (other : Move) (first : Event) → Is other first → Not move other
          → is_marked marks other ≡ true
      has_come other first of not = has_been other first of (not event first now.is of)

    before_begin : (marks : Marks) (event : Event) (q : ℕ) → Due marks (Begins q) event
        → BeforeBegin marks q
    before_begin marks event q now = record {
      unbegun = now.new;
      unsent = to_come marks _ event now (Sends q) (send_not_begin q);
      unvoted = to_come marks _ event now (Votes q) (vote_not_begin q);
      unsynced = to_come marks _ event now (Syncs q) (sync_not_begin q);
      came = λ p t. let w = now.past (Arrives q p) t in fresh p w.0 event w.1 now.is w.2;
      came_late = λ p t. let w = now.past (Arrives_late q p) t in late p w.0 event w.1 now.is w.2;
    }
      where
        fresh : (p : ℕ) (a b : Event) → Is (Arrives q p) a
            → Is (Begins q) b → InOrder a b → since (window_start q) (fresh_to q p) ≡ None
        fresh p a b (arrives _ _ letter is _) (begins _ _) h = since_sooner _ _ letter is h

        late : (p : ℕ) (a b : Event) → Is (Arrives_late q p) a
            → Is (Begins q) b → InOrder a b
            → since (window_start q) (state.letters q p) ≡ None
        late p a b (arrives_late _ _ letter is) (begins _ _) h = since_sooner _ _ letter is h

    before_send : (marks : Marks) (event : Event) (q : ℕ) → Due marks (Sends q) event
        → BeforeSend marks q
    before_send marks event q now = record {
      begun =
          has_come marks _ event now (Begins q) _ (begins q (up_of _ _ now.is)) (send_not_begin q);
      unsent = now.new;
      unvoted = to_come marks _ event now (Votes q) (vote_not_send q);
      unsynced = to_come marks _ event now (Syncs q) (sync_not_send q);
      none_came = λ r. to_come marks _ event now (Arrives r q) (arrival_not_send r q);
    }

    before_arrival : (marks : Marks) (event : Event) (q p : ℕ)
        → Due marks (Arrives q p) event → BeforeArrival marks q p
    before_arrival marks event q p now = record {
      sent =
          has_come marks _ event now (Sends p) _ (sends p (up_of _ _ now.is))
          (arrival_not_send q p);
      new = now.new;
      counts = go event now.is (λ t. let w = now.past (Begins q) t in (w.0, w.1, w.2));
    }
      where
        after : (letter : Letter) (b : Event) → Is (Begins q) b
            → InOrder b (delivery state.done q p letter.arrival) → window_start q ≤ℤ letter.arrival
        after letter b (begins _ _) h = h

        go : (event : Event) → Is (Arrives q p) event
            → (marks.begun q ≡ true → (b : Event) × Is (Begins q) b × InOrder b event)
            → Counts marks q (fresh_to q p)
        go event (arrives _ _ letter is _) past = record {
          letter = letter;
          is = is;
          since = λ t. let w = past t in after letter w.0 w.1 w.2;
        }

    before_late : (marks : Marks) (event : Event) (q p : ℕ)
        → Due marks (Arrives_late q p) event → BeforeLate marks q p
    before_late marks event q p now = record {
      none_came = to_come marks _ event now (Arrives q p) (arrival_not_late q p);
      new = now.new;
      counts = go event now.is (λ t. let w = now.past (Begins q) t in (w.0, w.1, w.2));
    }
      where
        after : (letter : Letter) (b : Event) → Is (Begins q) b
            → InOrder b (delivery (state.done - 1) q p letter.arrival)
            → window_start q ≤ℤ letter.arrival
        after letter b (begins _ _) h = h

        go : (event : Event) → Is (Arrives_late q p) event
            → (marks.begun q ≡ true → (b : Event) × Is (Begins q) b × InOrder b event)
            → Counts marks q (state.letters q p)
        go event (arrives_late _ _ letter is) past = record {
          letter = letter;
          is = is;
          since = λ t. let w = past t in after letter w.0 w.1 w.2;
        }

    before_vote : (marks : Marks) (event : Event) (q : ℕ) → Due marks (Votes q) event
        → BeforeVote marks q
    before_vote marks event q now = record {
      begun =
          has_come marks _ event now (Begins q) _ (begins q (up_of _ _ now.is)) (vote_not_begin q);
      sent = has_come marks _ event now (Sends q) _ (sends q (up_of _ _ now.is)) (vote_not_send q);
      unvoted = now.new;
      unsynced = to_come marks _ event now (Syncs q) (sync_not_vote q);
      came = λ p letter is.
          by_lt_z (window_end q) letter.arrival
          (λ after. is_to_come marks _ event now (Arrives q p)
          (λ b of h.
          clash_ℤ after (by_vote q _ p _ event b now.is (arrival_event q p letter b is of) h))
          ∙ sym (le_no _ _ after))
          (λ by.
          has_been marks _ event now (Arrives q p) _ (arrives q p letter is (within letter by))
          (λ h. clash_ℤ (after_vote q state.done p letter.arrival event now.is h) by)
          ∙ sym (le_yes _ _ by));
      came_late = λ p letter is.
          by_lt_z (window_end q) letter.arrival
          (λ after. is_to_come marks _ event now (Arrives_late q p)
          (λ b of h.
          clash_ℤ after (by_vote q _ p _ event b now.is (late_event q p letter b is of) h))
          ∙ sym (le_no _ _ after))
          (λ by. has_been marks _ event now (Arrives_late q p) _ (arrives_late q p letter is)
          (λ h. clash_ℤ (after_vote q (state.done - 1) p letter.arrival event now.is h) by)
          ∙ sym (le_yes _ _ by));
    }
      where
        within : (letter : Letter) → letter.arrival ≤ℤ window_end q
            → letter.arrival <ℤ (block_begin plan (state.done + 1))
        within letter by =
            omega (arith, ints, timely.order.sync_follows_vote q, timely.order.sync_in_block q)

    before_sync : (marks : Marks) (event : Event) (q : ℕ) → Due marks (Syncs q) event
        → BeforeSync marks q
    before_sync marks event q now = record {
      voted = has_come marks _ event now (Votes q) _ (votes q (up_of _ _ now.is)) (sync_not_vote q);
      unsynced = now.new;
    }

    -- so it is before each event
    pub before : (marks : Marks) (move : Move) (event : Event)
        → Due marks move event → Before marks move
    before marks (Begins q) event now = before_begin marks event q now
    before marks (Sends q) event now = before_send marks event q now
    before marks (Arrives q p) event now = before_arrival marks event q p now
    before marks (Arrives_late q p) event now = before_late marks event q p now
    before marks (Votes q) event now = before_vote marks event q now
    before marks (Syncs q) event now = before_sync marks event q now
