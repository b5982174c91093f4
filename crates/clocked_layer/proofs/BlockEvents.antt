-- The events of a block: each is a move, and each move stands there once.
use Rattle.std.specs.List.{flat_map, range_with_len, AllByRecursion}
use Rattle.std.proofs.lemmas.Int.{ints}
use Rattle.std.proofs.lemmas.Bool.{and_parts}
use Rattle.std.proofs.Common.{◌≡◌, ℕ, ℤ, ◌+◌, ◌-◌, ◌<◌, ◌<ℤ◌, Bool, true, false, cond, int_lt, List, [], ◌∷◌, Option, Some, None, refl, sym, ap, ap₂, ◌∙◌, subst, arith, ltb-true, eq-eqb, ne_eqb}
use Rattle.clock_model.specs.Order.{begin_of, block_begin, send_of, sync_of, vote_of}
use Rattle.clocked_layer.proofs.Counts.{all_append, all_flat, count, count_append, count_in, count_one, elsewhere, move_of}
use Rattle.clocked_layer.proofs.FrameFacts.{letter_range}
use Rattle.clocked_layer.proofs.Moves.{Arrives, Arrives_late, Begins, Move, Of, Sends, Syncs, Votes, arrives, arrives_late, begins, same_move, same_move_refl, sends, syncs, votes}
use Rattle.clocked_layer.specs.Events.{block_events, delivery, events_at, events_from, fresh_events, late_events, own_event, own_events}
use Rattle.clocked_layer.specs.Ready.{IsTimely}
use Rattle.event_queue.specs.declared.event.Event.{Event}
use Rattle.event_queue.specs.declared.event.EventKind.TheVariants.{Begin, Send, Sync, Vote}
use Rattle.rcp_model.specs.FrameRows.{FrameRows}
use Rattle.rcp_model.specs.Messages.{Letter, is_up}
use Rattle.rcp_model.specs.System.{SystemState, fresh_letter}
use Rattle.rcp_model.specs.declared.plan.PlanParts.{PlanParts}

lt_is : (a b : ℤ) → int_lt a b ≡ true → a <ℤ b
lt_is a b h = grind (arith, ints)

lt_yes : (a b : ℤ) → a <ℤ b → int_lt a b ≡ true
lt_yes a b h = grind (arith, ints)

all_if : (P : Event → Type 0) (t : Bool) (events : List Event)
    → (t ≡ true → AllByRecursion P events) → AllByRecursion P (cond t events [])
all_if P true events h = h refl
all_if P false events h = tt

-- of which replica, and from whom, a move is
abbrev place : Move → ℕ
place (Begins q) = q
place (Sends q) = q
place (Arrives q p) = q
place (Arrives_late q p) = q
place (Votes q) = q
place (Syncs q) = q

abbrev sender : Move → Option ℕ
sender (Begins q) = None
sender (Sends q) = None
sender (Arrives q p) = Some p
sender (Arrives_late q p) = Some p
sender (Votes q) = None
sender (Syncs q) = None

fresh_move : (done q p : ℕ) (tick : ℤ) → move_of done (delivery done q p tick) ≡ Arrives q p
fresh_move done q p tick =
    ap (λ t. cond t (Arrives q p) (Arrives_late q p)) (eq-eqb done done refl)

late_move : (done q p : ℕ) (tick : ℤ) → 0 < done
    → move_of done (delivery (done - 1) q p tick) ≡ Arrives_late q p
late_move done q p tick h =
    ap (λ t. cond t (Arrives q p) (Arrives_late q p)) (ne_eqb (done - 1) done (λ e. omega arith))

-- an event is the one that its move is
abbrev pub IsOneOf : PlanParts → FrameRows → SystemState → Event → Type 0
IsOneOf plan rows state e = Of plan rows state (move_of state.done e) e

module _ (plan : PlanParts) (rows : FrameRows) (state : SystemState)
    (timely : IsTimely plan rows state) where
  abbrev IsOne : Event → Type 0
  IsOne e = IsOneOf plan rows state e

  abbrev fresh_to : ℕ → ℕ → Option Letter
  fresh_to receiver sender = fresh_letter plan state rows receiver sender

  abbrev fresh_of : ℕ → ℕ → List Event
  fresh_of q p = fresh_events plan state.done q p (fresh_to q p)

  abbrev late_of : ℕ → ℕ → List Event
  late_of q p = late_events state.done q p (state.letters q p)

  abbrev own_list : ℕ → List Event
  own_list q = own_events plan state.done rows q

  -- how often a move stands in a list
  abbrev times : Move → List Event → ℕ
  times move events = count state.done move events

  all_fresh : (P : Event → Type 0) (q p : ℕ) (place : Option Letter)
      → ((letter : Letter) → place ≡ Some letter
      → letter.arrival <ℤ (block_begin plan (state.done + 1))
      → P (delivery state.done q p letter.arrival))
      → AllByRecursion P (fresh_events plan state.done q p place)
  all_fresh P q p None h = tt
  all_fresh P q p (Some letter) h =
      all_if P (int_lt letter.arrival (block_begin plan (state.done + 1))) _
      (λ e. (h letter refl (lt_is _ _ e), tt))

  all_late : (P : Event → Type 0) (q p : ℕ) (place : Option Letter)
      → ((letter : Letter) → place ≡ Some letter
      → P (delivery (state.done - 1) q p letter.arrival))
      → AllByRecursion P (late_events state.done q p place)
  all_late P q p None h = tt
  all_late P q p (Some letter) h = (h letter refl, tt)

  -- what each delivery has, all have that come from one sender
  all_from : (P : Event → Type 0) (q p : ℕ)
      → ((letter : Letter) → fresh_to q p ≡ Some letter
      → letter.arrival <ℤ (block_begin plan (state.done + 1))
      → P (delivery state.done q p letter.arrival))
      → ((letter : Letter) → state.letters q p ≡ Some letter
      → P (delivery (state.done - 1) q p letter.arrival))
      → AllByRecursion P (events_from plan state rows q p)
  all_from P q p h i =
      all_append P (fresh_of q p) (late_of q p) (all_fresh P q p (fresh_to q p) h)
      (all_late P q p (state.letters q p) i)

  pub all_events : AllByRecursion (IsOneOf plan rows state) (block_events plan state rows)
  all_events =
      all_flat IsOne (events_at plan state rows) _
      (λ q. all_append IsOne (own_list q) _
      (all_if IsOne (is_up plan rows q) _
      (λ up. (begins q up, (sends q up, (votes q up, (syncs q up, tt))))))
      (all_flat IsOne (events_from plan state rows q) _
      (λ p. all_from IsOne q p
      (λ letter is within.
      subst (λ x. Of plan rows state x (delivery state.done q p letter.arrival))
      (sym (fresh_move state.done q p letter.arrival)) (arrives q p letter is within))
      (λ letter is.
      subst (λ x. Of plan rows state x (delivery (state.done - 1) q p letter.arrival))
      (sym (late_move state.done q p letter.arrival (timely.ready.done q p letter is)))
      (arrives_late q p letter is)))))

  -- from whom, and of which replica, the events of a block are
  senders : (q p : ℕ)
      → AllByRecursion (λ e. sender (move_of state.done e) ≡ Some p)
      (events_from plan state rows q p)
  senders q p =
      all_from _ q p (λ letter is _. ap sender (fresh_move state.done q p letter.arrival))
      (λ letter is.
      ap sender (late_move state.done q p letter.arrival (timely.ready.done q p letter is)))

  no_sender : (q : ℕ) → AllByRecursion (λ e. sender (move_of state.done e) ≡ None) (own_list q)
  no_sender q = all_if _ (is_up plan rows q) _ (λ up. (refl, (refl, (refl, (refl, tt)))))

  places : (q : ℕ)
      → AllByRecursion (λ e. place (move_of state.done e) ≡ q) (events_at plan state rows q)
  places q =
      all_append _ (own_list q) _
      (all_if _ (is_up plan rows q) _ (λ up. (refl, (refl, (refl, (refl, tt))))))
      (all_flat _ (events_from plan state rows q) _
      (λ p. all_from _ q p
      (λ letter is _. ap place (fresh_move state.done q p letter.arrival))
      (λ letter is.
      ap place (late_move state.done q p letter.arrival (timely.ready.done q p letter is)))))

  -- so a move stands in the block as often as at its replica
  at_place : (move : Move) → place move < plan.replicas
      → times move (block_events plan state rows)
      ≡ times move (own_list (place move))
      + times move
      (flat_map (events_from plan state rows (place move)) (range_with_len 0 plan.replicas))
  at_place move h =
      count_in state.done move (events_at plan state rows) (place move)
      (λ q other. elsewhere state.done place q move _ (λ e. other (sym e)) (places q))
      plan.replicas 0 (omega arith) (omega arith)
      ∙ count_append state.done move (own_list (place move)) _

  -- and a delivery as often as from its sender
  from_sender : (move : Move) (p : ℕ) → sender move ≡ Some p → place move < plan.replicas
      → p < plan.replicas
      → times move (block_events plan state rows)
      ≡ times move (fresh_of (place move) p) + times move (late_of (place move) p)
  from_sender move p is h i =
      at_place move h
      ∙ ap₂ (λ x y. x + y)
      (elsewhere state.done sender None move (own_list (place move)) (λ e. cc)
      (no_sender (place move)))
      (count_in state.done move (events_from plan state rows (place move)) p
      (λ r other. elsewhere state.done sender (Some r) move _ (λ e. other (cc))
      (senders (place move) r))
      plan.replicas 0 (omega arith) (omega arith)
      ∙ count_append state.done move (fresh_of (place move) p) _)
      ∙ omega arith

  -- a replica's own move stands among its own events alone
  own_once : (move : Move) → sender move ≡ None → place move < plan.replicas
      → times move (own_list (place move)) ≡ 1
      → times move (block_events plan state rows) ≡ 1
  own_once move is h n =
      at_place move h
      ∙ ap₂ (λ x y. x + y) n (none_in (range_with_len 0 plan.replicas))
      ∙ omega arith
    where
      none_in : (ps : List ℕ)
          → times move (flat_map (events_from plan state rows (place move)) ps) ≡ 0
      none_in [] = refl
      none_in (p ∷ ps) =
          count_append state.done move (events_from plan state rows (place move) p)
          (flat_map (events_from plan state rows (place move)) ps)
          ∙ ap₂ (λ x y. x + y)
          (elsewhere state.done sender (Some p) move _ (λ e. cc) (senders (place move) p))
          (none_in ps)

  in_range : (q : ℕ) → is_up plan rows q ≡ true → q < plan.replicas
  in_range q up = ltb-true q plan.replicas (and_parts _ _ up).0

  late_first : (q p : ℕ) (place : Option Letter)
      → ((letter : Letter) → place ≡ Some letter → 0 < state.done)
      → times (Arrives q p) (late_events state.done q p place) ≡ 0
  late_first q p None h = refl
  late_first q p (Some letter) h =
      ap (λ move. cond (same_move (Arrives q p) move) (1 + 0) 0)
      (late_move state.done q p letter.arrival (h letter refl))

  fresh_first : (q p : ℕ) (place : Option Letter)
      → times (Arrives_late q p) (fresh_events plan state.done q p place) ≡ 0
  fresh_first q p None = refl
  fresh_first q p (Some letter) = go (int_lt letter.arrival (block_begin plan (state.done + 1)))
    where
      go : (t : Bool)
          → times (Arrives_late q p) (cond t (delivery state.done q p letter.arrival ∷ []) []) ≡ 0
      go true =
          ap (λ move. cond (same_move (Arrives_late q p) move) (1 + 0) 0)
          (fresh_move state.done q p letter.arrival)
      go false = refl

  -- the own events of a replica that is up are its four moves
  own_is : (q : ℕ) (move : Move) → is_up plan rows q ≡ true
      → times move (own_list q)
      ≡ times move (own_event Begin state.done q (begin_of plan state.done rows q)
      ∷ own_event Send state.done q (send_of plan state.done rows q)
      ∷ own_event Vote state.done q (vote_of plan state.done rows q)
      ∷ own_event Sync state.done q (sync_of plan state.done rows q) ∷ [])
  own_is q move up = rw up

  pub once : (move : Move) (e : Event) → Of plan rows state move e
      → times move (block_events plan state rows) ≡ 1
  once move e (begins q up) =
      own_once (Begins q) refl (in_range q up)
      (own_is q (Begins q) up ∙ ap (λ t. cond t 1 0) (same_move_refl (Begins q)))
  once move e (sends q up) =
      own_once (Sends q) refl (in_range q up)
      (own_is q (Sends q) up ∙ ap (λ t. cond t 1 0) (same_move_refl (Sends q)))
  once move e (votes q up) =
      own_once (Votes q) refl (in_range q up)
      (own_is q (Votes q) up ∙ ap (λ t. cond t 1 0) (same_move_refl (Votes q)))
  once move e (syncs q up) =
      own_once (Syncs q) refl (in_range q up)
      (own_is q (Syncs q) up ∙ ap (λ t. cond t 1 0) (same_move_refl (Syncs q)))
  once move e (arrives q p letter is within) =
      let range = letter_range plan rows state q p letter is in
      from_sender (Arrives q p) p refl range.0 range.1
      ∙ ap₂ (λ x y. x + y)
      (ap (λ o. times (Arrives q p) (fresh_events plan state.done q p o)) is
      ∙ ap (λ t. times (Arrives q p) (cond t (delivery state.done q p letter.arrival ∷ []) []))
      (lt_yes _ _ within)
      ∙ count_one state.done (Arrives q p) (delivery state.done q p letter.arrival)
      (sym (fresh_move state.done q p letter.arrival)))
      (late_first q p (state.letters q p) (timely.ready.done q p))
  once move e (arrives_late q p letter is) =
      let range = timely.ready.range q p letter is in
      from_sender (Arrives_late q p) p refl range.0 range.1
      ∙ ap₂ (λ x y. x + y)
      (fresh_first q p (fresh_to q p))
      (ap (λ o. times (Arrives_late q p) (late_events state.done q p o)) is
      ∙ count_one state.done (Arrives_late q p) (delivery (state.done - 1) q p letter.arrival)
      (sym (late_move state.done q p letter.arrival (timely.ready.done q p letter is))))
