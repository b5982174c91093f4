-- Events as they are added to an agenda, one after the other.
use Rattle.std.specs.List.{flat_map, range_with_len}
use Rattle.std.proofs.Common.{◌≡◌, ℕ, ℤ, ◌<◌, ◌≤◌, ◌+◌, Bool, true, false, cond, not, ◌&&◌, int_lt, List, [], ◌∷◌, ◌++◌, length, Option, None, Some, refl, sym, ap, ◌∙◌, arith, lt-ltb, append-nil, map-id}
use Rattle.std.proofs.lemmas.Grind.{flat_map-append}
use Rattle.std.proofs.lemmas.List.FromFn.{map-range_with_len_more}
use Rattle.std.proofs.lemmas.List.Sorted.{length_permutation}
use Rattle.event_queue.proofs.TurnLaws.{inserted_permutes}
use Rattle.clock_model.specs.Order.{block_begin}
use Rattle.clocked_layer.specs.Events.{delivery, fresh_events}
use Rattle.clocked_layer.specs.Opening.{AddsUpTo, arrival_in, moment_at, moment_event}
use Rattle.clocked_layer.specs.declared.ticks.Moment.{Moment}
use Rattle.event_queue.specs.Agenda.{EventQueue, in_turn_from, inserted, with_event}
use Rattle.event_queue.specs.declared.event.Event.{Event}
use Rattle.rcp_model.specs.FrameRows.{FrameRows, is_down}
use Rattle.rcp_model.specs.Messages.{Letter, arrival_of, goes_out, is_up, is_voted, letter_to, message_to, own_message}
use Rattle.rcp_model.specs.System.{SystemState, computed_cells, fresh_letter}
use Rattle.rcp_model.specs.declared.plan.PlanParts.{PlanParts}
use Rattle.replica_parts.specs.Setting.{HasPlanWith, IsSettingOf}
use Rattle.replica_parts.specs.declared.setting.Setting.{Setting}

pub one_added : (old new : EventQueue) (event : Event) → 1 ≤ old.spare
    → new ≡ with_event old event → AddsUpTo 1 old new
one_added old new event some is =
    let left = ap (λ (q : EventQueue). length q.left) is in
    let longer = length_permutation _ _ (inserted_permutes event old.left) in
    let spare = ap (λ (q : EventQueue). q.spare) is in
    record { few = omega (arith, some, spare); room = omega (arith, some, spare, left, longer) }

-- Pieces that are added one after the other.

pub in_turn_from-append : (done xs ys : List Event)
    → in_turn_from done (xs ++ ys) ≡ in_turn_from (in_turn_from done xs) ys
in_turn_from-append done [] ys = refl
in_turn_from-append done (x ∷ xs) ys = in_turn_from-append (inserted x done) xs ys

pub added_both : (done xs ys a b : List Event) → a ≡ in_turn_from done xs → b ≡ in_turn_from a ys
    → b ≡ in_turn_from done (xs ++ ys)
added_both done xs ys a b first second =
    second ∙ ap (λ k. in_turn_from k ys) first ∙ sym (in_turn_from-append done xs ys)

more_numbers : (n : ℕ) → range_with_len 0 (n + 1) ≡ range_with_len 0 n ++ n ∷ []
more_numbers n =
    sym (map-id (range_with_len 0 (n + 1))) ∙ map-range_with_len_more (λ x. x) 0 n n (omega arith)
    ∙ ap (λ x. x ++ n ∷ []) (map-id (range_with_len 0 n))

pub added_more : (piece : ℕ → List Event) (done a b : List Event) (n : ℕ)
    → a ≡ in_turn_from done (flat_map piece (range_with_len 0 n)) → b ≡ in_turn_from a (piece n)
    → b ≡ in_turn_from done (flat_map piece (range_with_len 0 (n + 1)))
added_more piece done a b n first second =
    added_both done (flat_map piece (range_with_len 0 n)) (piece n) a b first second
    ∙ sym (ap (in_turn_from done)
    (ap (flat_map piece) (more_numbers n) ∙ flat_map-append piece (range_with_len 0 n) (n ∷ [])
    ∙ ap (λ x. flat_map piece (range_with_len 0 n) ++ x) (append-nil (piece n))))

-- Moments of a replica's own.

up_is : (plan : PlanParts) (rows : FrameRows) (q : ℕ) → q < plan.replicas
    → is_up plan rows q ≡ not (is_down rows q)
up_is plan rows q below = ap (λ t. t && not (is_down rows q)) (lt-ltb q plan.replicas below)

pub moment_added : (plan : PlanParts) (frame : ℕ) (rows : FrameRows) (moment : Moment) (q : ℕ)
    (done new : List Event) → q < plan.replicas → is_down rows q ≡ false
    → new ≡ inserted (moment_event plan frame rows moment q) done
    → new ≡ in_turn_from done (moment_at plan frame rows moment q)
moment_added plan frame rows moment q done new below up is =
    is
    ∙ sym (ap (λ t. in_turn_from done (cond t (moment_event plan frame rows moment q ∷ []) []))
    (up_is plan rows q below ∙ ap not up))

-- Deliveries of this frame know of a letter no more than when it arrives, if it goes out.

abbrev at_tick : PlanParts → ℕ → ℕ → ℕ → Option ℤ → List Event
at_tick plan frame q p None = []
at_tick plan frame q p (Some tick) =
    cond (int_lt tick (block_begin plan (frame + 1))) (delivery frame q p tick ∷ []) []

fresh_is : (plan : PlanParts) (state : SystemState) (rows : FrameRows) (frame q p : ℕ)
    → state.done ≡ frame
    → fresh_events plan frame q p (fresh_letter plan state rows q p)
    ≡ at_tick plan frame q p (arrival_in plan frame rows p q)
unfolding fresh_letter letter_to
fresh_is plan state rows frame q p at =
    go (goes_out plan rows p q)
    ∙ ap (λ n. at_tick plan frame q p (arrival_in plan n rows p q)) at
  where
    letter : Letter
    letter = record {
      arrival = arrival_of plan state.done rows p q;
      message = message_to rows (own_message plan (is_voted plan) (state.replicas p).slot
          (computed_cells plan rows (state.replicas p))) p q;
    }

    go : (t : Bool) → fresh_events plan frame q p (cond t (Some letter) None)
        ≡ at_tick plan frame q p (cond t (Some (arrival_of plan state.done rows p q)) None)
    go true = refl
    go false = refl

pub fresh_added : (plan : PlanParts) (state : SystemState) (rows : FrameRows) (frame q p : ℕ)
    (done new : List Event) (tick end : ℤ) (t : Bool)
    → state.done ≡ frame → Some tick ≡ arrival_in plan frame rows p q
    → end ≡ block_begin plan (frame + 1) → int_lt tick end ≡ t
    → new ≡ cond t (inserted (delivery frame q p tick) done) done
    → new ≡ in_turn_from done (fresh_events plan frame q p (fresh_letter plan state rows q p))
fresh_added plan state rows frame q p done new tick end t at arrives ends test added =
    added ∙ split t
    ∙ sym (ap (in_turn_from done)
    (fresh_is plan state rows frame q p at
    ∙ ap (at_tick plan frame q p) (sym arrives)
    ∙ ap (λ x. cond (int_lt tick x) (delivery frame q p tick ∷ []) []) (sym ends)
    ∙ ap (λ u. cond u (delivery frame q p tick ∷ []) []) test))
  where
    split : (u : Bool) → cond u (inserted (delivery frame q p tick) done) done
        ≡ in_turn_from done (cond u (delivery frame q p tick ∷ []) [])
    split true = refl
    split false = refl

pub stays_added : (plan : PlanParts) (state : SystemState) (rows : FrameRows) (frame q p : ℕ)
    (done : List Event) → state.done ≡ frame → None ≡ arrival_in plan frame rows p q
    → done ≡ in_turn_from done (fresh_events plan frame q p (fresh_letter plan state rows q p))
stays_added plan state rows frame q p done at stays =
    sym (ap (in_turn_from done)
    (fresh_is plan state rows frame q p at ∙ ap (at_tick plan frame q p) (sym stays)))

-- the rows have as many replicas as every plan that the setting is of
pub same_rows : (setting : Setting) (rows : FrameRows) → HasPlanWith setting rows
    → (plan : PlanParts) → IsSettingOf plan setting → plan.replicas ≡ rows.replicas
same_rows setting rows of plan s =
    sym s.replicas ∙ of.1.replicas ∙ sym of.2.tables.replicas
