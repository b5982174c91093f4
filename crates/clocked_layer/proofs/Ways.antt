-- A block under way: before its first event, by an event that is due, and where none is left.
use Rattle.std.specs.List.{AllByRecursion, Contains}
use Rattle.std.proofs.lemmas.Bool.{and_parts}
use Rattle.std.proofs.lemmas.List.Sorted.{All-permutation, IsPermutation-sym, IsPermutation-trans, IsPermutation-append_right}
use Rattle.std.proofs.lemmas.List.Elements.{recursion_from_All, All-from_recursion, All-contains}
use Rattle.std.proofs.Common.{◌≡◌, ℕ, ◌<◌, true, List, [], ◌∷◌, ◌++◌, Option, None, IsPermutation, refl, sym, ap, ◌∙◌, subst, arith, ltb-true, append-nil, append_assoc}
use Rattle.clocked_layer.proofs.Before.{before}
use Rattle.clocked_layer.proofs.BlockEvents.{IsOneOf, all_events}
use Rattle.clocked_layer.proofs.Ends.{all_came, at_end, last_stage, stage_at}
use Rattle.clocked_layer.proofs.FrameFacts.{letter_range}
use Rattle.clocked_layer.proofs.Kept.{IsAll, IsKept, at_opening}
use Rattle.clocked_layer.proofs.LegalLogs.{all_after, comes_by_itself, legal_run, still_rises}
use Rattle.clocked_layer.proofs.Moves.{Marks, Move, Of, arrives, arrives_late, begins, no_marks, sends, syncs, votes}
use Rattle.clocked_layer.proofs.Runs.{nothing_past, run_kept, run_to}
use Rattle.clocked_layer.specs.Block.{Block, block_after_event, block_after_log, opened_block}
use Rattle.clocked_layer.specs.Events.{IsLegalLog, block_events}
use Rattle.clocked_layer.specs.Ready.{IsReady, IsTimely}
use Rattle.clocked_layer.specs.Way.{EndsAsNext, StaysUnderWay, IsUnderWay, StageFor, block_so_far}
use Rattle.event_queue.proofs.DueLaws.{rises_first, turn_rises}
use Rattle.event_queue.proofs.TurnLaws.{all_without, in_turn_permutes, in_turn_turn, taken_out, weaken, without_turn}
use Rattle.event_queue.specs.Agenda.{InTurn, IsDueIn, due, without_event}
use Rattle.event_queue.specs.Event.{ComesBy, IsLogOf, NeverFalls, RisesFrom}
use Rattle.event_queue.specs.declared.event.Event.{Event}
use Rattle.rcp_base.specs.Message.{Content}
use Rattle.rcp_model.specs.FrameRows.{FrameRows}
use Rattle.rcp_model.specs.Messages.{is_up}
use Rattle.rcp_model.specs.System.{SystemState}
use Rattle.rcp_model.specs.Walk.{at}
use Rattle.rcp_model.specs.declared.plan.PlanParts.{PlanParts}

-- Logs that never fall.

all_right : (P : Event → Type 0) (xs ys : List Event) → AllByRecursion P (xs ++ ys)
    → AllByRecursion P ys
all_right P [] ys h = h
all_right P (x ∷ xs) ys h = all_right P xs ys h.1

rises_front : (a : Event) (xs ys : List Event) → RisesFrom a (xs ++ ys) → RisesFrom a xs
rises_front a [] ys h = tt
rises_front a (x ∷ xs) ys h = (h.0, rises_front x xs ys h.1)

front_rises : (xs ys : List Event) → NeverFalls (xs ++ ys) → NeverFalls xs
front_rises [] ys h = tt
front_rises (x ∷ xs) ys h = rises_front x xs ys h

-- what is behind comes no sooner than what is ahead
behind_all : (xs ys : List Event) → NeverFalls (xs ++ ys)
    → AllByRecursion (λ x. AllByRecursion (ComesBy x) ys) xs
behind_all [] ys h = tt
behind_all (x ∷ xs) ys h = (
  all_right (ComesBy x) xs ys (all_after x x (xs ++ ys) (comes_by_itself x) h),
  behind_all xs ys (still_rises x (xs ++ ys) h),
)

-- two logs of which the second comes no sooner make one
joined : (a : Event) (xs ys : List Event) → RisesFrom a xs
    → AllByRecursion (λ x. AllByRecursion (ComesBy x) ys) (a ∷ xs) → NeverFalls ys
    → RisesFrom a (xs ++ ys)
joined a [] [] h all rises = tt
joined a [] (y ∷ ys) h all rises = (all.0.0, rises)
joined a (x ∷ xs) ys h all rises = (h.0, joined x xs ys h.1 all.1 rises)

joined_all : (xs ys : List Event) → NeverFalls xs
    → AllByRecursion (λ x. AllByRecursion (ComesBy x) ys) xs → NeverFalls ys
    → NeverFalls (xs ++ ys)
joined_all [] ys h all rises = rises
joined_all (x ∷ xs) ys h all rises = joined x xs ys h all rises

-- of what is left a due event may come first
due_first : (events log left : List Event) (event : Event) → IsLogOf events (log ++ left)
    → InTurn left → IsDueIn left event
    → IsLogOf events (log ++ event ∷ without_event event left)
due_first events log left event legal turn due = record {
  holds =
      IsPermutation-trans _ _ _
      (IsPermutation-append_right log _ _ (IsPermutation-sym _ _ out)) legal.holds;
  rises =
      joined_all log (event ∷ rest) (front_rises log left legal.rises)
      (weaken (λ x. AllByRecursion (ComesBy x) left)
      (λ x. AllByRecursion (ComesBy x) (event ∷ rest))
      (λ x. moved (ComesBy x)) log (behind_all log left legal.rises))
      (rises_first event rest
      (all_without (ComesBy event) event left (recursion_from_All (ComesBy event) left due.first))
      (turn_rises rest (without_turn event left turn)));
}
  where
    rest : List Event
    rest = without_event event left

    out : IsPermutation left (event ∷ rest)
    out = taken_out event left due.is_left

    moved : (P : Event → Type 0) → AllByRecursion P left → AllByRecursion P (event ∷ rest)
    moved P all =
        recursion_from_All P (event ∷ rest)
        (All-permutation P left (event ∷ rest) out (All-from_recursion P left all))

after_one_more : (plan : PlanParts) (rows : FrameRows) (block : Block) (log : List Event)
    (event : Event)
    → block_after_log plan rows block (log ++ event ∷ [])
    ≡ block_after_event plan rows (block_after_log plan rows block log) event
after_one_more plan rows block [] event = refl
after_one_more plan rows block (first ∷ log) event =
    after_one_more plan rows (block_after_event plan rows block first) log event

own_range : (plan : PlanParts) (rows : FrameRows) (q : ℕ) → is_up plan rows q ≡ true
    → (q < plan.replicas) × (0 < plan.replicas)
own_range plan rows q up =
    let h = ltb-true q plan.replicas (and_parts _ _ up).0 in (h, omega (arith, h))

-- the replicas of an event are the plan's
range_of : (plan : PlanParts) (rows : FrameRows) (state : SystemState) → IsReady plan state
    → (move : Move) (event : Event) → Of plan rows state move event
    → (event.replica < plan.replicas) × (event.other < plan.replicas)
range_of plan rows state ready move event (begins q up) = own_range plan rows q up
range_of plan rows state ready move event (sends q up) = own_range plan rows q up
range_of plan rows state ready move event (arrives q p letter is within) =
    letter_range plan rows state q p letter is
range_of plan rows state ready move event (arrives_late q p letter is) =
    ready.range q p letter is
range_of plan rows state ready move event (votes q up) = own_range plan rows q up
range_of plan rows state ready move event (syncs q up) = own_range plan rows q up

module _ (plan : PlanParts) (state : SystemState) (rows : FrameRows)
    (boxes : ℕ → ℕ → Option Content) where
  abbrev so_far : List Event → Block
  so_far log = block_so_far plan state rows boxes log

  pub opens : IsTimely plan rows state → IsUnderWay plan state rows boxes []
  opens timely = record {
    timely = timely;
    legal = record {
      holds = in_turn_permutes (block_events plan state rows);
      rises = turn_rises _ (in_turn_turn (block_events plan state rows));
    };
    turn = in_turn_turn (block_events plan state rows);
  }

  module _ (log : List Event) (way : IsUnderWay plan state rows boxes log) where
    -- the replicas of an event that is left are the plan's
    left_in_range : (event : Event) → Contains (so_far log).left event
        → (event.replica < plan.replicas) × (event.other < plan.replicas)
    left_in_range event at =
        range_of plan rows state way.timely.ready _ event
        (All-contains (IsOneOf plan rows state) left event
        (All-from_recursion (IsOneOf plan rows state) left (all_right _ log left
        (recursion_from_All (IsOneOf plan rows state) (log ++ left)
        (All-permutation (IsOneOf plan rows state) _ _ (IsPermutation-sym _ _ way.legal.holds)
        (All-from_recursion (IsOneOf plan rows state) _ (all_events plan rows state way.timely))))))
        at)
      where
        left : List Event
        left = (so_far log).left

    -- an event of a replica's own finds it at its stage
    due_stage : (event : Event) → IsDueIn (so_far log).left event
        → StageFor event.kind ((so_far log).seats event.replica).stage
    due_stage event due =
        let legal = due_first _ log (so_far log).left event way.legal way.turn due in
        let w = run_to plan rows state way.timely log event _ no_marks
        (opened_block plan state rows boxes)
        (legal_run plan rows state way.timely _ legal) (nothing_past plan rows state)
        (at_opening plan rows state boxes) in
        stage_at plan rows state w.0 (so_far log) w.1 event w.2.is
        (before plan rows state way.timely w.0 w.1 event w.2) w.3

    pub goes_on_by : (event : Event) → IsDueIn (so_far log).left event
        → StaysUnderWay plan state rows boxes log event
    goes_on_by event due = record {
      finds = record {
        replica = (left_in_range event due.is_left).0;
        other = (left_in_range event due.is_left).1;
        stage = due_stage event due;
      };
      block = more;
      way = record {
        timely = way.timely;
        legal =
            subst (IsLegalLog plan state rows) (sym one_log)
            (due_first _ log (so_far log).left event way.legal way.turn due);
        turn = subst InTurn (sym rest) (without_turn event (so_far log).left way.turn);
      };
    }
      where
        more : so_far (log ++ event ∷ []) ≡ block_after_event plan rows (so_far log) event
        more = after_one_more plan rows (opened_block plan state rows boxes) log event

        rest : (so_far (log ++ event ∷ [])).left ≡ without_event event (so_far log).left
        rest = ap (λ (block : Block). block.left) more

        one_log : (log ++ event ∷ []) ++ (so_far (log ++ event ∷ [])).left
            ≡ log ++ event ∷ without_event event (so_far log).left
        one_log = append_assoc log (event ∷ []) _ ∙ ap (λ x. log ++ event ∷ x) rest

    -- where none is left, all have happened
    module _ (none : (so_far log).left ≡ []) where
      all_legal : IsLegalLog plan state rows log
      all_legal =
          subst (IsLegalLog plan state rows) (ap (λ x. log ++ x) none ∙ append-nil log) way.legal

      all_kept : (last : Marks) × IsAll plan rows state last
          × IsKept plan rows state last (so_far log)
      all_kept =
          run_kept plan rows state way.timely log no_marks (opened_block plan state rows boxes)
          (legal_run plan rows state way.timely log all_legal) (nothing_past plan rows state)
          (at_opening plan rows state boxes)

      pub ends_where : EndsAsNext plan state rows boxes log
      ends_where = record {
        legal = all_legal;
        stages = last_stage plan rows state all_kept.0 (so_far log) all_kept.1 all_kept.2;
        next = at_end plan rows state all_kept.0 (so_far log) all_kept.1 all_kept.2;
      }

      pub late_gone : (so_far log).late ≡ (λ receiver sender. None)
      late_gone = all_came plan rows state all_kept.0 (so_far log) all_kept.1 all_kept.2
