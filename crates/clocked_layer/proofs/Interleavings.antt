-- Every legal log leads to the state of the next frame; and letters arrive before the next sends.
use Rattle.std.proofs.lemmas.List.Sorted.{IsPermutation-trans}
use Rattle.std.proofs.Common.{◌≡◌, ℕ, suc, ◌+◌, ◌<ℤ◌, List, Option, Some, None, refl, sym, ◌∙◌, ap, subst, arith}
use Rattle.clock_model.specs.Order.{KeepsOrder, send_limit}
use Rattle.clocked_layer.proofs.Ends.{at_end}
use Rattle.clocked_layer.proofs.FrameFacts.{letter_is, letter_range}
use Rattle.clocked_layer.proofs.Kept.{at_opening}
use Rattle.clocked_layer.proofs.LegalLogs.{legal_run}
use Rattle.clocked_layer.proofs.Moves.{no_marks}
use Rattle.clocked_layer.proofs.Runs.{nothing_past, run_kept}
use Rattle.clocked_layer.proofs.TableLemmas.{some_when}
use Rattle.clocked_layer.specs.Block.{opened_block, state_after_log}
use Rattle.clocked_layer.specs.Events.{IsLegalLog, block_events}
use Rattle.clocked_layer.specs.Laws.{EveryOrderIsLegal, EverySystemBeginsReady}
use Rattle.clocked_layer.specs.Ready.{IsReady, IsTimely}
use Rattle.event_queue.proofs.PickLaws.{picked_log}
use Rattle.event_queue.proofs.TurnLaws.{in_turn_permutes, in_turn_turn}
use Rattle.event_queue.specs.Agenda.{in_turn}
use Rattle.event_queue.specs.declared.event.Event.{Event}
use Rattle.rcp_base.specs.Message.{Content}
use Rattle.rcp_model.specs.FrameRows.{FrameRows}
use Rattle.rcp_model.specs.Messages.{Letter}
use Rattle.rcp_model.specs.System.{SystemState, end_of_frame, fresh_letter, initial_state, next_state, still_on_its_way}
use Rattle.rcp_model.specs.declared.plan.PlanParts.{PlanParts}

pub one_block : (plan : PlanParts) (state : SystemState) (rows : FrameRows)
    (boxes : ℕ → ℕ → Option Content) (log : List Event)
    → IsTimely plan rows state → IsLegalLog plan state rows log
    → state_after_log plan state rows boxes log ≡ next_state plan state rows
one_block plan state rows boxes log timely legal =
    let w = run_kept plan rows state timely log no_marks (opened_block plan state rows boxes)
    (legal_run plan rows state timely log legal) (nothing_past plan rows state)
    (at_opening plan rows state boxes) in
    at_end plan rows state w.0 _ w.1 w.2

pub initial_ready : EverySystemBeginsReady
unfolding initial_state
initial_ready plan = record {
  sooner = λ q p letter h. cc;
  done = λ q p letter h. cc;
  range = λ q p letter h. (cc, cc);
}

-- a letter that stays on its way is one of the frame
stays : (plan : PlanParts) (frame : ℕ) (place : Option Letter) (letter : Letter)
    → still_on_its_way plan frame place ≡ Some letter → place ≡ Some letter
unfolding still_on_its_way
stays plan frame None letter h = h
stays plan frame (Some other) letter h = let w = some_when _ other letter h in ap Some w.1

module _ (plan : PlanParts) (state : SystemState) (rows : FrameRows) where
  next_letter : (q p : ℕ) (letter : Letter)
      → (next_state plan state rows).letters q p ≡ Some letter
      → fresh_letter plan state rows q p ≡ Some letter
  unfolding next_state end_of_frame
  next_letter q p letter h = stays plan state.done (fresh_letter plan state rows q p) letter h

  next_done : (next_state plan state rows).done ≡ suc state.done
  unfolding next_state end_of_frame
  next_done = refl

  pub next_ready : KeepsOrder plan state.done rows → IsReady plan (next_state plan state rows)
  next_ready order = record {
    sooner = λ q p letter h.
        let is = letter_is plan rows state q p letter (next_letter q p letter h) in
        let same : state.done + 1 ≡ suc state.done = omega arith in
        subst (λ n. letter.arrival <ℤ send_limit plan n) (same ∙ sym next_done)
        (subst (λ x. x <ℤ send_limit plan (state.done + 1)) is.1 (order.arrival_before_limit p q));
    done = λ q p letter h. let same = next_done in omega arith;
    range = λ q p letter h. letter_range plan rows state q p letter (next_letter q p letter h);
  }

pub order_legal : EveryOrderIsLegal
order_legal plan state rows answers =
    let w = picked_log (in_turn (block_events plan state rows)) answers
    (in_turn_turn (block_events plan state rows)) in
    record {
      holds = IsPermutation-trans _ _ _ w.holds (in_turn_permutes (block_events plan state rows));
      rises = w.rises;
    }
