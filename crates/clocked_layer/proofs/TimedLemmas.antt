-- A block that runs to its end: before its first event, by each event, and where none is left.
use Rattle.std.proofs.Common.{◌≡◌, ℕ, List, [], ◌∷◌, ◌++◌, Option, sym, ap, subst}
use Rattle.clocked_layer.proofs.Picks.{IsPicked, IsPickedSoFar, all_picked, none_picked, one_more_picked}
use Rattle.clocked_layer.proofs.Ways.{ends_where, goes_on_by, opens}
use Rattle.clocked_layer.specs.Block.{Block, block_after_event, opened_block}
use Rattle.clocked_layer.specs.Events.{block_events}
use Rattle.clocked_layer.specs.Ready.{IsTimely}
use Rattle.clocked_layer.specs.Stepped.{Mail, Runs}
use Rattle.clocked_layer.specs.Timed.{HasTakenAll, IsPickedBy}
use Rattle.clocked_layer.specs.Way.{IsUnderWay, StaysUnderWay, block_so_far}
use Rattle.event_queue.specs.Agenda.{IsDueIn, in_turn}
use Rattle.event_queue.specs.declared.event.Event.{Event}
use Rattle.rcp_model.specs.FrameRows.{FrameRows}
use Rattle.rcp_model.specs.System.{SystemState}
use Rattle.rcp_model.specs.declared.plan.PlanParts.{PlanParts}

-- from a state and mail, a block runs as it has become after a log so far, as the answers picked it
pub record IsOnItsWay (runs : Runs) (told now : Option (ℕ → ℕ)) (plan : PlanParts)
    (state : SystemState) (rows : FrameRows) (mail : Mail) (log : List Event) : Type 0 where
  pub block : runs plan rows (block_so_far plan state rows mail log)
  pub way : IsUnderWay plan state rows mail log
  pub picked : IsPickedSoFar told now (in_turn (block_events plan state rows))
      (block_so_far plan state rows mail log).left log

module _ (plan : PlanParts) (state : SystemState) (rows : FrameRows) (mail : Mail) where
  abbrev so_far : List Event → Block
  so_far log = block_so_far plan state rows mail log

  pub on_its_way : (runs : Runs) (told : Option (ℕ → ℕ)) → IsTimely plan rows state
      → runs plan rows (opened_block plan state rows mail)
      → IsOnItsWay runs told told plan state rows mail []
  on_its_way runs told timely block = record {
    block = block;
    way = opens plan state rows mail timely;
    picked = none_picked told (in_turn (block_events plan state rows));
  }

  pub still_on_its_way_by : (old new : Runs) (told now later : Option (ℕ → ℕ))
      (log : List Event) (event : Event) → IsOnItsWay old told now plan state rows mail log
      → IsDueIn (so_far log).left event → IsPicked now later (so_far log).left event
      → new plan rows (block_after_event plan rows (so_far log) event)
      → IsOnItsWay new told later plan state rows mail (log ++ event ∷ [])
  still_on_its_way_by old new told now later log event way due picked block = record {
    block = subst (new plan rows) (sym after.block) block;
    way = after.way;
    picked =
        subst
        (λ x. IsPickedSoFar told later (in_turn (block_events plan state rows)) x
        (log ++ event ∷ []))
        (sym (ap (λ (b : Block). b.left) after.block))
        (one_more_picked told now later _ (so_far log).left log event way.way.turn
        way.picked picked);
  }
    where
      after : StaysUnderWay plan state rows mail log event
      after = goes_on_by plan state rows mail log way.way event due

  pub has_taken_all : (runs : Runs) (told now : Option (ℕ → ℕ)) (log : List Event)
      → IsOnItsWay runs told now plan state rows mail log → (so_far log).left ≡ []
      → HasTakenAll runs plan state rows mail log
  has_taken_all runs told now log way none = record {
    block = way.block;
    none = none;
    next = (ends_where plan state rows mail log way.way none).next;
  }

  pub is_picked_by : (runs : Runs) (told now : Option (ℕ → ℕ)) (log : List Event)
      → IsOnItsWay runs told now plan state rows mail log → (so_far log).left ≡ []
      → IsPickedBy told now plan state rows log
  is_picked_by runs told now log way none = record {
    legal = (ends_where plan state rows mail log way.way none).legal;
    order =
        all_picked told now _ log
        (subst (λ x. IsPickedSoFar told now (in_turn (block_events plan state rows)) x log) none
        way.picked);
    later = way.picked.later;
  }
