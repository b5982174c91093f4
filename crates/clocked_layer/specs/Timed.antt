-- What a layer that runs a block of events to its end has done in a frame. After NASA TM-104196.
use Rattle.std.specs.Prelude.{◌≡◌, ℕ, List, [], length, Option, Some, IfSome}
use Rattle.clocked_layer.specs.Block.{state_after_log}
use Rattle.clocked_layer.specs.Events.{IsLegalLog, block_events}
use Rattle.clocked_layer.specs.Stepped.{Mail, Rests, Runs, mail_of_block}
use Rattle.clocked_layer.specs.Way.{block_so_far}
use Rattle.event_queue.specs.Agenda.{in_turn}
use Rattle.event_queue.specs.Picker.{answers_after, picked_order}
use Rattle.event_queue.specs.declared.event.Event.{Event}
use Rattle.rcp_model.specs.FrameRows.{FrameRows}
use Rattle.rcp_model.specs.System.{SystemState, next_state}
use Rattle.rcp_model.specs.declared.plan.PlanParts.{PlanParts}

-- the mail after a log
abbrev pub mail_after_log : PlanParts → SystemState → FrameRows → Mail → List Event → Mail
mail_after_log plan state rows mail log =
    mail_of_block (block_so_far plan state rows mail log)

-- the block of the frame after a state is at its end after this log, which leads to the next state
pub record HasTakenAll (runs : Runs) (plan : PlanParts) (state : SystemState) (rows : FrameRows)
    (mail : Mail) (log : List Event) : Type 0 where
  pub block : runs plan rows (block_so_far plan state rows mail log)
  pub none : (block_so_far plan state rows mail log).left ≡ []
  pub next : state_after_log plan state rows mail log ≡ next_state plan state rows

-- a log of the frame after a state is legal; where a picker told its answers, it is the order in
-- which they pick, and afterwards the picker tells the answers behind those
pub record IsPickedBy (told told_later : Option (ℕ → ℕ)) (plan : PlanParts) (state : SystemState)
    (rows : FrameRows) (log : List Event) : Type 0 where
  pub legal : IsLegalLog plan state rows log
  pub order : IfSome told (λ answers.
      log ≡ picked_order (in_turn (block_events plan state rows)) answers)
  pub later : IfSome told (λ answers. told_later ≡ Some (answers_after (length log) answers))

-- from a state with this mail, the frame has gone by this log: it rests where the log leads
abbrev pub RestsAfterLog : Rests → PlanParts → SystemState → FrameRows → Mail → List Event → Type 0
RestsAfterLog rests plan state rows mail log =
    rests plan (state_after_log plan state rows mail log) (mail_after_log plan state rows mail log)
