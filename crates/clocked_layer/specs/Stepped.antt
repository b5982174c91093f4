-- When the calls of a block that runs event by event may be made, and what its mailboxes tell.
-- After NASA TM-104196.
use Rattle.std.specs.Prelude.{◌≡◌, ◌<◌, ◌⊎◌, ℕ, ℤ, [], length, Option, None, option_map}
use Rattle.std.specs.Option.{option_and_then}
use Rattle.clocked_layer.specs.Block.{Block}
use Rattle.rcp_base.specs.Message.{Content, value_in}
use Rattle.rcp_model.specs.FrameRows.{FrameRows}
use Rattle.rcp_model.specs.System.{SystemState}
use Rattle.rcp_model.specs.declared.plan.PlanParts.{PlanParts}

-- what lies in the mailboxes, by receiver and sender
abbrev pub Mail : Type 0
Mail = ℕ → ℕ → Option Content

-- nothing lies in them
abbrev pub no_mail : Mail
no_mail = λ receiver sender. None

-- what lies in those of a block
abbrev pub mail_of_block : Block → Mail
mail_of_block block = λ receiver. (block.seats receiver).boxes

-- the slot in what lies in a mailbox
abbrev pub box_slot_in : Mail → ℕ → ℕ → Option ℕ
box_slot_in mail receiver sender = option_map (λ message. message.slot) (mail receiver sender)

-- the value that it names for a cell
abbrev pub box_value_in : Mail → ℕ → ℕ → ℕ → Option ℤ
box_value_in mail receiver sender cell =
    option_and_then (λ message. value_in message cell) (mail receiver sender)

-- at which states, with which mail, it rests: no block is open
abbrev pub Rests : Type 1
Rests = PlanParts → SystemState → Mail → Type 0

-- as which blocks, with which rows, it runs
abbrev pub Runs : Type 1
Runs = PlanParts → FrameRows → Block → Type 0

-- it rests at a state, whatever its mail is
abbrev pub RestsAt : Rests → PlanParts → SystemState → Type 0
RestsAt rests plan state = (mail : Mail) × rests plan state mail

-- a block is open with these rows
abbrev pub IsOpen : Runs → FrameRows → Type 0
IsOpen runs rows = (plan : PlanParts) × (block : Block) × runs plan rows block

-- and none of its events is left
abbrev pub CanClose : Runs → FrameRows → Type 0
CanClose runs rows =
    (plan : PlanParts) × (block : Block) × runs plan rows block × (block.left ≡ [])

-- it is of a plan, whether it rests or a block is open
abbrev pub IsOfPlan : Rests → Runs → PlanParts → Type 0
IsOfPlan rests runs plan =
    ((state : SystemState) × RestsAt rests plan state)
    ⊎ ((rows : FrameRows) × (block : Block) × runs plan rows block)

-- it is of a plan that has these two replicas
abbrev pub HasMailbox : Rests → Runs → ℕ → ℕ → Type 0
HasMailbox rests runs to from =
    (plan : PlanParts) × IsOfPlan rests runs plan × (to < plan.replicas) × (from < plan.replicas)

-- and this cell
abbrev pub HasMailboxAndCell : Rests → Runs → ℕ → ℕ → ℕ → Type 0
HasMailboxAndCell rests runs to from cell =
    (plan : PlanParts) × IsOfPlan rests runs plan
    × (to < plan.replicas) × (from < plan.replicas) × (cell < length plan.cells)
