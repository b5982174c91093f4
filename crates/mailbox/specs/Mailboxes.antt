-- The mailboxes of a replica. After NASA TM-104196.
use Rattle.std.specs.Prelude.{◌≡◌, ◌==◌, ℕ, List, map, length, slice_index_or, Option, Some, None, if◌then◌else◌, All}
use Rattle.rcp_base.specs.Message.{Content}
use Rattle.mailbox.specs.declared.boxes.Mailbox.{Mailbox}
use Rattle.mailbox.specs.declared.boxes.Boxes.TheInside.{Inside}

-- how many cells a message is for, and by sender what lies in the mailbox
pub record Mailboxes : Type 0 where
  pub cells : ℕ
  pub messages : List (Option Content)

-- the message that lies in the mailbox of a sender, if one does
unfoldable pub box_of : Mailboxes → ℕ → Option Content
box_of boxes sender = slice_index_or boxes.messages sender None

-- mailboxes for so many senders, of messages for so many cells
pub record AreSized (replicas width : ℕ) (boxes : Mailboxes) : Type 0 where
  pub senders : length boxes.messages ≡ replicas
  pub cells : boxes.cells ≡ width

-- mailboxes for the same senders and cells as these
abbrev pub AreAlike : Mailboxes → Mailboxes → Type 0
AreAlike new old = AreSized (length old.messages) old.cells new

-- a table by number, with another value at one number
abbrev pub put : {A : Type 0} → (ℕ → A) → ℕ → A → ℕ → A
put values place value = λ number. if number == place then value else values number

-- the message in a mailbox, if one lies there
abbrev pub mail_in : Mailbox → Option Content
mail_in mailbox = if mailbox.present then Some mailbox.message else None

-- what lies in mailboxes
abbrev pub boxes_in : Inside → Mailboxes
boxes_in boxes = record { cells = boxes.cells; messages = map mail_in boxes.mailboxes.items }

-- each mailbox has a place for the value of each cell
abbrev pub FitCells : Inside → Type 0
FitCells boxes =
    All (λ (mailbox : Mailbox). length mailbox.message.values ≡ boxes.cells) boxes.mailboxes.items
