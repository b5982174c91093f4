-- What the calls on a message do to it. After NASA TM-104196; the words are this project's own.
use Rattle.std.specs.Prelude.{ℕ, ℤ, set, replicate, Some, None}
use Rattle.rcp_base.specs.Message.{Content}
use Rattle.mailbox.specs.declared.message.Message.TheInside.{Inside}

-- what the fields of a message say
abbrev pub content_in : Inside → Content
content_in message = record { slot = message.slot; values = message.values.items }

-- the message of so many cells that names a slot and no value
abbrev pub empty_message : ℕ → ℕ → Content
empty_message cells slot = record { slot = slot; values = replicate cells None }

-- the message with a value for a cell
abbrev pub with_value : Content → ℕ → ℤ → Content
with_value message cell value = record message { values = set message.values cell (Some value) }

-- the message with another slot
abbrev pub with_slot : Content → ℕ → Content
with_slot message slot = record message { slot = slot }
