-- Which fault says that memory ran out. This project's own.
use Rattle.std.specs.Prelude.{Bool, true, false}
use Rattle.fault_journal.specs.declared.fault.JournalFault.{JournalFault}
use Rattle.fault_journal.specs.declared.fault.JournalFault.TheVariants as fault

-- memory ran out while the journal was read
abbrev pub is_journal_memory : JournalFault → Bool
is_journal_memory fault.Memory = true
is_journal_memory _ = false
