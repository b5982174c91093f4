-- Why a call stops, by the fault of a file. This project's own.
use Rattle.std.specs.Prelude.{if◌then◌else◌}
use Rattle.task_file.specs.declared.fault.FileFault.{FileFault}
use Rattle.task_file.specs.Fault.{is_file_memory}
use Rattle.fault_journal.specs.declared.fault.JournalFault.{JournalFault}
use Rattle.fault_journal.specs.Fault.{is_journal_memory}
use Rattle.rcp_top.specs.declared.stop.Refusal.TheVariants as refusal
use Rattle.rcp_top.specs.declared.stop.Stop.{Stop}
use Rattle.rcp_top.specs.declared.stop.Stop.TheVariants as stop

-- the stop at a task file's fault: it is refused, unless memory ran out
abbrev pub file_stop : FileFault → Stop
file_stop fault = if is_file_memory fault then stop.Memory else stop.Refused (refusal.TaskFile fault)

-- the stop at a journal's fault
abbrev pub journal_stop : JournalFault → Stop
journal_stop fault = if is_journal_memory fault then stop.Memory else stop.Refused (refusal.Journal fault)
