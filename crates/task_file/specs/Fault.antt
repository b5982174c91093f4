-- Faults of a task file: which of them says nothing of the file, and which a text of the task language has.
-- This project's own.
use Rattle.std.specs.Prelude.{Bool, true, false, Result, Ok, Err}
use Rattle.task_lang.specs.declared.fault.LangFault.{LangFault}
use Rattle.task_lang.specs.declared.fault.LangFault.TheVariants as lang
use Rattle.task_file.specs.declared.fault.FileFault.{FileFault}
use Rattle.task_file.specs.declared.fault.FileFault.TheVariants as fault
use Rattle.task_file.specs.declared.path.Path.{Path}

-- memory ran out
abbrev pub is_file_memory : FileFault → Bool
is_file_memory fault.Memory = true
is_file_memory _ = false

-- the fault of a text at a place
abbrev pub fault_of_text : Path → LangFault → FileFault
fault_of_text path (lang.Syntax byte) = fault.Syntax path byte
fault_of_text path (lang.UnknownName byte) = fault.UnknownName path byte
fault_of_text path (lang.BadTarget byte) = fault.BadTarget path byte
fault_of_text path lang.Memory = fault.Memory

-- the answer to a text at a place
abbrev pub of_text : {A : Type 0} → Path → Result A LangFault → Result A FileFault
of_text path (Ok x) = Ok x
of_text path (Err fault) = Err (fault_of_text path fault)
