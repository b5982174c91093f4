-- The lines of what is refused, and of how the program is to be called. This project's own.
use Rattle.std.specs.Prelude.{ℕ, List, [], ◌++◌, codes}
use Rattle.std.specs.Fmt.{decimal}
use Rattle.task_file.specs.declared.fault.FileFault.{FileFault}
use Rattle.task_file.specs.declared.fault.FileFault.TheVariants as fault
use Rattle.task_file.specs.declared.path.Path.{Path}
use Rattle.task_file.specs.PathText.{path_text}
use Rattle.fault_journal.specs.declared.fault.JournalFault.{JournalFault}
use Rattle.fault_journal.specs.declared.fault.JournalFault.TheVariants as journal

-- `unreadable: WORD`
unfoldable pub unreadable_line : List ℕ → List ℕ
unreadable_line word = codes "unreadable: " ++ word ++ codes "\n"

-- all forms of words, built or not
unfoldable pub usage_line : List ℕ
usage_line =
    codes "usage: ideal FILE JOURNAL | check FILE | thin FILE | replay FILE JOURNAL [rs|ds|da] | "
    ++ codes "events FILE JOURNAL first|last | summary FILE JOURNAL | gen FILE NUMBER FRAMES\n"

-- a place, and a byte of the text there
abbrev pub byte_text : Path → ℕ → List ℕ
byte_text path byte = path_text path ++ codes " byte " ++ decimal byte

-- the code of a fault, with its place; out of memory is never printed
abbrev pub fault_text : FileFault → List ℕ
fault_text fault.TooLong = codes "E01"
fault_text fault.NotToml = codes "E02"
fault_text (fault.Shape path) = codes "E03 " ++ path_text path
fault_text (fault.BadName path) = codes "E04 " ++ path_text path
fault_text (fault.Syntax path byte) = codes "E05 " ++ byte_text path byte
fault_text (fault.UnknownName path byte) = codes "E06 " ++ byte_text path byte
fault_text (fault.BadTarget path byte) = codes "E07 " ++ byte_text path byte
fault_text (fault.UnknownInSlot path) = codes "E08 " ++ path_text path
fault_text (fault.SlotClash path) = codes "E09 " ++ path_text path
fault_text (fault.Timing rule) = codes "E10 rule " ++ decimal rule
fault_text fault.Memory = []

-- `task file refused: FAULT`
unfoldable pub task_refused_line : FileFault → List ℕ
task_refused_line fault = codes "task file refused: " ++ fault_text fault ++ codes "\n"

-- the code of a journal's fault, with its row; out of memory is never printed
abbrev pub journal_fault_text : JournalFault → List ℕ
journal_fault_text journal.TooLong = codes "J01"
journal_fault_text (journal.Width row) = codes "J02 row " ++ decimal row
journal_fault_text journal.Header = codes "J03"
journal_fault_text (journal.Kind row) = codes "J04 row " ++ decimal row
journal_fault_text (journal.Column row column) =
    codes "J05 row " ++ decimal row ++ codes " column " ++ decimal column
journal_fault_text (journal.Order row) = codes "J06 row " ++ decimal row
journal_fault_text (journal.Limit row) = codes "J07 row " ++ decimal row
journal_fault_text (journal.Repeated row) = codes "J08 row " ++ decimal row
journal_fault_text (journal.End row) = codes "J09 row " ++ decimal row
journal_fault_text journal.Memory = []

-- `journal refused: FAULT`
unfoldable pub journal_refused_line : JournalFault → List ℕ
journal_refused_line fault = codes "journal refused: " ++ journal_fault_text fault ++ codes "\n"
