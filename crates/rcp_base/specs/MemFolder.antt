-- What a folder in memory holds, and where it fails. This project's own.
use Rattle.std.specs.Prelude.{◌≡◌, ◌⊎◌, ℕ, List, None, Some, IsSome}
use Rattle.rcp_base.specs.declared.mem_folder.MemFolder.{MemFolder}
use Rattle.rcp_base.specs.Files.{Files}
use Rattle.rcp_base.specs.SureFolder.{sure_files}
use Rattle.rcp_base.specs.Calls.{CallState, next_failure}
use Rattle.rcp_base.specs.States.{FolderState}

-- the bytes under each name
abbrev pub memory_files : MemFolder → Files
memory_files folder = sure_files folder.held

-- the reads so far, and those that are to fail, each after 0 bytes
abbrev pub memory_calls : MemFolder → CallState
memory_calls folder = folder.calls

-- what every folder shows of it: its files, and how many of the reads so far have failed at a listed call
abbrev pub memory_folder_state : MemFolder → FolderState
memory_folder_state folder = record { files = Some (memory_files folder); faults = (memory_calls folder).faults }

-- the next read of this name fails: its call is listed, or no file has the name
abbrev pub FailsNext : MemFolder → List ℕ → Type 0
FailsNext folder name = IsSome (next_failure (memory_calls folder)) ⊎ (memory_files folder name ≡ None)
