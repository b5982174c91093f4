-- What is seen of the folder of the system's files. This project's own.
use Rattle.std.specs.Prelude.{None}
use Rattle.rcp_base.specs.States.{FolderState}
use Rattle.rcp_cli.specs.declared.folder.StdFolder.{StdFolder}

-- it tells no files, and counts how often opening or reading one was refused
abbrev pub std_folder_state : {R : Type 0} → StdFolder R → FolderState
std_folder_state folder = record { files = None; faults = folder.faults }
