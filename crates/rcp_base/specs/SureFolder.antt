-- The files of a folder in memory that never fails. This project's own.
use Rattle.std.specs.Prelude.{Some, option_map}
use Rattle.std.specs.BTreeMap.{get_by_text}
use Rattle.rcp_base.specs.declared.sure_folder.SureFolder.{SureFolder}
use Rattle.rcp_base.specs.Files.{Files}
use Rattle.rcp_base.specs.States.{FolderState}

-- the bytes under each name
abbrev pub sure_files : SureFolder → Files
sure_files folder name = option_map (λ bytes. bytes.items) (get_by_text folder.held name)

-- what every folder shows of it
abbrev pub sure_folder_state : SureFolder → FolderState
sure_folder_state folder = record { files = Some (sure_files folder); faults = 0 }
