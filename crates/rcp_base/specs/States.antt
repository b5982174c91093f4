-- What is known of a folder and of a sink before and after a call. This project's own.
use Rattle.std.specs.Prelude.{◌≡◌, ◌⊎◌, ℕ, ◌<◌, ◌≤◌, List, length, ⊤, Option, Some, Result, Ok, Err}
use Rattle.rcp_base.specs.Files.{Files, IfTold, IsMissing, IsLonger, Rises}
use Rattle.rcp_base.specs.declared.folder.ReadError.{ReadError}
use Rattle.rcp_base.specs.declared.folder.ReadError.TheVariants as read

-- the files of a folder, where it tells them, and how often it has failed
pub record FolderState : Type 0 where
  pub files : Option Files
  pub faults : ℕ

-- the bytes in a sink, where it tells them, and how often it has failed
pub record SinkState : Type 0 where
  pub written : Option (List ℕ)
  pub faults : ℕ

-- the folder failed in between
abbrev pub HasFailed : FolderState → FolderState → Type 0
HasFailed old new = Rises old.faults new.faults

-- a file of this name was not read: the folder failed, or tells its files and has none
abbrev pub IsUnread : FolderState → FolderState → List ℕ → Type 0
IsUnread old new name = HasFailed old new ⊎ IsMissing old.files name

-- these bytes are the file's, where the folder tells its files
abbrev pub IsRead : FolderState → List ℕ → List ℕ → Type 0
IsRead folder name bytes = IfTold folder.files (λ files. files name ≡ Some bytes)

-- the file has more bytes than the limit, and so has what was read of it
pub record IsTooLong (folder : FolderState) (name : List ℕ) (limit : ℕ) (bytes : List ℕ) : Type 0 where
  pub read : limit < length bytes
  pub held : IfTold folder.files (λ files. IsLonger files name limit)

-- what a read leaves with each answer
abbrev pub Reads : {T : Type 0} → FolderState → FolderState → List ℕ → ℕ → Result T ReadError → List ℕ → Type 0
Reads old new name limit (Ok _) bytes = (length bytes ≤ limit) × IsRead old name bytes
Reads old new name limit (Err read.TooLong) bytes = IsTooLong old name limit bytes
Reads old new name limit (Err read.Failed) bytes = IsUnread old new name
Reads old new name limit (Err read.Memory) bytes = ⊤

-- the same files, and a count that does not fall
pub record IsLater (old new : FolderState) : Type 0 where
  pub files : new.files ≡ old.files
  pub faults : old.faults ≤ new.faults
