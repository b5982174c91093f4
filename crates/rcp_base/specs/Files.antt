-- The files of a folder, and counts of faults. This project's own.
use Rattle.std.specs.Prelude.{◌≡◌, ℕ, ◌+◌, ◌-◌, ◌^◌, ◌<◌, ◌≤◌, min, List, length, ⊤, Option, Some, None, if◌then◌else◌}
use Rattle.std.specs.Str.{bytes_eq}

-- the bytes under each name
abbrev pub Files : Type 0
Files = List ℕ → Option (List ℕ)

-- the files with these bytes under this name
abbrev pub with_file : Files → List ℕ → List ℕ → Files
with_file files name bytes other = if bytes_eq other name then Some bytes else files other

-- a count of faults went up, or stands at the last value of its type
abbrev pub Rises : ℕ → ℕ → Type 0
Rises before now = min (before + 1) (2 ^ 64 - 1) ≤ now

-- a fact of the files, where the folder tells them
abbrev pub IfTold : Option Files → (Files → Type 0) → Type 0
IfTold None P = ⊤
IfTold (Some files) P = P files

-- the folder tells its files, and none has this name
abbrev pub IsMissing : Option Files → List ℕ → Type 0
IsMissing None name = ⊥
IsMissing (Some files) name = files name ≡ None

-- a file of this name has more bytes than the limit
pub record IsLonger (files : Files) (name : List ℕ) (limit : ℕ) : Type 0 where
  pub bytes : List ℕ
  pub held : files name ≡ Some bytes
  pub longer : limit < length bytes
