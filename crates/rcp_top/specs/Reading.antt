-- What a call reads, one file after the other, and what it finds in them. This project's own.
use Rattle.std.specs.Prelude.{◌⊎◌, ℕ, List, [], ◌∷◌, Option, None, Some, Result, Ok, Err}
use Rattle.rcp_base.specs.Files.{Files}
use Rattle.rcp_base.specs.States.{FolderState, IsRead, IsUnread}
use Rattle.rcp_top.specs.declared.stop.Refusal.{Refusal}

-- a find or a refusal, or a read of the file of this name, and how it goes on with its bytes
pub data Reading (X : Type 0) : Type 0 where
  gives : Result X Refusal → Reading X
  reads : List ℕ → (List ℕ → Reading X) → Reading X

-- how it ends: with a find or a refusal, or at a file of this name that was not read
pub data End (X : Type 0) : Type 0 where
  gave : Result X Refusal → End X
  unread : List ℕ → End X

infixl 10 ◌>>=◌
-- goes on with what was found
abbrev pub ◌>>=◌ : {X Y : Type 0} → Reading X → (X → Reading Y) → Reading Y
Reading.gives (Ok x) >>= next = next x
Reading.gives (Err refusal) >>= next = Reading.gives (Err refusal)
Reading.reads name rest >>= next = Reading.reads name (λ bytes. rest bytes >>= next)

-- the bytes of a file
abbrev pub file_at : List ℕ → Reading (List ℕ)
file_at name = Reading.reads name (λ bytes. Reading.gives (Ok bytes))

-- its end by what is held under a name
abbrev pub end_at : {X : Type 0} → List ℕ → (List ℕ → End X) → Option (List ℕ) → End X
end_at name next None = End.unread name
end_at name next (Some bytes) = next bytes

-- its end over these files
abbrev pub end_over : {X : Type 0} → Files → Reading X → End X
end_over files (Reading.gives found) = End.gave found
end_over files (Reading.reads name next) = end_at name (λ bytes. end_over files (next bytes)) (files name)

-- the names read after a file, if it is held
abbrev pub names_after : (List ℕ → List (List ℕ)) → Option (List ℕ) → List (List ℕ)
names_after next None = []
names_after next (Some bytes) = next bytes

-- the names that it reads over these files, in turn
abbrev pub names_read : {X : Type 0} → Files → Reading X → List (List ℕ)
names_read files (Reading.gives found) = []
names_read files (Reading.reads name next) = name ∷ names_after (λ bytes. names_read files (next bytes)) (files name)

-- a folder went from old to new while this was read, with this end
abbrev pub Does : {X : Type 0} → FolderState → FolderState → Reading X → (End X → Type 0) → Type 0
Does old new (Reading.gives found) ends = ends (End.gave found)
Does old new (Reading.reads name next) ends =
    (IsUnread old new name × ends (End.unread name))
    ⊎ ((bytes : List ℕ) × IsRead old name bytes × Does old new (next bytes) ends)
