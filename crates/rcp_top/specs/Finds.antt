-- What code that reads answers. This project's own.
use Rattle.std.specs.Prelude.{◌≡◌, ◌⊎◌, ℕ, ◌<◌, List, length, ⊤, Result, Ok, Err}
use Rattle.rcp_base.specs.States.{FolderState}
use Rattle.rcp_top.specs.declared.stop.Stop.{Stop}
use Rattle.rcp_top.specs.declared.stop.Stop.TheVariants as stop
use Rattle.rcp_top.specs.Reading.{Reading, End, Does}

-- an answer tells this end: a find that stands for what was found, the same refusal, or the name of the file
abbrev pub TellsEnd : {X Y : Type 0} → (Y → X → Type 0) → Result Y Stop → End X → Type 0
TellsEnd is (Err stop.Memory) end = ⊤
TellsEnd is (Ok y) (End.gave (Ok x)) = is y x
TellsEnd is (Err (stop.Refused refusal)) (End.gave (Err said)) = said ≡ refusal
TellsEnd is (Err (stop.Unreadable word)) (End.unread name) = name ≡ word.now
TellsEnd is answer end = ⊥

-- code did this reading and answers how it ended, or memory ran out
abbrev pub Finds : {X Y : Type 0} → (Y → X → Type 0) → FolderState → FolderState → Reading X → Result Y Stop → Type 0
Finds is old new reading (Err stop.Memory) = ⊤
Finds is old new reading answer = Does old new reading (TellsEnd is answer)

-- what was read of a file, and the file: the same bytes, or each more than the limit
abbrev pub IsSeenUpTo : ℕ → List ℕ → List ℕ → Type 0
IsSeenUpTo limit seen bytes = (seen ≡ bytes) ⊎ ((limit < length seen) × (limit < length bytes))
