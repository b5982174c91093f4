-- Which places have room for what the plan of a setting needs. This project's own.
use Rattle.std.specs.Prelude.{◌≡◌, ℕ, ℤ, List, length, All, Option, Vec}
use Rattle.std.specs.Global.{Global}
use Rattle.rcp_base.specs.Message.{Content}
use Rattle.rcp_model.specs.Uniprocessor.{ProcessorState}
use Rattle.replica_parts.specs.declared.ballot.Ballot.{Ballot}
use Rattle.replica_parts.specs.declared.ballot.Heard.{Heard}
use Rattle.replica_parts.specs.declared.post.Post.{Post}
use Rattle.replica_parts.specs.declared.setting.Setting.{Setting}

-- so many items, each with a property
pub record AreEach {X : Type 0} (n : ℕ) (P : X → Type 0) (xs : List X) : Type 0 where
  pub size : length xs ≡ n
  pub each : All P xs

-- it holds a value for each cell
abbrev pub HasCells : Setting → ProcessorState → Type 0
HasCells setting held = length held.cells ≡ setting.cells

-- a message has a place for the value of each cell
abbrev pub HasRoom : Setting → Content → Type 0
HasRoom setting message = length message.values ≡ setting.cells

-- a place for a letter of the plan
abbrev pub IsPost : Setting → Post → Type 0
IsPost setting place = HasRoom setting place.message

-- a place for a message of the plan that is heard
abbrev pub IsHeard : Setting → Heard → Type 0
IsHeard setting place = HasRoom setting place.message

-- what is held, for each replica
abbrev pub AreStates : Setting → List ProcessorState → Type 0
AreStates setting held = AreEach setting.replicas (HasCells setting) held

-- a message for each replica
abbrev pub AreMessages : Setting → List Content → Type 0
AreMessages setting messages = AreEach setting.replicas (HasRoom setting) messages

-- a place for a letter from each sender
abbrev pub ArePosts : Setting → List Post → Type 0
ArePosts setting places = AreEach setting.replicas (IsPost setting) places

-- a place for what is heard of each sender
abbrev pub AreHeard : Setting → List Heard → Type 0
AreHeard setting places = AreEach setting.replicas (IsHeard setting) places

-- for each receiver a place for a letter from each sender
abbrev pub ArePostRows : Setting → List (Vec Post Global) → Type 0
ArePostRows setting rows =
    AreEach setting.replicas (λ (row : Vec Post Global). ArePosts setting row.items) rows

-- a place for a vote of each replica
abbrev pub AreVotePlaces : Setting → List (Option ℤ) → Type 0
AreVotePlaces setting places = length places ≡ setting.replicas

-- a ballot has places for what is heard of each sender, and for each cell
pub record HasBallotRoom (setting : Setting) (place : Ballot) : Type 0 where
  pub heard : AreHeard setting place.heard.items
  pub cells : length place.cells.items ≡ setting.cells

-- such a ballot for each replica
abbrev pub HaveBallotRoom : Setting → List Ballot → Type 0
HaveBallotRoom setting places = AreEach setting.replicas (HasBallotRoom setting) places

-- a place for the command of each actuator
abbrev pub IsCommandRow : Setting → Vec (Option ℤ) Global → Type 0
IsCommandRow setting row = length row.items ≡ setting.actuators

-- such places for each replica
abbrev pub AreCommandRows : Setting → List (Vec (Option ℤ) Global) → Type 0
AreCommandRows setting rows = AreEach setting.replicas (IsCommandRow setting) rows
