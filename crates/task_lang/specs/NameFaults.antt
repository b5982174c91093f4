-- Whether each name of a text that is in the grammar stands where it may: a scan over the text's tokens.
-- This project's own.
use Rattle.std.specs.Prelude.{ℕ, suc, Bool, true, false, not, ◌&&◌, ◌||◌, List, [], ◌∷◌, ◌++◌, length, Option, Some, None, is_some, if◌then◌else◌}
use Rattle.task_lang.specs.declared.token.Token.{Token}
use Rattle.task_lang.specs.declared.token.Token.TheVariants as token
pub use Rattle.task_lang.specs.declared.scan.NameFault.{NameFault}
pub use Rattle.task_lang.specs.declared.scan.NameFault.TheVariants.{IsUnknown, IsBadTarget}
pub use Rattle.task_lang.specs.declared.scan.Role.{Role}
pub use Rattle.task_lang.specs.declared.scan.Role.TheVariants.{NewLet, SetCell, Operand}
use Rattle.task_lang.specs.Words.{Scope}
use Rattle.rcp_base.specs.Answers.{place_in}
use Rattle.task_lang.specs.ReaderParts.{choose}
use Rattle.task_lang.specs.Statements.{scope_of, word_of}

-- what the tokens before have named
pub record Seen : Type 0 where
  -- the names that an expression may use
  pub scope : Scope
  -- the let of the statement that has not ended
  pub begun : List (List ℕ)
  -- the cells that were set
  pub set : List (List ℕ)
  -- `let` stands right before
  pub behind_let : Bool

-- the let that was begun, if one was
abbrev pub names_begun : Option (List ℕ) → List (List ℕ)
names_begun None = []
names_begun (Some name) = name ∷ []

abbrev pub has_name : List (List ℕ) → List ℕ → Bool
has_name names name = is_some (place_in names name)

-- an expression may use the name
abbrev pub is_in_scope : Scope → List ℕ → Bool
is_in_scope scope name = has_name scope.sensors name || has_name scope.cells name || has_name scope.lets name

abbrev pub begins_with_assign : List Token → Bool
begins_with_assign (token.Assign ∷ rest) = true
begins_with_assign _ = false

-- the role of a name before these tokens
abbrev pub role_before : Seen → List Token → Role
role_before seen rest = if seen.behind_let then NewLet else if begins_with_assign rest then SetCell else Operand

-- what is wrong with a name in its role: a new let has a new name, and a cell is set once
abbrev pub fault_in : Seen → Role → List ℕ → Option NameFault
fault_in seen NewLet name = if is_in_scope seen.scope name then Some IsBadTarget else None
fault_in seen SetCell name = if has_name seen.scope.cells name && not (has_name seen.set name) then None else Some IsBadTarget
fault_in seen Operand name = if is_in_scope seen.scope name then None else Some IsUnknown

-- behind a name
abbrev pub seen_behind_name : Seen → Role → List ℕ → Seen
seen_behind_name seen NewLet name = record seen { begun = name ∷ []; behind_let = false }
seen_behind_name seen SetCell name = record seen { set = seen.set ++ name ∷ []; behind_let = false }
seen_behind_name seen Operand name = record seen { behind_let = false }

-- with the let that was begun in scope
abbrev pub scope_at_end : Seen → Scope
scope_at_end seen = scope_of seen.scope.sensors seen.scope.cells (seen.scope.lets ++ seen.begun)

-- behind another token
abbrev pub seen_behind : Seen → Token → Seen
seen_behind seen token.Let = record seen { behind_let = true }
seen_behind seen token.Semicolon = record seen { scope = scope_at_end seen; begun = []; behind_let = false }
seen_behind seen _ = record seen { behind_let = false }

-- the first name that is wrong, with how many tokens are left there
abbrev pub wrong_name_from : Seen → List Token → Option (NameFault × ℕ)
wrong_name_from seen [] = None
wrong_name_from seen (first ∷ rest) =
    choose (word_of first) (wrong_name_from (seen_behind seen first) rest)
    (λ name.
    choose (fault_in seen (role_before seen rest) name) (wrong_name_from (seen_behind_name seen (role_before seen rest) name) rest)
    (λ fault. Some (fault, suc (length rest))))

abbrev pub nothing_seen : List (List ℕ) → List (List ℕ) → Seen
nothing_seen sensors cells = record { scope = scope_of sensors cells []; begun = []; set = []; behind_let = false }

-- the first wrong name of an expression or a body over these sensors and cells
unfoldable pub first_wrong_name : List (List ℕ) → List (List ℕ) → List Token → Option (NameFault × ℕ)
first_wrong_name sensors cells tokens = wrong_name_from (nothing_seen sensors cells) tokens
