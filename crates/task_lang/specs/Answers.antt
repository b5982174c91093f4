-- What a reader of a whole text answers.
-- This project's own.
use Rattle.std.specs.Prelude.{ℕ, ◌+◌, ◌-◌, ◌≡◌, ⊤, List, [], length, slice_index_or, Option, Some, None, Result, Ok, Err}
use Rattle.rcp_model.specs.declared.expr.Expr.{Expr}
use Rattle.rcp_model.specs.declared.task.Task.{Task}
use Rattle.task_lang.specs.declared.fault.LangFault.{LangFault}
use Rattle.task_lang.specs.declared.fault.LangFault.TheVariants.{Syntax, UnknownName, BadTarget, Memory}
use Rattle.task_lang.specs.declared.token.Token.{Token}
use Rattle.task_lang.specs.Tokens.{tokens_of, lefts_of}
use Rattle.task_lang.specs.Rules.{IsExpr}
use Rattle.task_lang.specs.Statements.{scope_of, IsTask}
use Rattle.task_lang.specs.Faults.{IsFaultAtByte}
use Rattle.task_lang.specs.NameFaults.{NameFault, IsUnknown, IsBadTarget, first_wrong_name}

-- the text is in the grammar, and its first wrong name begins at this byte
pub record IsNameFaultAt {X : Type 0} (Permits : List Token → X → Type 0) (found : Option (NameFault × ℕ)) (fault : NameFault) (text : List ℕ) (byte : ℕ) : Type 0 where
  pub tree : X
  pub permitted : Permits (tokens_of text) tree
  pub left : ℕ
  pub first : found ≡ Some (fault, left)
  pub place : byte + slice_index_or (lefts_of text) (length (tokens_of text) - left) 0 ≡ length text

-- the one tree of the text, whose names are right
pub record IsOnly {X : Type 0} (Permits : List Token → X → Type 0) (found : Option (NameFault × ℕ)) (text : List ℕ) (tree : X) : Type 0 where
  pub permitted : Permits (tokens_of text) tree
  pub only : (other : X) → Permits (tokens_of text) other → other ≡ tree
  pub fine : found ≡ None

-- the answer is right by a grammar and a scan of names; memory may always run out
abbrev pub IsAnswer : {X : Type 0} → (List Token → X → Type 0) → Option (NameFault × ℕ) → List ℕ → Result X LangFault → Type 0
IsAnswer Permits found text (Ok tree) = IsOnly Permits found text tree
IsAnswer Permits found text (Err (Syntax byte)) = IsFaultAtByte Permits text byte
IsAnswer Permits found text (Err (UnknownName byte)) = IsNameFaultAt Permits found IsUnknown text byte
IsAnswer Permits found text (Err (BadTarget byte)) = IsNameFaultAt Permits found IsBadTarget text byte
IsAnswer Permits found text (Err Memory) = ⊤

-- the answer to an expression's text
abbrev pub IsExprAnswer : List (List ℕ) → List (List ℕ) → List ℕ → Result Expr LangFault → Type 0
IsExprAnswer sensors cells text answer = IsAnswer (IsExpr (scope_of sensors cells [])) (first_wrong_name sensors cells (tokens_of text)) text answer

-- the answer to the text of a body, for the task of this name
abbrev pub IsBodyAnswer : List (List ℕ) → List (List ℕ) → List ℕ → List ℕ → Result Task LangFault → Type 0
IsBodyAnswer sensors cells name text answer = IsAnswer (IsTask sensors cells name) (first_wrong_name sensors cells (tokens_of text)) text answer
