-- Whose names are right, by the grammar: where a scan of names is to find nothing.
-- This project's own.
use Rattle.std.specs.Prelude.{ℕ, ◌<◌, ◌≡◌, Bool, true, false, List, [], ◌∷◌, ◌++◌, length, None, Err}
use Rattle.std.specs.List.{list_all}
use Rattle.rcp_model.specs.declared.expr.Expr.{Expr}
use Rattle.rcp_model.specs.declared.expr.Expr.TheVariants as expr
use Rattle.task_lang.specs.declared.fault.LangFault.TheVariants.{BadTarget}
use Rattle.task_lang.specs.declared.token.Token.{Token}
use Rattle.task_lang.specs.declared.token.Token.TheVariants as token
use Rattle.task_lang.specs.Words.{Scope, named_by}
use Rattle.task_lang.specs.Rules.{IsExpr}
use Rattle.task_lang.specs.Statements.{Statement, Let, Set, IsStatement, Many, scope_of, lets_behind, IsBody}
use Rattle.task_lang.specs.NameFaults.{has_name, is_in_scope, first_wrong_name}
use Rattle.task_lang.specs.Answers.{IsExprAnswer}
use Rattle.task_lang.specs.Printing.{name_at}

-- a name in scope, or no name
abbrev pub is_known : Scope → Token → Bool
is_known scope (token.Word name) = is_in_scope scope name
is_known scope _ = true

-- each name among the tokens is in scope
abbrev pub AreKnown : Scope → List Token → Type 0
AreKnown scope tokens = list_all (is_known scope) tokens ≡ true

-- what stands for a name: the number of the sensor, or else of the cell, or else of the let that has it
pub data StandsFor (scope : Scope) (name : List ℕ) : Expr → Type 0 where
  as_sensor : (i : ℕ) → i < length scope.sensors → name_at scope.sensors i ≡ name → StandsFor scope name (expr.Sensor i)
  as_cell : (i : ℕ) → has_name scope.sensors name ≡ false → i < length scope.cells → name_at scope.cells i ≡ name → StandsFor scope name (expr.Cell i)
  as_let : (i : ℕ) → has_name scope.sensors name ≡ false → has_name scope.cells name ≡ false → i < length scope.lets → name_at scope.lets i ≡ name
      → StandsFor scope name (expr.Let i)

-- a name in scope is no stand-in
abbrev pub KnownNamesStand : Type 0
KnownNamesStand = (scope : Scope) (name : List ℕ) → is_in_scope scope name ≡ true → StandsFor scope name (named_by scope name)

-- the tokens write this expression, and use only names in scope
abbrev pub IsKnownExpr : Scope → List Token → Expr → Type 0
IsKnownExpr scope tokens a = IsExpr scope tokens a × AreKnown scope tokens

-- the names of the lets before a statement, and of the cells that were set
pub record Earlier : Type 0 where
  pub lets : List (List ℕ)
  pub set : List (List ℕ)

-- a let has a new name, and a set that of a cell which was not set before
abbrev pub IsRightTarget : List (List ℕ) → List (List ℕ) → List (List ℕ) → List (List ℕ) → Statement → Type 0
IsRightTarget sensors cells lets set (Let name value) = is_in_scope (scope_of sensors cells lets) name ≡ false
IsRightTarget sensors cells lets set (Set name value) = (has_name cells name ≡ true) × (has_name set name ≡ false)

-- the cells that were set behind a statement
abbrev pub sets_behind : List (List ℕ) → Statement → List (List ℕ)
sets_behind set (Let name value) = set
sets_behind set (Set name value) = set ++ name ∷ []

abbrev pub earlier_behind : Earlier → Statement → Earlier
earlier_behind earlier statement = record { lets = lets_behind earlier.lets statement; set = sets_behind earlier.set statement }

-- the tokens write this statement, and its names are right
pub record IsRightStatement (sensors cells : List (List ℕ)) (earlier : Earlier) (tokens : List Token) (statement : Statement) : Type 0 where
  pub token_in : IsStatement (IsKnownExpr (scope_of sensors cells earlier.lets)) tokens statement
  pub target : IsRightTarget sensors cells earlier.lets earlier.set statement

-- the tokens write these statements, one or more, and each name is right behind those before it
abbrev pub IsRightBody : List (List ℕ) → List (List ℕ) → List Token → List Statement → Type 0
IsRightBody sensors cells = Many (IsRightStatement sensors cells) earlier_behind (record { lets = []; set = [] })

-- the scan finds nothing in an expression where its names are in scope, and only there
abbrev pub ExpressionNamesAreScanned : Type 0
ExpressionNamesAreScanned =
    (sensors cells : List (List ℕ)) (tokens : List Token) (a : Expr) → IsExpr (scope_of sensors cells []) tokens a
    → (first_wrong_name sensors cells tokens ≡ None → AreKnown (scope_of sensors cells []) tokens) × (AreKnown (scope_of sensors cells []) tokens → first_wrong_name sensors cells tokens ≡ None)

-- the scan finds nothing in a body where its names are right, and only there
abbrev pub BodyNamesAreScanned : Type 0
BodyNamesAreScanned =
    (sensors cells : List (List ℕ)) (tokens : List Token) (statements : List Statement) → IsBody sensors cells tokens statements
    → (first_wrong_name sensors cells tokens ≡ None → IsRightBody sensors cells tokens statements) × (IsRightBody sensors cells tokens statements → first_wrong_name sensors cells tokens ≡ None)

-- no right answer to an expression is that it names a wrong target
abbrev pub ExpressionsHaveNoTargets : Type 0
ExpressionsHaveNoTargets = (sensors cells : List (List ℕ)) (text : List ℕ) (byte : ℕ) → IsExprAnswer sensors cells text (Err (BadTarget byte)) → ⊥
