-- The grammar of statements and bodies.
-- This project's own.
use Rattle.std.specs.Prelude.{ℕ, ◌≡◌, List, [], ◌∷◌, ◌++◌, unwrap_or, Option, Some, None}
use Rattle.rcp_base.specs.Answers.{place_in}
use Rattle.rcp_model.specs.declared.expr.Expr.{Expr}
use Rattle.rcp_model.specs.declared.task.LetRow.{LetRow}
use Rattle.rcp_model.specs.declared.task.SetRow.{SetRow}
use Rattle.rcp_model.specs.declared.task.Task.{Task}
use Rattle.task_lang.specs.declared.token.Token.{Token}
use Rattle.task_lang.specs.declared.token.Token.TheVariants as token
use Rattle.task_lang.specs.declared.token.Mark.{Mark}
use Rattle.task_lang.specs.declared.token.Mark.TheVariants as mark
pub use Rattle.task_lang.specs.declared.statements.Statement.{Statement}
pub use Rattle.task_lang.specs.declared.statements.Statement.TheVariants.{Let, Set}
use Rattle.task_lang.specs.Words.{Scope, is_let}
use Rattle.task_lang.specs.Forms.{Part, Sign, Inside}
use Rattle.task_lang.specs.Rules.{Prefixed, Sequence, expr_rule, enclosed_by}

-- what stands behind a statement's name
abbrev pub parts_behind : Mark → List Part
parts_behind sign = Sign sign ∷ Inside ∷ Sign mark.Semicolon ∷ []

-- a name, a mark, an expression and a semicolon
pub data IsNamed (mark : Mark) (make : List ℕ → Expr → Statement) (Value : List Token → Expr → Type 0) : List Token → Statement → Type 0 where
  named : (name : List ℕ) (tokens : List Token) (value : Expr) → Sequence Value (parts_behind mark) tokens (value ∷ [])
      → IsNamed mark make Value (token.Word name ∷ tokens) (make name value)

-- `let name = value;` or `name := value;`
abbrev pub IsStatement : (List Token → Expr → Type 0) → List Token → Statement → Type 0
IsStatement Value = Prefixed is_let (λ statement. statement) (IsNamed mark.Equal Let Value) (IsNamed mark.Assign Set Value)

-- one or more of a kind, each under what those before it left
pub data Many {Left X : Type 0} (One : Left → List Token → X → Type 0) (leave : Left → X → Left) : Left → List Token → List X → Type 0 where
  last : (left : Left) (tokens : List Token) (x : X) → One left tokens x → Many One leave left tokens (x ∷ [])
  next : (left : Left) (tokens : List Token) (x : X) → One left tokens x
      → (behind : List Token) (others : List X) → Many One leave (leave left x) behind others
      → Many One leave left (tokens ++ behind) (x ∷ others)

-- the names in scope behind these lets
abbrev pub scope_of : List (List ℕ) → List (List ℕ) → List (List ℕ) → Scope
scope_of sensors cells lets = record { sensors = sensors; cells = cells; lets = lets }

-- the names of the lets behind a statement
abbrev pub lets_behind : List (List ℕ) → Statement → List (List ℕ)
lets_behind lets (Let name value) = lets ++ name ∷ []
lets_behind lets (Set name value) = lets

-- with at most n brackets and prefixes round a token
abbrev pub statements_rule : ℕ → List (List ℕ) → List (List ℕ) → List Token → List Statement → Type 0
statements_rule n sensors cells =
    Many (λ lets. let scope = scope_of sensors cells lets in IsStatement (expr_rule scope (enclosed_by scope n))) lets_behind []

-- the tokens write these statements, one or more, each of which may use the lets before it
abbrev pub IsBody : List (List ℕ) → List (List ℕ) → List Token → List Statement → Type 0
IsBody = statements_rule 64

abbrev pub let_rows : List Statement → List LetRow
let_rows [] = []
let_rows (Let name value ∷ others) = record { name = name; value = value } ∷ let_rows others
let_rows (Set name value ∷ others) = let_rows others

-- a name that is no cell sets the first, as a stand-in
abbrev pub set_rows : List (List ℕ) → List Statement → List SetRow
set_rows cells [] = []
set_rows cells (Let name value ∷ others) = set_rows cells others
set_rows cells (Set name value ∷ others) = record { cell = unwrap_or (place_in cells name) 0; value = value } ∷ set_rows cells others

-- the task of this name with these statements
abbrev pub task_with : List (List ℕ) → List ℕ → List Statement → Task
task_with cells name statements = record { name = name; lets = let_rows statements; sets = set_rows cells statements }

-- the tokens write the body of this task
abbrev pub IsTask : List (List ℕ) → List (List ℕ) → List ℕ → List Token → Task → Type 0
IsTask sensors cells name tokens task =
    (statements : List Statement) × IsBody sensors cells tokens statements × (task ≡ task_with cells name statements)

-- the name that a token is
abbrev pub word_of : Token → Option (List ℕ)
word_of (token.Word name) = Some name
word_of _ = None
