-- Readers of whole texts, made of the readers of tokens and the scan of names.
-- This project's own.
use Rattle.std.specs.Prelude.{ℕ, ◌-◌, List, [], length, slice_index_or, Option, Some, None, Result, Ok, Err}
use Rattle.rcp_model.specs.declared.expr.Expr.{Expr}
use Rattle.rcp_model.specs.declared.task.Task.{Task}
use Rattle.task_lang.specs.declared.fault.LangFault.{LangFault}
use Rattle.task_lang.specs.declared.fault.LangFault.TheVariants.{Syntax, UnknownName, BadTarget, Memory}
use Rattle.task_lang.specs.declared.reader.ReadFault.{ReadFault}
use Rattle.task_lang.specs.declared.reader.ReadFault.TheVariants as fault
use Rattle.task_lang.specs.Tokens.{tokens_of, lefts_of}
use Rattle.task_lang.specs.Reader.{whole, expr_reader, readers}
use Rattle.task_lang.specs.Statements.{scope_of}
use Rattle.task_lang.specs.StatementReaders.{read_task}
use Rattle.task_lang.specs.NameFaults.{NameFault, IsUnknown, IsBadTarget, first_wrong_name}

-- the byte of the token where so many are left, or the text's length
abbrev pub byte_at : List ℕ → ℕ → ℕ
byte_at text left = length text - slice_index_or (lefts_of text) (length (tokens_of text) - left) 0

-- the fault of a name where so many tokens are left
abbrev pub fault_of_name : List ℕ → NameFault → ℕ → LangFault
fault_of_name text IsUnknown left = UnknownName (byte_at text left)
fault_of_name text IsBadTarget left = BadTarget (byte_at text left)

-- a tree, unless a name is wrong
abbrev pub with_names : {X : Type 0} → List ℕ → X → Option (NameFault × ℕ) → Result X LangFault
with_names text tree None = Ok tree
with_names text tree (Some (fault, left)) = Err (fault_of_name text fault left)

-- the fault of tokens that were not read
abbrev pub fault_of_syntax : List ℕ → ReadFault → LangFault
fault_of_syntax text fault.Memory = Memory
fault_of_syntax text (fault.At left) = Syntax (byte_at text left)

-- what tokens were read as, by bytes
abbrev pub text_answer : {X : Type 0} → List ℕ → Result X ℕ → Option (NameFault × ℕ) → Result X LangFault
text_answer text (Ok tree) found = with_names text tree found
text_answer text (Err left) found = Err (Syntax (byte_at text left))

-- the expression of a text over these sensors and cells
unfoldable pub read_expr : List (List ℕ) → List (List ℕ) → List ℕ → Result Expr LangFault
read_expr sensors cells text =
    let scope = scope_of sensors cells [] in
    text_answer text (whole (expr_reader scope (readers scope 64)) (tokens_of text)) (first_wrong_name sensors cells (tokens_of text))

-- the task of this name whose body is a text over these sensors and cells
unfoldable pub read_body : List (List ℕ) → List (List ℕ) → List ℕ → List ℕ → Result Task LangFault
read_body sensors cells name text =
    text_answer text (read_task 64 sensors cells name (tokens_of text)) (first_wrong_name sensors cells (tokens_of text))
