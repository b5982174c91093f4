-- A reader for each rule of statements and bodies.
-- This project's own.
use Rattle.std.specs.Prelude.{ℕ, zero, suc, List, [], ◌∷◌, length, Some, Result, Ok, Err}
use Rattle.rcp_base.specs.Answers.{◌>>=◌}
use Rattle.rcp_model.specs.declared.expr.Expr.{Expr}
use Rattle.rcp_model.specs.declared.task.Task.{Task}
use Rattle.task_lang.specs.declared.token.Token.{Token}
use Rattle.task_lang.specs.declared.token.Mark.{Mark}
use Rattle.task_lang.specs.declared.token.Mark.TheVariants as mark
use Rattle.task_lang.specs.Words.{stand_in, is_let}
use Rattle.task_lang.specs.Statements.{Statement, Let, Set, parts_behind, scope_of, lets_behind, task_with, word_of}
use Rattle.task_lang.specs.ReaderParts.{choose, Reader, bound, made, prefixed, sequence}
use Rattle.task_lang.specs.Reader.{expr_reader, readers, whole}

-- the one tree of a list of one
abbrev pub only : List Expr → Expr
only [] = stand_in
only (value ∷ _) = value

abbrev pub named_reader : Mark → (List ℕ → Expr → Statement) → Reader Expr → Reader Statement
named_reader mark make read [] = Err 0
named_reader mark make read (token ∷ rest) =
    choose (word_of token) (Err (suc (length rest))) (λ name. sequence read (parts_behind mark) rest >>= made (λ trees. make name (only trees)))

-- the statement that has this mark behind its name
abbrev pub statement_of : Mark → List ℕ → Expr → Statement
statement_of mark.Equal name value = Let name value
statement_of _ name value = Set name value

abbrev pub statement_reader : Reader Expr → Reader Statement
statement_reader read = prefixed is_let (λ statement. statement) (Some (named_reader mark.Equal Let read)) (named_reader mark.Assign Set read)

-- those behind one, if there are any
abbrev pub then_more : {Left X : Type 0} → (Left → X → Left) → (Left → Reader (List X)) → Left → X → Reader (List X)
then_more leave read left x [] = Ok (x ∷ [], [])
then_more leave read left x (token ∷ rest) = read (leave left x) (token ∷ rest) >>= made (λ others. x ∷ others)

-- less than n
abbrev pub many_below : {Left X : Type 0} → (Left → X → Left) → (Left → Reader X) → ℕ → Left → Reader (List X)
many_below leave read zero left tokens = Err (length tokens)
many_below leave read (suc n) left tokens = bound (read left) (then_more leave (many_below leave read n) left) tokens

-- to the end of the tokens
abbrev pub many : {Left X : Type 0} → (Left → X → Left) → (Left → Reader X) → Left → Reader (List X)
many leave read left tokens = many_below leave read (suc (length tokens)) left tokens

abbrev pub statements_reader : ℕ → List (List ℕ) → List (List ℕ) → Reader (List Statement)
statements_reader n sensors cells =
    many lets_behind (λ lets. let scope = scope_of sensors cells lets in statement_reader (expr_reader scope (readers scope n))) []

-- the task of this name that all of the tokens write
unfoldable pub read_task : ℕ → List (List ℕ) → List (List ℕ) → List ℕ → List Token → Result Task ℕ
read_task n sensors cells name tokens = whole (statements_reader n sensors cells) tokens >>= λ statements. Ok (task_with cells name statements)
