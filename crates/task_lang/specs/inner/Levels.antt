-- The levels of expressions, as the code goes by them, and what the code answers.
-- This project's own.
use Rattle.std.specs.Prelude.{List, ℕ, zero, suc, ◌≡◌, ⊤, Bool, false, Option, Some, None, Result, Ok, Err}
use Rattle.rcp_model.specs.declared.expr.Expr.{Expr}
use Rattle.rcp_model.specs.declared.expr.Expr.TheVariants as expr
use Rattle.rcp_model.specs.declared.expr.Op.{Op}
use Rattle.task_lang.specs.declared.token.Token.{Token}
use Rattle.task_lang.specs.declared.reader.Level.{Level}
use Rattle.task_lang.specs.declared.reader.Level.TheVariants as level
use Rattle.task_lang.specs.declared.reader.ReadFault.{ReadFault}
use Rattle.task_lang.specs.declared.reader.ReadFault.TheVariants as fault
use Rattle.task_lang.specs.Words.{Scope, or_op, and_op, comparison_op, sum_op, product_op, is_not, is_minus}
use Rattle.task_lang.specs.ReaderParts.{Reader}
use Rattle.task_lang.specs.Reader.{readers, prim_reader, unary_reader, product_reader, sum_reader, comparison_reader, inv_reader, conj_reader, expr_reader}
use Rattle.task_lang.specs.Faults.{Answers}

-- the reader of a level where at most n brackets and prefixes may yet enclose a token
unfoldable pub level_reader : Level → Scope → ℕ → Reader Expr
level_reader level.Or scope n = expr_reader scope (readers scope n)
level_reader level.And scope n = conj_reader scope (readers scope n)
level_reader level.Inv scope n = inv_reader scope (readers scope n)
level_reader level.Comparison scope n = comparison_reader scope (readers scope n)
level_reader level.Sum scope n = sum_reader scope (readers scope n)
level_reader level.Product scope n = product_reader scope (readers scope n)
level_reader level.Unary scope n = unary_reader scope (readers scope n)
level_reader level.Prim scope n = prim_reader scope (readers scope n)

-- the reader of what is enclosed, if anything may be
abbrev pub inner_reader : Level → Scope → ℕ → Option (Reader Expr)
inner_reader at scope zero = None
inner_reader at scope (suc n) = Some (level_reader at scope n)

-- the level of a level's operands
abbrev pub below : Level → Level
below level.Or = level.And
below level.And = level.Inv
below level.Inv = level.Comparison
below level.Comparison = level.Sum
below level.Sum = level.Product
below level.Product = level.Unary
below level.Unary = level.Prim
below level.Prim = level.Prim

abbrev pub operator_at : Level → Token → Option Op
operator_at level.Or = or_op
operator_at level.And = and_op
operator_at level.Comparison = comparison_op
operator_at level.Sum = sum_op
operator_at level.Product = product_op
operator_at _ = λ token. None

-- its operands are grouped to the left
abbrev pub IsChain : Level → Type 0
IsChain level.Or = ⊤
IsChain level.And = ⊤
IsChain level.Sum = ⊤
IsChain level.Product = ⊤
IsChain _ = ⊥

-- a prefix may stand there
abbrev pub HasPrefix : Level → Type 0
HasPrefix level.Inv = ⊤
HasPrefix level.Unary = ⊤
HasPrefix _ = ⊥

-- the prefix of a level, and its tree
abbrev pub is_prefix : Level → Token → Bool
is_prefix level.Inv = is_not
is_prefix level.Unary = is_minus
is_prefix _ = λ token. false

abbrev pub with_prefix : Level → Expr → Expr
with_prefix level.Inv a = expr.Not a
with_prefix _ a = expr.Neg a

-- what the code answers, by a view of it: a fault is where the reader has it, unless memory ran out
abbrev pub Fails : {Y : Type 0} → ReadFault → Result Y ℕ → Type 0
Fails fault.Memory read = ⊤
Fails (fault.At left) read = read ≡ Err left

abbrev pub Follows : {X Y : Type 0} → (X → Y) → Result X ReadFault → Result Y ℕ → Type 0
Follows view (Ok x) read = read ≡ Ok (view x)
Follows view (Err fault) read = Fails fault read

-- what the code answers of all tokens is right by a grammar
abbrev pub IsReadResult : {X : Type 0} → (List Token → X → Type 0) → List Token → Result X ReadFault → Type 0
IsReadResult Permits tokens (Ok x) = Answers Permits tokens (Ok x)
IsReadResult Permits tokens (Err fault.Memory) = ⊤
IsReadResult Permits tokens (Err (fault.At left)) = Answers Permits tokens (Err left)
