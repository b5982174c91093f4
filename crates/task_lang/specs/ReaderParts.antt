-- What readers are made of: a tree and the tokens after it, or how many tokens are left at the fault.
-- This project's own.
use Rattle.std.specs.Prelude.{ℕ, zero, suc, Bool, List, [], ◌∷◌, length, if◌then◌else◌, Option, Some, None, Result, Ok, Err}
use Rattle.rcp_base.specs.Answers.{◌>>=◌}
use Rattle.rcp_model.specs.declared.expr.Expr.{Expr}
use Rattle.rcp_model.specs.declared.expr.Expr.TheVariants as expr
use Rattle.rcp_model.specs.declared.expr.Op.{Op}
use Rattle.task_lang.specs.declared.token.Token.{Token}
use Rattle.task_lang.specs.declared.token.Mark.{Mark}
use Rattle.task_lang.specs.Words.{is_mark}
use Rattle.task_lang.specs.Forms.{Part, Sign, Inside}

-- what to do where there is none, and with one
abbrev pub choose : {X Y : Type 0} → Option X → Y → (X → Y) → Y
choose None none some = none
choose (Some x) none some = some x

abbrev pub Read : Type 0 → Type 0
Read X = Result (X × List Token) ℕ

abbrev pub Reader : Type 0 → Type 0
Reader X = List Token → Read X

-- one reader, and another that goes on with its tree
abbrev pub bound : {X Y : Type 0} → Reader X → (X → Reader Y) → Reader Y
bound {X} read next tokens = read tokens >>= λ (got : X × List Token). next got.0 got.1

-- a map of what was read
abbrev pub made : {X Y : Type 0} → (X → Y) → X × List Token → Read Y
made make got = Ok (make got.0, got.1)

-- operators and operands behind an operand, at most n
abbrev pub onward_to : (Token → Option Op) → Reader Expr → ℕ → Expr → Reader Expr
onward_to op read n a [] = Ok (a, [])
onward_to op read zero a (token ∷ rest) = Ok (a, token ∷ rest)
onward_to op read (suc n) a (token ∷ rest) =
    choose (op token) (Ok (a, token ∷ rest)) (λ operator. bound read (λ b. onward_to op read n (expr.Two operator a b)) rest)

-- all operators and operands behind an operand
abbrev pub onward : (Token → Option Op) → Reader Expr → Expr → Reader Expr
onward op read a tokens = onward_to op read (length tokens) a tokens

abbrev pub chained : (Token → Option Op) → Reader Expr → Reader Expr
chained op read = bound read (onward op read)

-- an operator and an operand behind an operand, if there is an operator
abbrev pub beside : (Token → Option Op) → Reader Expr → Expr → Reader Expr
beside op read a [] = Ok (a, [])
beside op read a (token ∷ rest) =
    choose (op token) (Ok (a, token ∷ rest)) (λ operator. bound read (λ b left. Ok (expr.Two operator a b, left)) rest)

abbrev pub compared : (Token → Option Op) → Reader Expr → Reader Expr
compared op read = bound read (beside op read)

-- where nothing more may be enclosed the fault is at the token that would enclose it
abbrev pub enclosed : {X Y : Type 0} → Option (Reader X) → (Reader X → Reader Y) → ℕ → Reader Y
enclosed None next left tokens = Err left
enclosed (Some read) next left tokens = next read tokens

abbrev pub prefixed : {X : Type 0} → (Token → Bool) → (X → X) → Option (Reader X) → Reader X → Reader X
prefixed is make inner read [] = read []
prefixed is make inner read (token ∷ rest) =
    if is token then enclosed inner (λ behind us. behind us >>= made make) (suc (length rest)) rest else read (token ∷ rest)

-- past a mark
abbrev pub past : Mark → List Token → Result (List Token) ℕ
past mark [] = Err 0
past mark (token ∷ rest) = if is_mark mark token then Ok rest else Err (suc (length rest))

abbrev pub sequence : Reader Expr → List Part → Reader (List Expr)
sequence read [] tokens = Ok ([], tokens)
sequence read (Sign mark ∷ parts) tokens = past mark tokens >>= sequence read parts
sequence read (Inside ∷ parts) tokens = bound read (λ first rest. sequence read parts rest >>= made (λ others. first ∷ others)) tokens
