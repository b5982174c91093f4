-- The signs of operators, and their levels: 1 is the loosest, 8 the tightest.
-- This project's own.
use Rattle.std.specs.Prelude.{ℕ, Bool, true, false, List, codes}
use Rattle.rcp_model.specs.declared.expr.Op.{Op}
use Rattle.rcp_model.specs.declared.expr.Op.TheVariants as op

-- the sign of an operator, or its word where it is printed as a call
abbrev pub sign_of : Op → List ℕ
sign_of op.Or = codes "or"
sign_of op.And = codes "and"
sign_of op.Eq = codes "=="
sign_of op.Ne = codes "!="
sign_of op.Lt = codes "<"
sign_of op.Le = codes "<="
sign_of op.Gt = codes ">"
sign_of op.Ge = codes ">="
sign_of op.Add = codes "+"
sign_of op.Sub = codes "-"
sign_of op.Mul = codes "*"
sign_of op.Div = codes "/"
sign_of op.Rem = codes "%"
sign_of op.Min = codes "min"
sign_of op.Max = codes "max"

-- the level of what an operator makes
abbrev pub level_of : Op → ℕ
level_of op.Or = 1
level_of op.And = 2
level_of op.Eq = 4
level_of op.Ne = 4
level_of op.Lt = 4
level_of op.Le = 4
level_of op.Gt = 4
level_of op.Ge = 4
level_of op.Add = 5
level_of op.Sub = 5
level_of op.Mul = 6
level_of op.Div = 6
level_of op.Rem = 6
level_of op.Min = 8
level_of op.Max = 8

-- the least level of its left place: its own, since it groups to the left, but comparisons do not chain
abbrev pub left_place : Op → ℕ
left_place op.Eq = 5
left_place op.Ne = 5
left_place op.Lt = 5
left_place op.Le = 5
left_place op.Gt = 5
left_place op.Ge = 5
left_place operator = level_of operator

abbrev pub is_call : Op → Bool
is_call op.Min = true
is_call op.Max = true
is_call _ = false
