-- The value of an expression. This project's own.
use Rattle.std.specs.Prelude.{ℤ, pos, Bool, ◌&&◌, ◌||◌, not, List, slice_index_or, int_lt, int_le, if◌then◌else◌}
use Rattle.std.specs.Int.{int_min, int_max}
use Rattle.std.specs.Ordering.{int_eq}
use Rattle.rcp_base.specs.Arithmetic.{sum_of, difference_of, product_of, quotient_of, remainder_of, negation_of, magnitude_of}
use Rattle.rcp_model.specs.declared.expr.Op.{Op}
use Rattle.rcp_model.specs.declared.expr.Op.TheVariants.{Add, Sub, Mul, Div, Rem, Lt, Le, Gt, Ge, Eq, Ne, And, Or, Min, Max}
use Rattle.rcp_model.specs.declared.expr.Expr.{Expr, fold-Expr}
use Rattle.rcp_model.specs.declared.expr.Expr.TheOpen.{Expr-F}

-- every number but 0 is true
abbrev pub is_true : ℤ → Bool
is_true x = not (int_eq x (pos 0))

-- the number of a truth value
abbrev pub truth : Bool → ℤ
truth b = if b then pos 1 else pos 0

-- what an operator makes of two numbers
abbrev pub op_result : Op → ℤ → ℤ → ℤ
op_result Add a b = sum_of a b
op_result Sub a b = difference_of a b
op_result Mul a b = product_of a b
op_result Div a b = quotient_of a b
op_result Rem a b = remainder_of a b
op_result Lt a b = truth (int_lt a b)
op_result Le a b = truth (int_le a b)
op_result Gt a b = truth (int_lt b a)
op_result Ge a b = truth (int_le b a)
op_result Eq a b = truth (int_eq a b)
op_result Ne a b = truth (not (int_eq a b))
op_result And a b = truth (is_true a && is_true b)
op_result Or a b = truth (is_true a || is_true b)
op_result Min a b = int_min a b
op_result Max a b = int_max a b

-- a value over the values of the lets, the sensors and the cells
abbrev pub Value : Type 0
Value = List ℤ → List ℤ → List ℤ → ℤ

-- the value of one level, over those of its operands
abbrev pub value_step : Expr-F Value → Value
value_step (Expr-F.Number n) lets sensors cells = n
value_step (Expr-F.Sensor i) lets sensors cells = slice_index_or sensors i (pos 0)
value_step (Expr-F.Cell i) lets sensors cells = slice_index_or cells i (pos 0)
value_step (Expr-F.Let i) lets sensors cells = slice_index_or lets i (pos 0)
value_step (Expr-F.Neg x) lets sensors cells = negation_of (x lets sensors cells)
value_step (Expr-F.Not x) lets sensors cells = truth (not (is_true (x lets sensors cells)))
value_step (Expr-F.Abs x) lets sensors cells = magnitude_of (x lets sensors cells)
value_step (Expr-F.Two op a b) lets sensors cells = op_result op (a lets sensors cells) (b lets sensors cells)
value_step (Expr-F.Clamp x low high) lets sensors cells =
    int_max (low lets sensors cells) (int_min (x lets sensors cells) (high lets sensors cells))
value_step (Expr-F.If test a b) lets sensors cells =
    if is_true (test lets sensors cells) then a lets sensors cells else b lets sensors cells

-- the value of an expression
abbrev pub value_of : Expr → Value
value_of = fold-Expr Value value_step
