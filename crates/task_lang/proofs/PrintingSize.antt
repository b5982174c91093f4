-- How much there is to print of a tree.
use Rattle.std.proofs.Common.{ℕ, suc, ◌+◌}
use Rattle.rcp_model.specs.declared.expr.Expr.{Expr, fold-Expr}
use Rattle.rcp_model.specs.declared.expr.Expr.TheOpen.{Expr-F}

abbrev size_step : Expr-F ℕ → ℕ
size_step (Expr-F.Number n) = 0
size_step (Expr-F.Sensor i) = 0
size_step (Expr-F.Cell i) = 0
size_step (Expr-F.Let i) = 0
size_step (Expr-F.Neg a) = suc a
size_step (Expr-F.Not a) = suc a
size_step (Expr-F.Abs a) = suc a
size_step (Expr-F.Two op a b) = suc (a + b)
size_step (Expr-F.Clamp a b c) = suc (a + b + c)
size_step (Expr-F.If a b c) = suc (a + b + c)

abbrev pub size : Expr → ℕ
size = fold-Expr ℕ size_step
