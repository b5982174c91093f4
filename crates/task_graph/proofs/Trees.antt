-- What a fold makes of one level of an expression.
use Rattle.std.proofs.Common.{◌≡◌, refl}
use Rattle.rcp_model.specs.declared.expr.Expr.{Expr, map-Expr}
use Rattle.rcp_model.specs.declared.expr.Expr.TheOpen.{Expr-F}

-- a function of each operand, whose proofs are left out
pub map-map : (P : Expr → Type 0) {B : Type 0} (f : Expr → B) (y : Expr-F ((e : Expr) × P e)) → map-Expr Expr B f (map-Expr ((e : Expr) × P e) Expr (λ e. e.0) y) ≡ map-Expr ((e : Expr) × P e) B (λ e. f e.0) y
map-map P f (Expr-F.Number n) = refl
map-map P f (Expr-F.Sensor i) = refl
map-map P f (Expr-F.Cell i) = refl
map-map P f (Expr-F.Let i) = refl
map-map P f (Expr-F.Neg x) = refl
map-map P f (Expr-F.Not x) = refl
map-map P f (Expr-F.Abs x) = refl
map-map P f (Expr-F.Two op a b) = refl
map-map P f (Expr-F.Clamp x low high) = refl
map-map P f (Expr-F.If test a b) = refl
