-- An expression is over so many sensors, cells and lets where its operands are.
use Rattle.std.proofs.Common.{◌≡◌, ℕ, ◌<◌, ℤ, pos, Bool, true, ap, ◌∙◌, rules}
use Rattle.std.specs.Prelude.{◌&&◌, nat_lt, int_le}
use Rattle.std.proofs.lemmas.Bool.{lt-ltb}
use Rattle.rcp_model.specs.declared.expr.Expr.{Expr, the_lemmas}
use Rattle.rcp_model.specs.declared.expr.Expr.TheVariants as expr
use Rattle.rcp_model.specs.declared.expr.Op.{Op}
use Rattle.rcp_model.specs.Plan.{is_over}

module _ (sensors cells lets : ℕ) where
  abbrev IsOver : Expr → Type 0
  IsOver a = is_over sensors cells lets a ≡ true

  both_hold : (a b : Bool) → a ≡ true → b ≡ true → (a && b) ≡ true
  both_hold a b first second = ap (λ test. test && b) first ∙ second

  over-number : (n : ℤ) → is_over sensors cells lets (expr.Number n) ≡ int_le (pos 0) n
  over-number n = search (rules, the_lemmas)

  over-sensor : (i : ℕ) → is_over sensors cells lets (expr.Sensor i) ≡ nat_lt i sensors
  over-sensor i = search (rules, the_lemmas)

  over-cell : (i : ℕ) → is_over sensors cells lets (expr.Cell i) ≡ nat_lt i cells
  over-cell i = search (rules, the_lemmas)

  over-let : (i : ℕ) → is_over sensors cells lets (expr.Let i) ≡ nat_lt i lets
  over-let i = search (rules, the_lemmas)

  over-neg : (a : Expr) → is_over sensors cells lets (expr.Neg a) ≡ is_over sensors cells lets a
  over-neg a = search (rules, the_lemmas)

  over-not : (a : Expr) → is_over sensors cells lets (expr.Not a) ≡ is_over sensors cells lets a
  over-not a = search (rules, the_lemmas)

  over-abs : (a : Expr) → is_over sensors cells lets (expr.Abs a) ≡ is_over sensors cells lets a
  over-abs a = search (rules, the_lemmas)

  over-two : (op : Op) (a b : Expr) → is_over sensors cells lets (expr.Two op a b) ≡ (is_over sensors cells lets a && is_over sensors cells lets b)
  over-two op a b = search (rules, the_lemmas)

  over-clamp : (a low high : Expr)
      → is_over sensors cells lets (expr.Clamp a low high) ≡ (is_over sensors cells lets a && is_over sensors cells lets low && is_over sensors cells lets high)
  over-clamp a low high = search (rules, the_lemmas)

  over-if : (test a b : Expr)
      → is_over sensors cells lets (expr.If test a b) ≡ (is_over sensors cells lets test && is_over sensors cells lets a && is_over sensors cells lets b)
  over-if test a b = search (rules, the_lemmas)

  -- leaves

  pub number_over : (n : ℤ) → int_le (pos 0) n ≡ true → IsOver (expr.Number n)
  number_over n is = over-number n ∙ is

  pub sensor_over : (i : ℕ) → i < sensors → IsOver (expr.Sensor i)
  sensor_over i below = over-sensor i ∙ lt-ltb i sensors below

  pub cell_over : (i : ℕ) → i < cells → IsOver (expr.Cell i)
  cell_over i below = over-cell i ∙ lt-ltb i cells below

  pub let_over : (i : ℕ) → i < lets → IsOver (expr.Let i)
  let_over i below = over-let i ∙ lt-ltb i lets below

  -- and what is made of expressions

  pub neg_over : (a : Expr) → IsOver a → IsOver (expr.Neg a)
  neg_over a over = over-neg a ∙ over

  pub not_over : (a : Expr) → IsOver a → IsOver (expr.Not a)
  not_over a over = over-not a ∙ over

  pub abs_over : (a : Expr) → IsOver a → IsOver (expr.Abs a)
  abs_over a over = over-abs a ∙ over

  pub two_over : (op : Op) (a b : Expr) → IsOver a → IsOver b → IsOver (expr.Two op a b)
  two_over op a b first second = over-two op a b ∙ both_hold _ _ first second

  pub clamp_over : (a low high : Expr) → IsOver a → IsOver low → IsOver high → IsOver (expr.Clamp a low high)
  clamp_over a low high first second third =
      over-clamp a low high ∙ both_hold (is_over sensors cells lets a && is_over sensors cells lets low) _ (both_hold _ _ first second) third

  pub if_over : (test a b : Expr) → IsOver test → IsOver a → IsOver b → IsOver (expr.If test a b)
  if_over test a b first second third =
      over-if test a b ∙ both_hold (is_over sensors cells lets test && is_over sensors cells lets a) _ (both_hold _ _ first second) third
