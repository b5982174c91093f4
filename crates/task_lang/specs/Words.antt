-- What the tokens of the task language stand for: its names, its operators, its prefixes and its marks.
-- This project's own.
use Rattle.std.specs.Prelude.{ℕ, pos, Bool, true, false, List, Option, Some, None}
use Rattle.rcp_base.specs.Answers.{place_in}
use Rattle.rcp_model.specs.declared.expr.Expr.{Expr}
use Rattle.rcp_model.specs.declared.expr.Expr.TheVariants as expr
use Rattle.rcp_model.specs.declared.expr.Op.{Op}
use Rattle.rcp_model.specs.declared.expr.Op.TheVariants as op
use Rattle.task_lang.specs.declared.token.Token.{Token}
use Rattle.task_lang.specs.declared.token.Token.TheVariants as token
use Rattle.task_lang.specs.declared.token.Mark.{Mark}
use Rattle.task_lang.specs.declared.token.Mark.TheVariants as mark

-- the names that an expression may use
pub record Scope : Type 0 where
  pub sensors : List (List ℕ)
  pub cells : List (List ℕ)
  pub lets : List (List ℕ)

-- what stands for a name that is not in scope, so that the grammar does not hang on the names
abbrev pub stand_in : Expr
stand_in = expr.Number (pos 0)

-- a sensor, or else a cell, or else a let
abbrev pub first_of : Option ℕ → Option ℕ → Option ℕ → Expr
first_of (Some i) _ _ = expr.Sensor i
first_of None (Some i) _ = expr.Cell i
first_of None None (Some i) = expr.Let i
first_of None None None = stand_in

abbrev pub named_by : Scope → List ℕ → Expr
named_by scope name = first_of (place_in scope.sensors name) (place_in scope.cells name) (place_in scope.lets name)

-- a number or a name
abbrev pub leaf_of : Scope → Token → Option Expr
leaf_of scope (token.Number n) = Some (expr.Number n)
leaf_of scope (token.Word name) = Some (named_by scope name)
leaf_of scope _ = None

-- the operators of each level, from the loosest
abbrev pub or_op : Token → Option Op
or_op token.Or = Some op.Or
or_op _ = None

abbrev pub and_op : Token → Option Op
and_op token.And = Some op.And
and_op _ = None

abbrev pub comparison_op : Token → Option Op
comparison_op token.EqualEqual = Some op.Eq
comparison_op token.NotEqual = Some op.Ne
comparison_op token.Less = Some op.Lt
comparison_op token.LessEqual = Some op.Le
comparison_op token.Greater = Some op.Gt
comparison_op token.GreaterEqual = Some op.Ge
comparison_op _ = None

abbrev pub sum_op : Token → Option Op
sum_op token.Plus = Some op.Add
sum_op token.Minus = Some op.Sub
sum_op _ = None

abbrev pub product_op : Token → Option Op
product_op token.Star = Some op.Mul
product_op token.Slash = Some op.Div
product_op token.Percent = Some op.Rem
product_op _ = None

-- the prefixes
abbrev pub is_not : Token → Bool
is_not token.Not = true
is_not _ = false

abbrev pub is_minus : Token → Bool
is_minus token.Minus = true
is_minus _ = false

-- the word before a let's name
abbrev pub is_let : Token → Bool
is_let token.Let = true
is_let _ = false

-- the token of a mark
abbrev pub token_of_mark : Mark → Token
token_of_mark mark.Open = token.Open
token_of_mark mark.Close = token.Close
token_of_mark mark.Comma = token.Comma
token_of_mark mark.Assign = token.Assign
token_of_mark mark.Equal = token.Equal
token_of_mark mark.Semicolon = token.Semicolon

abbrev pub is_mark : Mark → Token → Bool
is_mark mark.Open token.Open = true
is_mark mark.Close token.Close = true
is_mark mark.Comma token.Comma = true
is_mark mark.Assign token.Assign = true
is_mark mark.Equal token.Equal = true
is_mark mark.Semicolon token.Semicolon = true
is_mark _ _ = false
