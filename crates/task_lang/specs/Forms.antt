-- The forms of the task language: brackets and calls, with what stands in them.
-- This project's own.
use Rattle.std.specs.Prelude.{List, [], ◌∷◌, Option, Some, None}
use Rattle.rcp_model.specs.declared.expr.Expr.{Expr}
use Rattle.rcp_model.specs.declared.expr.Expr.TheVariants as expr
use Rattle.rcp_model.specs.declared.expr.Op.TheVariants as op
use Rattle.task_lang.specs.declared.token.Token.{Token}
use Rattle.task_lang.specs.declared.token.Token.TheVariants as token
use Rattle.task_lang.specs.declared.token.Mark.{Mark}
use Rattle.task_lang.specs.declared.token.Mark.TheVariants as mark
use Rattle.task_lang.specs.declared.token.Form.{Form}
use Rattle.task_lang.specs.declared.token.Form.TheVariants as form
use Rattle.task_lang.specs.Words.{stand_in}

-- what forms and statements are made of: marks, and expressions between them
pub data Part : Type 0 where
  Sign : Mark → Part
  Inside : Part

-- the form that a token begins
abbrev pub form_of_token : Token → Option Form
form_of_token token.Open = Some form.Brackets
form_of_token token.Abs = Some form.Abs
form_of_token token.Min = Some form.Min
form_of_token token.Max = Some form.Max
form_of_token token.Clamp = Some form.Clamp
form_of_token token.If = Some form.If
form_of_token _ = None

abbrev pub one_argument : List Part
one_argument = Sign mark.Open ∷ Inside ∷ Sign mark.Close ∷ []

abbrev pub two_arguments : List Part
two_arguments = Sign mark.Open ∷ Inside ∷ Sign mark.Comma ∷ Inside ∷ Sign mark.Close ∷ []

abbrev pub three_arguments : List Part
three_arguments = Sign mark.Open ∷ Inside ∷ Sign mark.Comma ∷ Inside ∷ Sign mark.Comma ∷ Inside ∷ Sign mark.Close ∷ []

-- what stands behind the token that begins a form
abbrev pub parts_of_form : Form → List Part
parts_of_form form.Brackets = Inside ∷ Sign mark.Close ∷ []
parts_of_form form.Abs = one_argument
parts_of_form form.Min = two_arguments
parts_of_form form.Max = two_arguments
parts_of_form form.Clamp = three_arguments
parts_of_form form.If = three_arguments

-- the tree of a form, from those inside it
abbrev pub tree_of : Form → List Expr → Expr
tree_of form.Brackets (a ∷ _) = a
tree_of form.Abs (a ∷ _) = expr.Abs a
tree_of form.Min (a ∷ b ∷ _) = expr.Two op.Min a b
tree_of form.Max (a ∷ b ∷ _) = expr.Two op.Max a b
tree_of form.Clamp (a ∷ b ∷ c ∷ _) = expr.Clamp a b c
tree_of form.If (a ∷ b ∷ c ∷ _) = expr.If a b c
tree_of _ _ = stand_in
