-- An operand that is no leaf keeps its code.
use Rattle.std.proofs.Common.{◌≡◌, List, [], ◌∷◌, ◌++◌, ap, sym, ◌∙◌, subst, rules}
use Rattle.rcp_model.specs.declared.expr.Expr.{Expr, the_lemmas}
use Rattle.rcp_model.specs.declared.expr.Expr.TheVariants as expr
use Rattle.rcp_model.specs.declared.expr.Op.{Op}
use Rattle.task_code.specs.declared.instruction.Instruction.{Instruction}
use Rattle.task_code.specs.declared.instruction.Instruction.TheVariants.{Neg, Not, Abs, Clamp, If}
use Rattle.task_code.specs.Compiler.{code_of, with_operand}
use Rattle.task_code.proofs.OperandLemmas.{Whole, after_neg, after_not, after_abs, after_two, after_clamp, after_if}

apart : (op : Op) (e : Expr) (code : List Instruction) → code_of e ≡ code → Whole op code → Whole op (code_of e)
apart op e code is whole = subst (λ c. Whole op c) (sym is) whole

code-neg : (x : Expr) → code_of (expr.Neg x) ≡ code_of x ++ Neg ∷ []
code-neg x = search (rules, the_lemmas)

pub whole_neg : (op : Op) (e : Expr) (x : Expr) → e ≡ expr.Neg x → Whole op (code_of e)
whole_neg op e x is = apart op e _ (ap code_of is ∙ code-neg x) (after_neg op (code_of x))

code-not : (x : Expr) → code_of (expr.Not x) ≡ code_of x ++ Not ∷ []
code-not x = search (rules, the_lemmas)

pub whole_not : (op : Op) (e : Expr) (x : Expr) → e ≡ expr.Not x → Whole op (code_of e)
whole_not op e x is = apart op e _ (ap code_of is ∙ code-not x) (after_not op (code_of x))

code-abs : (x : Expr) → code_of (expr.Abs x) ≡ code_of x ++ Abs ∷ []
code-abs x = search (rules, the_lemmas)

pub whole_abs : (op : Op) (e : Expr) (x : Expr) → e ≡ expr.Abs x → Whole op (code_of e)
whole_abs op e x is = apart op e _ (ap code_of is ∙ code-abs x) (after_abs op (code_of x))

code-two : (inner : Op) (x y : Expr) → code_of (expr.Two inner x y) ≡ code_of x ++ with_operand inner (code_of y)
code-two inner x y = search (rules, the_lemmas)

pub whole_two : (op : Op) (e : Expr) (inner : Op) (x y : Expr) → e ≡ expr.Two inner x y → Whole op (code_of e)
whole_two op e inner x y is = apart op e _ (ap code_of is ∙ code-two inner x y) (after_two op inner (code_of x) (code_of y))

code-clamp : (x y z : Expr) → code_of (expr.Clamp x y z) ≡ code_of x ++ (code_of y ++ (code_of z ++ Clamp ∷ []))
code-clamp x y z = search (rules, the_lemmas)

pub whole_clamp : (op : Op) (e : Expr) (x y z : Expr) → e ≡ expr.Clamp x y z → Whole op (code_of e)
whole_clamp op e x y z is = apart op e _ (ap code_of is ∙ code-clamp x y z) (after_clamp op (code_of x) (code_of y) (code_of z))

code-if : (x y z : Expr) → code_of (expr.If x y z) ≡ code_of x ++ (code_of y ++ (code_of z ++ If ∷ []))
code-if x y z = search (rules, the_lemmas)

pub whole_if : (op : Op) (e : Expr) (x y z : Expr) → e ≡ expr.If x y z → Whole op (code_of e)
whole_if op e x y z is = apart op e _ (ap code_of is ∙ code-if x y z) (after_if op (code_of x) (code_of y) (code_of z))
