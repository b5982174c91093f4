-- How long the compiler's instructions are, and how many results they have.
use Rattle.std.proofs.Common.{◌≡◌, ℕ, ◌+◌, ◌≤◌, List, [], ◌∷◌, ◌++◌, length, sum_by, refl, ap, sym, ◌∙◌, subst, length-append, arith}
use Rattle.std.proofs.lemmas.List.Sums.{sum_by-cons}
use Rattle.rcp_model.specs.declared.expr.Expr.{Expr, map-Expr}
use Rattle.rcp_model.specs.declared.expr.Expr.TheOpen.{Expr-F}
use Rattle.rcp_model.specs.declared.expr.Expr.TheViews.{roll-Expr}
use Rattle.rcp_model.specs.declared.expr.Expr.TheFolds.{fold-roll-Expr, ind-Expr}
use Rattle.rcp_model.specs.declared.expr.Op.{Op}
use Rattle.rcp_model.specs.declared.task.LetRow.{LetRow}
use Rattle.rcp_model.specs.declared.task.SetRow.{SetRow}
use Rattle.rcp_model.specs.declared.task.Task.{Task}
use Rattle.task_code.specs.declared.instruction.Instruction.{Instruction}
use Rattle.task_code.specs.declared.instruction.Instruction.TheVariants.{Neg, Not, Abs, Clamp, If, Keep, Give}
use Rattle.task_code.specs.Machine.{result_count, gives}
use Rattle.task_code.specs.Compiler.{code_of, code_step, with_operand, lets_code, sets_code, task_code, expr_code, expr_size, count_step}
use Rattle.task_code.specs.Correct.{Computes, ComputesExpr}
use Rattle.task_code.proofs.OperandLemmas.{result_count-append, length_operand, count_operand}
use Rattle.task_code.proofs.RunLemmas.{map-map, code_of-roll, results-task_code, results-expr_code}

-- a code has no results and at most this length
record Sized (code : List Instruction) (n : ℕ) : Type 0 where
  count : result_count code ≡ 0
  size : length code ≤ n

abbrev SizedByNodes : Expr → Type 0
SizedByNodes e = Sized (code_of e) (expr_size e)

one : (a : List Instruction) (i : Instruction) (n : ℕ) → gives i ≡ 0 → Sized a n → Sized (a ++ i ∷ []) (n + 1)
one a i n none s = record {
  count = omega (arith, result_count-append a (i ∷ []), s.count);
  size = omega (arith, length-append a (i ∷ []), s.size);
}

operator : (op : Op) (b : List Instruction) (n : ℕ) → Sized b n → Sized (with_operand op b) (n + 1)
operator op b n s = record {
  count = omega (arith, count_operand op b, s.count);
  size = omega (arith, length_operand op b, s.size);
}

front : (a b : List Instruction) (n m : ℕ) → Sized a n → Sized b m → Sized (a ++ b) (n + m)
front a b n m s t = record {
  count = omega (arith, result_count-append a b, s.count, t.count);
  size = omega (arith, length-append a b, s.size, t.size);
}

same_size : (a : List Instruction) (n m : ℕ) → n ≡ m → Sized a n → Sized a m
same_size a n m e s = subst (λ k. Sized a k) e s

-- one level, over operands of the sizes of their nodes
sized_level : (y : Expr-F ((e : Expr) × SizedByNodes e)) → Sized (code_step (map-Expr ((e : Expr) × SizedByNodes e) (List Instruction) (λ e. code_of e.0) y)) (count_step (map-Expr ((e : Expr) × SizedByNodes e) ℕ (λ e. expr_size e.0) y))
sized_level (Expr-F.Number n) = record { count = refl; size = omega arith }
sized_level (Expr-F.Sensor i) = record { count = refl; size = omega arith }
sized_level (Expr-F.Cell i) = record { count = refl; size = omega arith }
sized_level (Expr-F.Let i) = record { count = refl; size = omega arith }
sized_level (Expr-F.Neg x) = one (code_of x.0) Neg (expr_size x.0) refl x.1
sized_level (Expr-F.Not x) = one (code_of x.0) Not (expr_size x.0) refl x.1
sized_level (Expr-F.Abs x) = one (code_of x.0) Abs (expr_size x.0) refl x.1
sized_level (Expr-F.Two op a b) =
    same_size _ (expr_size a.0 + (expr_size b.0 + 1)) (expr_size a.0 + expr_size b.0 + 1) (omega arith)
    (front (code_of a.0) (with_operand op (code_of b.0)) (expr_size a.0) (expr_size b.0 + 1) a.1
    (operator op (code_of b.0) (expr_size b.0) b.1))
sized_level (Expr-F.Clamp x low high) =
    same_size _ (expr_size x.0 + (expr_size low.0 + (expr_size high.0 + 1))) (expr_size x.0 + expr_size low.0 + expr_size high.0 + 1) (omega arith)
    (front (code_of x.0) (code_of low.0 ++ (code_of high.0 ++ Clamp ∷ [])) (expr_size x.0) (expr_size low.0 + (expr_size high.0 + 1)) x.1
    (front (code_of low.0) (code_of high.0 ++ Clamp ∷ []) (expr_size low.0) (expr_size high.0 + 1) low.1
    (one (code_of high.0) Clamp (expr_size high.0) refl high.1)))
sized_level (Expr-F.If test a b) =
    same_size _ (expr_size test.0 + (expr_size a.0 + (expr_size b.0 + 1))) (expr_size test.0 + expr_size a.0 + expr_size b.0 + 1) (omega arith)
    (front (code_of test.0) (code_of a.0 ++ (code_of b.0 ++ If ∷ [])) (expr_size test.0) (expr_size a.0 + (expr_size b.0 + 1)) test.1
    (front (code_of a.0) (code_of b.0 ++ If ∷ []) (expr_size a.0) (expr_size b.0 + 1) a.1
    (one (code_of b.0) If (expr_size b.0) refl b.1)))

expr_size-roll : (x : Expr-F Expr) → expr_size (roll-Expr x) ≡ count_step (map-Expr Expr ℕ expr_size x)
expr_size-roll = fold-roll-Expr ℕ count_step

sized_rolled : (y : Expr-F ((e : Expr) × SizedByNodes e)) → SizedByNodes (roll-Expr (map-Expr ((e : Expr) × SizedByNodes e) Expr (λ e. e.0) y))
sized_rolled y =
    let x : Expr-F Expr = map-Expr ((e : Expr) × SizedByNodes e) Expr (λ e. e.0) y in
    let code : code_of (roll-Expr x) ≡ code_step (map-Expr ((e : Expr) × SizedByNodes e) (List Instruction) (λ e. code_of e.0) y) = code_of-roll x ∙ ap code_step (map-map SizedByNodes code_of y) in
    let count : expr_size (roll-Expr x) ≡ count_step (map-Expr ((e : Expr) × SizedByNodes e) ℕ (λ e. expr_size e.0) y) = expr_size-roll x ∙ ap count_step (map-map SizedByNodes expr_size y) in
    subst (λ c. Sized c (expr_size (roll-Expr x))) (sym code)
    (subst (λ n. Sized (code_step (map-Expr ((e : Expr) × SizedByNodes e) (List Instruction) (λ e. code_of e.0) y)) n) (sym count) (sized_level y))

sized : (e : Expr) → SizedByNodes e
sized = ind-Expr SizedByNodes (λ x y is. subst (λ z. SizedByNodes (roll-Expr z)) is (sized_rolled y))

result_count-lets_code : (rows : List LetRow) → result_count (lets_code rows) ≡ 0
result_count-lets_code [] = refl
result_count-lets_code (row ∷ rows) =
    omega (arith, result_count-append (code_of row.value) (Keep ∷ lets_code rows), (sized row.value).count, result_count-lets_code rows)

length-lets_code : (rows : List LetRow) → length (lets_code rows) ≤ sum_by (λ row. expr_size row.value) rows + length rows
length-lets_code [] = omega arith
length-lets_code (row ∷ rows) =
    omega (arith, length-append (code_of row.value) (Keep ∷ lets_code rows), (sized row.value).size, length-lets_code rows, sum_by-cons (λ (r : LetRow). expr_size r.value) row rows)

result_count-sets_code : (rows : List SetRow) → result_count (sets_code rows) ≡ length rows
result_count-sets_code [] = refl
result_count-sets_code (row ∷ rows) =
    omega (arith, result_count-append (code_of row.value) (Give ∷ sets_code rows), (sized row.value).count, result_count-sets_code rows)

length-sets_code : (rows : List SetRow) → length (sets_code rows) ≤ sum_by (λ row. expr_size row.value) rows + length rows
length-sets_code [] = omega arith
length-sets_code (row ∷ rows) =
    omega (arith, length-append (code_of row.value) (Give ∷ sets_code rows), (sized row.value).size, length-sets_code rows, sum_by-cons (λ (r : SetRow). expr_size r.value) row rows)

-- a task's code computes the task
pub task_code_computes : (task : Task) → Computes task (task_code task)
task_code_computes task = record {
  values = results-task_code task;
  count = omega (arith, result_count-append (lets_code task.lets) (sets_code task.sets), result_count-lets_code task.lets, result_count-sets_code task.sets);
  size = omega (arith, length-append (lets_code task.lets) (sets_code task.sets), length-lets_code task.lets, length-sets_code task.sets);
}

-- an expression's code computes the expression
pub expr_code_computes : (e : Expr) → ComputesExpr e (expr_code e)
expr_code_computes e = record {
  values = results-expr_code e;
  count = omega (arith, result_count-append (code_of e) (Give ∷ []), (sized e).count);
  size = omega (arith, length-append (code_of e) (Give ∷ []), (sized e).size);
}
