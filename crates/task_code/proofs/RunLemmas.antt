-- What the compiler's instructions do.
use Rattle.std.proofs.Common.{◌≡◌, ℤ, List, [], ◌∷◌, ◌++◌, map, refl, ap, sym, ◌∙◌, subst, append_assoc}
use Rattle.std.proofs.lemmas.List.{append-nil}
use Rattle.rcp_model.specs.declared.expr.Expr.{Expr, map-Expr}
use Rattle.rcp_model.specs.declared.expr.Expr.TheOpen.{Expr-F}
use Rattle.rcp_model.specs.declared.expr.Expr.TheViews.{roll-Expr}
use Rattle.rcp_model.specs.declared.expr.Expr.TheFolds.{fold-roll-Expr, ind-Expr}
use Rattle.rcp_model.specs.declared.task.LetRow.{LetRow}
use Rattle.rcp_model.specs.declared.task.SetRow.{SetRow}
use Rattle.rcp_model.specs.declared.task.Task.{Task}
use Rattle.rcp_model.specs.Expr.{Value, value_of, value_step}
use Rattle.rcp_model.specs.Task.{let_values, let_values_after}
use Rattle.task_code.specs.declared.instruction.Instruction.{Instruction}
use Rattle.task_code.specs.declared.instruction.Instruction.TheVariants.{Neg, Not, Abs, Two, Clamp, If, Keep, Give}
use Rattle.task_code.specs.Machine.{State, start, run, push, results}
use Rattle.task_code.specs.Compiler.{code_of, code_step, with_operand, lets_code, sets_code, task_code, expr_code}
use Rattle.task_code.specs.Correct.{set_values}
use Rattle.task_code.proofs.OperandLemmas.{runs_operand}

-- a code puts a value on the stack, whatever follows
abbrev Pushes : List Instruction → Value → Type 0
Pushes code value =
    (sensors cells : List ℤ) (rest : List Instruction) (s : State) →
    run sensors cells (code ++ rest) s ≡ run sensors cells rest (push (value s.lets sensors cells) s)

abbrev PushesValue : Expr → Type 0
PushesValue e = Pushes (code_of e) (value_of e)

one_operand : (a c rest : List Instruction) → (a ++ c) ++ rest ≡ a ++ (c ++ rest)
one_operand a c rest = simp append_assoc

three_operands : (a b d c rest : List Instruction) → (a ++ (b ++ (d ++ c))) ++ rest ≡ a ++ (b ++ (d ++ (c ++ rest)))
three_operands a b d c rest = simp append_assoc

-- one level, over operands that put their values on the stack
pushes_level : (y : Expr-F ((e : Expr) × PushesValue e)) → Pushes (code_step (map-Expr ((e : Expr) × PushesValue e) (List Instruction) (λ e. code_of e.0) y)) (value_step (map-Expr ((e : Expr) × PushesValue e) Value (λ e. value_of e.0) y))
pushes_level (Expr-F.Number n) sensors cells rest s = refl
pushes_level (Expr-F.Sensor i) sensors cells rest s = refl
pushes_level (Expr-F.Cell i) sensors cells rest s = refl
pushes_level (Expr-F.Let i) sensors cells rest s = refl
pushes_level (Expr-F.Neg x) sensors cells rest s =
    ap (λ code. run sensors cells code s) (one_operand (code_of x.0) (Neg ∷ []) rest) ∙ x.1 sensors cells (Neg ∷ rest) s
pushes_level (Expr-F.Not x) sensors cells rest s =
    ap (λ code. run sensors cells code s) (one_operand (code_of x.0) (Not ∷ []) rest) ∙ x.1 sensors cells (Not ∷ rest) s
pushes_level (Expr-F.Abs x) sensors cells rest s =
    ap (λ code. run sensors cells code s) (one_operand (code_of x.0) (Abs ∷ []) rest) ∙ x.1 sensors cells (Abs ∷ rest) s
pushes_level (Expr-F.Two op a b) sensors cells rest s =
    ap (λ code. run sensors cells code s) (one_operand (code_of a.0) (with_operand op (code_of b.0)) rest)
    ∙ a.1 sensors cells (with_operand op (code_of b.0) ++ rest) s
    ∙ runs_operand sensors cells op (code_of b.0) rest (push (value_of a.0 s.lets sensors cells) s)
    ∙ b.1 sensors cells (Two op ∷ rest) (push (value_of a.0 s.lets sensors cells) s)
pushes_level (Expr-F.Clamp x low high) sensors cells rest s =
    let first : State = push (value_of x.0 s.lets sensors cells) s in
    ap (λ code. run sensors cells code s) (three_operands (code_of x.0) (code_of low.0) (code_of high.0) (Clamp ∷ []) rest)
    ∙ x.1 sensors cells (code_of low.0 ++ (code_of high.0 ++ Clamp ∷ rest)) s
    ∙ low.1 sensors cells (code_of high.0 ++ Clamp ∷ rest) first
    ∙ high.1 sensors cells (Clamp ∷ rest) (push (value_of low.0 s.lets sensors cells) first)
pushes_level (Expr-F.If test a b) sensors cells rest s =
    let first : State = push (value_of test.0 s.lets sensors cells) s in
    ap (λ code. run sensors cells code s) (three_operands (code_of test.0) (code_of a.0) (code_of b.0) (If ∷ []) rest)
    ∙ test.1 sensors cells (code_of a.0 ++ (code_of b.0 ++ If ∷ rest)) s
    ∙ a.1 sensors cells (code_of b.0 ++ If ∷ rest) first
    ∙ b.1 sensors cells (If ∷ rest) (push (value_of a.0 s.lets sensors cells) first)

pub code_of-roll : (x : Expr-F Expr) → code_of (roll-Expr x) ≡ code_step (map-Expr Expr (List Instruction) code_of x)
code_of-roll = fold-roll-Expr (List Instruction) code_step

value_of-roll : (x : Expr-F Expr) → value_of (roll-Expr x) ≡ value_step (map-Expr Expr Value value_of x)
value_of-roll = fold-roll-Expr Value value_step

-- a function of each operand, whose proofs are left out
pub map-map : (P : Expr → Type 0) {B : Type 0} (f : Expr → B) (y : Expr-F ((e : Expr) × P e)) → map-Expr Expr B f (map-Expr ((e : Expr) × P e) Expr (λ e. e.0) y) ≡ map-Expr ((e : Expr) × P e) B (λ e. f e.0) y
map-map P f (Expr-F.Number n) = refl
map-map P f (Expr-F.Sensor i) = refl
map-map P f (Expr-F.Cell i) = refl
map-map P f (Expr-F.Let i) = refl
map-map P f (Expr-F.Neg x) = refl
map-map P f (Expr-F.Not x) = refl
map-map P f (Expr-F.Abs x) = refl
map-map P f (Expr-F.Two op a b) = refl
map-map P f (Expr-F.Clamp x low high) = refl
map-map P f (Expr-F.If test a b) = refl

pushes_rolled : (y : Expr-F ((e : Expr) × PushesValue e)) → PushesValue (roll-Expr (map-Expr ((e : Expr) × PushesValue e) Expr (λ e. e.0) y))
pushes_rolled y =
    let x : Expr-F Expr = map-Expr ((e : Expr) × PushesValue e) Expr (λ e. e.0) y in
    let code : code_of (roll-Expr x) ≡ code_step (map-Expr ((e : Expr) × PushesValue e) (List Instruction) (λ e. code_of e.0) y) = code_of-roll x ∙ ap code_step (map-map PushesValue code_of y) in
    let value : value_of (roll-Expr x) ≡ value_step (map-Expr ((e : Expr) × PushesValue e) Value (λ e. value_of e.0) y) = value_of-roll x ∙ ap value_step (map-map PushesValue value_of y) in
    subst (λ c. Pushes c (value_of (roll-Expr x))) (sym code)
    (subst (λ v. Pushes (code_step (map-Expr ((e : Expr) × PushesValue e) (List Instruction) (λ e. code_of e.0) y)) v) (sym value) (pushes_level y))

-- an expression's code puts its value on the stack
pub pushes : (e : Expr) → PushesValue e
pushes = ind-Expr PushesValue (λ x y is. subst (λ z. PushesValue (roll-Expr z)) is (pushes_rolled y))

-- the code of let rows leaves their values after the lets before them
pub runs_lets :
    (sensors cells : List ℤ) (rows : List LetRow) (rest : List Instruction) (s : State) →
    run sensors cells (lets_code rows ++ rest) s ≡ run sensors cells rest (record s { lets = let_values_after s.lets rows sensors cells })
runs_lets sensors cells [] rest s = refl
runs_lets sensors cells (row ∷ rows) rest s =
    ap (λ code. run sensors cells code s) (one_operand (code_of row.value) (Keep ∷ lets_code rows) rest)
    ∙ pushes row.value sensors cells (Keep ∷ (lets_code rows ++ rest)) s
    ∙ runs_lets sensors cells rows rest (record s { lets = s.lets ++ value_of row.value s.lets sensors cells ∷ [] })

-- the code of set rows leaves their values after the results before them
pub runs_sets :
    (sensors cells : List ℤ) (rows : List SetRow) (rest : List Instruction) (s : State) →
    run sensors cells (sets_code rows ++ rest) s
    ≡ run sensors cells rest (record s { results = s.results ++ map (λ row. value_of row.value s.lets sensors cells) rows })
runs_sets sensors cells [] rest s = ap (λ r. run sensors cells rest (record s { results = r })) (sym (append-nil s.results))
runs_sets sensors cells (row ∷ rows) rest s =
    let v : ℤ = value_of row.value s.lets sensors cells in
    let later : List ℤ = map (λ row. value_of row.value s.lets sensors cells) rows in
    ap (λ code. run sensors cells code s) (one_operand (code_of row.value) (Give ∷ sets_code rows) rest)
    ∙ pushes row.value sensors cells (Give ∷ (sets_code rows ++ rest)) s
    ∙ runs_sets sensors cells rows rest (record s { results = s.results ++ v ∷ [] })
    ∙ ap (λ r. run sensors cells rest (record s { results = r })) (append_assoc s.results (v ∷ []) later)

-- the results of a task's code are the values of its set rows
pub results-task_code : (task : Task) (sensors cells : List ℤ) → results (task_code task) sensors cells ≡ set_values task sensors cells
results-task_code task sensors cells =
    let kept : State = record start { lets = let_values task sensors cells } in
    ap (λ s. s.results) (runs_lets sensors cells task.lets (sets_code task.sets) start)
    ∙ ap (λ code. (run sensors cells code kept).results) (sym (append-nil (sets_code task.sets)))
    ∙ ap (λ s. s.results) (runs_sets sensors cells task.sets [] kept)

-- the result of an expression's code is its value
pub results-expr_code : (e : Expr) (sensors cells : List ℤ) → results (expr_code e) sensors cells ≡ value_of e [] sensors cells ∷ []
results-expr_code e sensors cells = ap (λ s. s.results) (pushes e sensors cells (Give ∷ []) start)
