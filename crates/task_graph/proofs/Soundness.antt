-- What a slot makes of a cell is decided by the cells that feed it.
use Rattle.std.proofs.Common.{◌≡◌, ℕ, ◌+◌, ◌<◌, true, false, Bool, List, [], ◌∷◌, ◌++◌, length, get_or, Option, Some, None, ℤ, pos, inl, inr, refl, sym, ◌∙◌, ap, ap₂, subst, arith, length-append}
use Rattle.std.proofs.lemmas.Bool.{or_left, or_right, and_from, cases_lt, cases_eq, eq-eqb}
use Rattle.std.proofs.lemmas.List.{get_or_past, get_or_append_left, get_or_at}
use Rattle.std.specs.Prelude.{◌||◌, ◌&&◌}
use Rattle.rcp_base.proofs.TableLaws.{get_or-table, length-table}
use Rattle.rcp_model.specs.declared.expr.Expr.{Expr, map-Expr}
use Rattle.rcp_model.specs.declared.expr.Expr.TheOpen.{Expr-F}
use Rattle.rcp_model.specs.declared.expr.Expr.TheViews.{roll-Expr}
use Rattle.rcp_model.specs.declared.expr.Expr.TheFolds.{fold-roll-Expr, ind-Expr}
use Rattle.rcp_model.specs.declared.task.LetRow.{LetRow}
use Rattle.rcp_model.specs.declared.task.Task.{Task}
use Rattle.rcp_model.specs.declared.plan.PlanParts.{PlanParts}
use Rattle.rcp_model.specs.Expr.{Value, value_of, value_step, op_result}
use Rattle.rcp_model.specs.Task.{let_values, let_values_after, written, cell_after, cells_after_task}
use Rattle.rcp_model.specs.Slot.{tasks_of, cells_after_tasks, cells_after_slot}
use Rattle.rcp_model.specs.Dependence.{reads, reads_step, lets_reading, lets_reading_after, leads, leads_by, feeds_through, feeds}
use Rattle.task_graph.specs.Laws.{Agree}
use Rattle.task_graph.proofs.Trees.{map-map}
use Rattle.rcp_base.proofs.SearchLaws.{any_of}

-- lets have the same value where the cells that they read agree
abbrev LetsAgree : (ℕ → List Bool) → List ℤ → List ℤ → List ℤ → List ℤ → Type 0
LetsAgree known one other first second = (i : ℕ) → ((x : ℕ) → get_or (known x) i false ≡ true → Agree one other x) → Agree first second i

-- a value is decided by the cells that it reads
abbrev IsDecided : (ℕ → List Bool → Bool) → Value → Type 0
IsDecided is_read value =
    (known : ℕ → List Bool) (sensors one other first second : List ℤ)
    → LetsAgree known one other first second
    → ((x : ℕ) → is_read x (known x) ≡ true → Agree one other x)
    → value first sensors one ≡ value second sensors other

abbrev ReadsDecide : Expr → Type 0
ReadsDecide e = IsDecided (λ x. reads x e) (value_of e)

abbrev Operand : Type 0
Operand = (e : Expr) × ReadsDecide e

-- one level, over operands that are decided
decided_level : (y : Expr-F Operand) → IsDecided (λ x. reads_step x (map-Expr Operand (List Bool → Bool) (λ e. reads x e.0) y)) (value_step (map-Expr Operand Value (λ e. value_of e.0) y))
decided_level (Expr-F.Number n) known sensors one other first second lets h = refl
decided_level (Expr-F.Sensor i) known sensors one other first second lets h = refl
decided_level (Expr-F.Cell i) known sensors one other first second lets h = h i (eq-eqb i i refl)
decided_level (Expr-F.Let i) known sensors one other first second lets h = lets i h
decided_level (Expr-F.Neg x) known sensors one other first second lets h = let p = x.1 known sensors one other first second lets h in cc
decided_level (Expr-F.Not x) known sensors one other first second lets h = let p = x.1 known sensors one other first second lets h in cc
decided_level (Expr-F.Abs x) known sensors one other first second lets h = let p = x.1 known sensors one other first second lets h in cc
decided_level (Expr-F.Two op a b) known sensors one other first second lets h =
    let p = a.1 known sensors one other first second lets (λ x r. h x (or_left _ _ r)) in
    let q = b.1 known sensors one other first second lets (λ x r. h x (or_right (reads x a.0 (known x)) _ r)) in
    ap₂ (op_result op) p q
decided_level (Expr-F.Clamp a low high) known sensors one other first second lets h =
    let p = a.1 known sensors one other first second lets (λ x r. h x (or_left _ _ (or_left _ _ r))) in
    let q = low.1 known sensors one other first second lets (λ x r. h x (or_left _ _ (or_right (reads x a.0 (known x)) _ r))) in
    let s = high.1 known sensors one other first second lets (λ x r. h x (or_right (reads x a.0 (known x) || reads x low.0 (known x)) _ r)) in
    cc
decided_level (Expr-F.If test a b) known sensors one other first second lets h =
    let p = test.1 known sensors one other first second lets (λ x r. h x (or_left _ _ (or_left _ _ r))) in
    let q = a.1 known sensors one other first second lets (λ x r. h x (or_left _ _ (or_right (reads x test.0 (known x)) _ r))) in
    let s = b.1 known sensors one other first second lets (λ x r. h x (or_right (reads x test.0 (known x) || reads x a.0 (known x)) _ r)) in
    cc

decided_rolled : (y : Expr-F Operand) → ReadsDecide (roll-Expr (map-Expr Operand Expr (λ e. e.0) y))
decided_rolled y known sensors one other first second lets h =
    let z : Expr-F Expr = map-Expr Operand Expr (λ e. e.0) y in
    let value : value_of (roll-Expr z) ≡ value_step (map-Expr Operand Value (λ e. value_of e.0) y) = fold-roll-Expr Value value_step z ∙ ap value_step (map-map ReadsDecide value_of y) in
    let read : (x : ℕ) → reads x (roll-Expr z) ≡ reads_step x (map-Expr Operand (List Bool → Bool) (λ e. reads x e.0) y) =
    λ x. fold-roll-Expr (List Bool → Bool) (reads_step x) z ∙ ap (reads_step x) (map-map ReadsDecide (reads x) y) in
    ap (λ v. v first sensors one) value
    ∙ decided_level y known sensors one other first second lets (λ x r. h x (ap (λ f. f (known x)) (read x) ∙ r))
    ∙ sym (ap (λ v. v second sensors other) value)

-- an expression's value is decided by the cells that it reads
decided : (e : Expr) → ReadsDecide e
decided = ind-Expr ReadsDecide (λ x y is. subst (λ z. ReadsDecide (roll-Expr z)) is (decided_rolled y))

-- so many lets are known, and have the same value where the cells that they read agree
record AreKnown (n : ℕ) (known : ℕ → List Bool) (one other first second : List ℤ) : Type 0 where
  marks : (x : ℕ) → length (known x) ≡ n
  long : length first ≡ n
  same_long : length second ≡ n
  agree : LetsAgree known one other first second

-- one let more
known_more :
    (n : ℕ) (known : ℕ → List Bool) (sensors one other first second : List ℤ) (e : Expr)
    → AreKnown n known one other first second
    → AreKnown (n + 1) (λ x. known x ++ reads x e (known x) ∷ []) one other (first ++ value_of e first sensors one ∷ []) (second ++ value_of e second sensors other ∷ [])
known_more n known sensors one other first second e r = record {
  marks = λ x. length-append (known x) (reads x e (known x) ∷ []) ∙ omega (arith, r.marks x);
  long = length-append first (value_of e first sensors one ∷ []) ∙ omega (arith, r.long);
  same_long = length-append second (value_of e second sensors other ∷ []) ∙ omega (arith, r.same_long);
  agree = λ i h.
      let v : ℤ = value_of e first sensors one in
      let w : ℤ = value_of e second sensors other in
      elim (cases_lt i n) [
        | inl a ↦
            let in_first : i < length first = omega (arith, r.long) in
            let in_second : i < length second = omega (arith, r.same_long) in
            get_or_append_left first (v ∷ []) (pos 0) i in_first
            ∙ r.agree i (λ x t. h x (let in_known : i < length (known x) = omega (arith, r.marks x) in get_or_append_left (known x) (reads x e (known x) ∷ []) false i in_known ∙ t))
            ∙ sym (get_or_append_left second (w ∷ []) (pos 0) i in_second)
        | inr a ↦ elim (cases_eq i n) [
          | inl is ↦
              get_or_at first v [] (pos 0) i (omega (arith, r.long))
              ∙ decided e known sensors one other first second r.agree (λ x t. h x (get_or_at (known x) (reads x e (known x)) [] false i (omega (arith, r.marks x)) ∙ t))
              ∙ sym (get_or_at second w [] (pos 0) i (omega (arith, r.same_long)))
          | inr ne ↦
              get_or_past (first ++ v ∷ []) i (pos 0) (omega (arith, length-append first (v ∷ []), r.long))
              ∙ sym (get_or_past (second ++ w ∷ []) i (pos 0) (omega (arith, length-append second (w ∷ []), r.same_long)))
        ]
      ];
}

lets_agree :
    (rows : List LetRow) (n : ℕ) (known : ℕ → List Bool) (sensors one other first second : List ℤ)
    → AreKnown n known one other first second
    → LetsAgree (λ x. lets_reading_after x (known x) rows) one other (let_values_after first rows sensors one) (let_values_after second rows sensors other)
lets_agree [] n known sensors one other first second r = r.agree
lets_agree (row ∷ rows) n known sensors one other first second r =
    lets_agree rows (n + 1) (λ x. known x ++ reads x row.value (known x) ∷ []) sensors one other
    (first ++ value_of row.value first sensors one ∷ []) (second ++ value_of row.value second sensors other ∷ [])
    (known_more n known sensors one other first second row.value r)

none_known : (one other : List ℤ) → AreKnown 0 (λ x. []) one other [] []
none_known one other = record { marks = λ x. refl; long = refl; same_long = refl; agree = λ i h. refl }

same_cell :
    (task : Task) (sensors one other : List ℤ) (c : ℕ) (o : Option Expr)
    → ((x : ℕ) → leads_by task x c o ≡ true → Agree one other x)
    → cell_after task sensors one c o ≡ cell_after task sensors other c o
same_cell task sensors one other c None h = h c (eq-eqb c c refl)
same_cell task sensors one other c (Some e) h =
    decided e (λ x. lets_reading x task) sensors one other (let_values task sensors one) (let_values task sensors other)
    (lets_agree task.lets 0 (λ x. []) sensors one other [] [] (none_known one other)) h

length-cells_after_task : (task : Task) (sensors cells : List ℤ) → length (cells_after_task task sensors cells) ≡ length cells
unfolding cells_after_task
length-cells_after_task task sensors cells = length-table (length cells) (λ c. cell_after task sensors cells c (written task c))

-- a task's cell is decided by the cells that lead to it
task_sound :
    (cells : ℕ) (task : Task) (sensors one other : List ℤ) (c : ℕ)
    → length one ≡ cells → length other ≡ cells → c < cells
    → ((x : ℕ) → x < cells → leads task x c ≡ true → Agree one other x)
    → Agree (cells_after_task task sensors one) (cells_after_task task sensors other) c
unfolding cells_after_task leads
task_sound cells task sensors one other c long same_long below h =
    get_or-table (length one) (λ c. cell_after task sensors one c (written task c)) c (pos 0) (omega arith)
    ∙ same_cell task sensors one other c (written task c) all
    ∙ sym (get_or-table (length other) (λ c. cell_after task sensors other c (written task c)) c (pos 0) (omega arith))
  where
    all : (x : ℕ) → leads_by task x c (written task c) ≡ true → Agree one other x
    all x t = elim (cases_lt x cells) [
      | inl inside ↦ h x inside t
      | inr past ↦ get_or_past one x (pos 0) (omega arith) ∙ sym (get_or_past other x (pos 0) (omega arith))
    ]

tasks_sound :
    (cells : ℕ) (sensors : List ℤ) (tasks : List Task) (one other : List ℤ) (c : ℕ)
    → length one ≡ cells → length other ≡ cells → c < cells
    → ((d : ℕ) → d < cells → feeds_through cells tasks d c ≡ true → Agree one other d)
    → Agree (cells_after_tasks tasks sensors one) (cells_after_tasks tasks sensors other) c
tasks_sound cells sensors [] one other c long same_long below h = h c below (eq-eqb c c refl)
tasks_sound cells sensors (task ∷ tasks) one other c long same_long below h =
    tasks_sound cells sensors tasks (cells_after_task task sensors one) (cells_after_task task sensors other) c
    (length-cells_after_task task sensors one ∙ long) (length-cells_after_task task sensors other ∙ same_long) below
    (λ x inside feeding. task_sound cells task sensors one other x long same_long inside
    (λ d within leading. h d within (any_of cells (λ x. leads task d x && feeds_through cells tasks x c) x inside (and_from (leads task d x) (feeds_through cells tasks x c) leading feeding))))

pub slot_sound :
    (plan : PlanParts) (slot c : ℕ) (sensors one other : List ℤ)
    → c < length plan.cells → length one ≡ length plan.cells → length other ≡ length plan.cells
    → ((d : ℕ) → d < length plan.cells → feeds plan slot d c ≡ true → Agree one other d)
    → Agree (cells_after_slot plan slot sensors one) (cells_after_slot plan slot sensors other) c
unfolding cells_after_slot feeds
slot_sound plan slot c sensors one other below long same_long h =
    tasks_sound (length plan.cells) sensors (tasks_of plan slot) one other c long same_long below h
