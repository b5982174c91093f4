-- Feeding in the motor plan: through the two tasks of its first slot, and through a cell that no task of a slot sets.
-- This project's own.
use Rattle.std.proofs.Common.{◌≡◌, refl, sym, ◌∙◌, ap, ap₂, ℕ, ◌<◌, true, false, Bool, eqb, List, [], ◌∷◌, inl, inr, rules, arith}
use Rattle.std.specs.Prelude.{◌||◌, ◌&&◌, ℤ, pos, codes}
use Rattle.std.proofs.lemmas.Bool.{eqb-true, and_from, both_ways, cases_eq}
use Rattle.rcp_model.specs.declared.expr.Expr.{Expr, the_lemmas}
use Rattle.rcp_model.specs.declared.expr.Expr.TheVariants as expr
use Rattle.rcp_model.specs.declared.expr.Op.{Op}
use Rattle.rcp_model.specs.declared.expr.Op.TheVariants as op
use Rattle.rcp_model.specs.declared.task.Task.{Task}
use Rattle.rcp_base.proofs.SearchLaws.{any_of}
use Rattle.rcp_model.specs.Slot.{tasks_of}
use Rattle.rcp_model.specs.Dependence.{reads, leads, feeds, feeds_through, FeedsThrough}
use Rattle.rcp_model.proofs.ExamplePlans.{motor_plan, position_cell, error_cell, sum_cell, sets_one, sense_value, integrate_value, move_value}

module _ (cell : ℕ) (lets : List Bool) where
  reads-number : (n : ℤ) → reads cell (expr.Number n) lets ≡ false
  reads-number n = search (rules, the_lemmas)

  reads-sensor : (i : ℕ) → reads cell (expr.Sensor i) lets ≡ false
  reads-sensor i = search (rules, the_lemmas)

  reads-cell : (i : ℕ) → reads cell (expr.Cell i) lets ≡ eqb i cell
  reads-cell i = search (rules, the_lemmas)

  reads-two : (op : Op) (a b : Expr) → reads cell (expr.Two op a b) lets ≡ (reads cell a lets || reads cell b lets)
  reads-two op a b = search (rules, the_lemmas)

  reads-neg : (a : Expr) → reads cell (expr.Neg a) lets ≡ reads cell a lets
  reads-neg a = search (rules, the_lemmas)

  reads-clamp : (a low high : Expr) → reads cell (expr.Clamp a low high) lets ≡ (reads cell a lets || reads cell low lets || reads cell high lets)
  reads-clamp a low high = search (rules, the_lemmas)

-- err := cmd - pos;
sense_reads : (cell : ℕ) → reads cell sense_value [] ≡ eqb position_cell cell
sense_reads cell =
    reads-two cell [] op.Sub (expr.Sensor 0) (expr.Cell position_cell)
    ∙ ap₂ (λ a b. a || b) (reads-sensor cell [] 0) (reads-cell cell [] position_cell)

-- sum := clamp(sum + err, -100, 100);
bound_reads : (cell : ℕ) → reads cell (expr.Number (pos 100)) [] ≡ false
bound_reads cell = reads-number cell [] (pos 100)

integrate_reads : (cell : ℕ) → reads cell integrate_value [] ≡ (eqb sum_cell cell || eqb error_cell cell || false || false)
integrate_reads cell =
    let hundred : Expr = expr.Number (pos 100) in
    let more : Expr = expr.Two op.Add (expr.Cell sum_cell) (expr.Cell error_cell) in
    reads-clamp cell [] more (expr.Neg hundred) hundred
    ∙ ap₂ (λ a b. a || b)
    (ap₂ (λ a b. a || b)
    (reads-two cell [] op.Add (expr.Cell sum_cell) (expr.Cell error_cell)
    ∙ ap₂ (λ a b. a || b) (reads-cell cell [] sum_cell) (reads-cell cell [] error_cell))
    (reads-neg cell [] hundred ∙ bound_reads cell))
    (bound_reads cell)

-- pos := pos + sum / 2;
move_reads : (cell : ℕ) → reads cell move_value [] ≡ (eqb position_cell cell || (eqb sum_cell cell || false))
move_reads cell =
    let half : Expr = expr.Two op.Div (expr.Cell sum_cell) (expr.Number (pos 2)) in
    reads-two cell [] op.Add (expr.Cell position_cell) half
    ∙ ap₂ (λ a b. a || b) (reads-cell cell [] position_cell)
    (reads-two cell [] op.Div (expr.Cell sum_cell) (expr.Number (pos 2))
    ∙ ap₂ (λ a b. a || b) (reads-cell cell [] sum_cell) (reads-number cell [] (pos 2)))

abbrev sense : Task
sense = sets_one (codes "sense") error_cell sense_value

abbrev integrate : Task
integrate = sets_one (codes "integrate") sum_cell integrate_value

abbrev move : Task
move = sets_one (codes "move") position_cell move_value

position_leads_to_the_error : leads sense position_cell error_cell ≡ true
unfolding leads
position_leads_to_the_error = sense_reads position_cell

error_leads_to_the_sum : leads integrate error_cell sum_cell ≡ true
unfolding leads
error_leads_to_the_sum = integrate_reads error_cell

-- the sum needs the position, through the error
position_feeds_the_sum : FeedsThrough 3 (tasks_of motor_plan 0) position_cell sum_cell
position_feeds_the_sum =
    (error_cell, omega arith, position_leads_to_the_error, (sum_cell, omega arith, error_leads_to_the_sum, refl))

-- so says the test
the_sum_needs_the_position : feeds motor_plan 0 position_cell sum_cell ≡ true
unfolding feeds
the_sum_needs_the_position =
    let last : ℕ → Bool = λ x. leads integrate error_cell x && eqb x sum_cell in
    let first : ℕ → Bool = λ x. leads sense position_cell x && feeds_through 3 (integrate ∷ []) x sum_cell in
    any_of 3 first error_cell (omega arith)
    (and_from (leads sense position_cell error_cell) (feeds_through 3 (integrate ∷ []) error_cell sum_cell) position_leads_to_the_error
    (any_of 3 last sum_cell (omega arith)
    (and_from (leads integrate error_cell sum_cell) (eqb sum_cell sum_cell) error_leads_to_the_sum refl)))

-- the second slot does not set the error
the_error_stays : FeedsThrough 3 (tasks_of motor_plan 1) error_cell error_cell
unfolding leads
the_error_stays = (error_cell, omega arith, refl, refl)

the_error_needs_itself : feeds motor_plan 1 error_cell error_cell ≡ true
unfolding feeds leads
the_error_needs_itself =
    any_of 3 (λ x. leads move error_cell x && eqb x error_cell) error_cell (omega arith) refl

-- it is fed by itself alone
leads_to_the_error : (from : ℕ) → leads move from error_cell ≡ eqb from error_cell
unfolding leads
leads_to_the_error from = refl

nothing_else_feeds_it : (from : ℕ) → FeedsThrough 3 (tasks_of motor_plan 1) from error_cell → from ≡ error_cell
nothing_else_feeds_it from way =
    eqb-true from error_cell (sym (leads_to_the_error from) ∙ ap (leads move from) (sym way.3) ∙ way.2)

-- and feeds nothing else
it_leads_to_no_position : leads move error_cell position_cell ≡ false
unfolding leads
it_leads_to_no_position = move_reads error_cell

it_leads_to_no_sum : leads move error_cell sum_cell ≡ false
unfolding leads
it_leads_to_no_sum = refl

it_feeds_nothing_else : (to : ℕ) → FeedsThrough 3 (tasks_of motor_plan 1) error_cell to → to ≡ error_cell
it_feeds_nothing_else to way =
    let x : ℕ = way.0 in
    let few : x < 3 = way.1 in
    let there : leads move error_cell x ≡ true = way.2 in
    elim (cases_eq x error_cell) [
      | inl same ↦ sym way.3 ∙ same
      | inr other ↦ elim (cases_eq x position_cell) [
        | inl first ↦ absurd (both_ways (leads move error_cell position_cell) it_leads_to_no_position (ap (leads move error_cell) (sym first) ∙ there))
        | inr neither ↦
            let last : x ≡ sum_cell = omega arith in
            absurd (both_ways (leads move error_cell sum_cell) it_leads_to_no_sum (ap (leads move error_cell) (sym last) ∙ there))
      ]
    ]
