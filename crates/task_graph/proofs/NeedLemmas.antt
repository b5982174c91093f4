-- What feeds each cell after tasks, from the first to the last: its bits are the cells that feed the cell.
use Rattle.std.proofs.Common.{◌≡◌, ℕ, ◌<◌, ◌≤◌, zero, suc, true, false, Bool, eqb, List, [], ◌∷◌, map, length, set, get_or, Option, Some, None, inl, inr, refl, sym, ◌∙◌, ap, ap₂, arith}
use Rattle.std.specs.Prelude.{◌||◌, ◌&&◌}
use Rattle.std.specs.Int.Bits.{bit_or, or_zero_r}
use Rattle.std.proofs.lemmas.Bool.{cases_lt, cases_eq, eq-eqb, ne_eqb, eqb-true, cond-true, cond-false, and_parts, and_from, or_cases, or_left, or_right, both_ways}
use Rattle.std.proofs.Math.Bool.{and_comm}
use Rattle.std.proofs.Math.ListN.{get_or-map}
use Rattle.std.proofs.lemmas.List.{get_or_past, get_or-set_same, get_or-set_other, length-set}
use Rattle.rcp_base.specs.Bits.{has_bit, WritesBit}
use Rattle.rcp_base.specs.Search.{any_below}
use Rattle.rcp_base.specs.Tables.{table}
use Rattle.rcp_base.proofs.BitLaws.{has_bit_or, has_bit_zero}
use Rattle.rcp_base.proofs.SearchLaws.{any_more, any_same, any_of, any_found, none_any, both_or_none}
use Rattle.rcp_base.proofs.TableLaws.{get_or-table, length-table}
use Rattle.rcp_model.specs.declared.expr.Expr.{Expr}
use Rattle.rcp_model.specs.declared.task.SetRow.{SetRow}
use Rattle.rcp_model.specs.declared.task.Task.{Task}
use Rattle.rcp_model.specs.Task.{expression_for, written}
use Rattle.rcp_model.specs.Slot.{no_task, numbered}
use Rattle.rcp_model.specs.Dependence.{reads, lets_reading, leads, leads_by, feeds_through}
use Rattle.task_graph.specs.declared.masks.SetMask.{SetMask}
use Rattle.task_graph.specs.inner.Masks.{bit_of, mask_if, mask_of, let_masks, set_mask, task_masks, union_below, union_of, needs_after_sets, needs_after_task, needs_after, slot_words}
use Rattle.task_graph.proofs.BitLemmas.{has_bit_if, has_bit_of, same_word, was_there, or_words}
use Rattle.task_graph.proofs.MaskLemmas.{mask_leads}

-- the cell is in the mask, and is fed by the other
abbrev is_fed : List ℕ → ℕ → ℕ → ℕ → Bool
is_fed needs mask from x = has_bit mask x && has_bit (get_or needs x 0) from

-- the bits of a union
union_bits : (needs : List ℕ) (mask n from : ℕ) → has_bit (union_below needs mask n) from ≡ any_below n (is_fed needs mask from)
union_bits needs mask zero from = has_bit_zero from
union_bits needs mask (suc n) from =
    has_bit_or (union_below needs mask n) (mask_if (has_bit mask n) (get_or needs n 0)) from
    ∙ ap₂ (λ a b. a || b) (union_bits needs mask n from) (has_bit_if (has_bit mask n) (get_or needs n 0) from)
    ∙ sym (any_more n (is_fed needs mask from))

-- nothing feeds a cell that isn't there
fed_within : (needs : List ℕ) (x from : ℕ) → has_bit (get_or needs x 0) from ≡ true → x < length needs
fed_within needs x from h = elim (cases_lt x (length needs)) [
  | inl below ↦ below
  | inr past ↦ absurd (both_ways (has_bit (get_or needs x 0) from) (ap (λ w. has_bit w from) (get_or_past needs x 0 (omega arith)) ∙ has_bit_zero from) h)
]

-- what feeds a mask's cells is what feeds one of them, and what feeds the others
one_apart :
    (needs : List ℕ) (old new cell : ℕ) → has_bit old cell ≡ true → WritesBit old new cell false
    → bit_or (get_or needs cell 0) (union_of needs new) ≡ union_of needs old
one_apart needs old new cell has gone = same_word (bit_or (get_or needs cell 0) (union_of needs new)) (union_of needs old) (λ from.
    has_bit_or (get_or needs cell 0) (union_of needs new) from
    ∙ ap (λ b. has_bit (get_or needs cell 0) from || b) (union_bits needs new (length needs) from)
    ∙ both_or_none (has_bit (get_or needs cell 0) from || any_below (length needs) (is_fed needs new from)) (any_below (length needs) (is_fed needs old from)) (joined from) (parted from)
    ∙ sym (union_bits needs old (length needs) from))
  where
    joined : (from : ℕ) → (has_bit (get_or needs cell 0) from || any_below (length needs) (is_fed needs new from)) ≡ true → any_below (length needs) (is_fed needs old from) ≡ true
    joined from h = elim (or_cases (has_bit (get_or needs cell 0) from) (any_below (length needs) (is_fed needs new from)) h) [
      | inl here ↦ any_of (length needs) (is_fed needs old from) cell (fed_within needs cell from here) (and_from (has_bit old cell) (has_bit (get_or needs cell 0) from) has here)
      | inr there ↦
          let p = any_found (length needs) (is_fed needs new from) there in
          let both = and_parts (has_bit new p.v) (has_bit (get_or needs p.v 0) from) p.passes in
          any_of (length needs) (is_fed needs old from) p.v p.below (and_from (has_bit old p.v) (has_bit (get_or needs p.v 0) from) (was_there old new cell p.v gone both.0) both.1)
    ]

    parted : (from : ℕ) → any_below (length needs) (is_fed needs old from) ≡ true → (has_bit (get_or needs cell 0) from || any_below (length needs) (is_fed needs new from)) ≡ true
    parted from h =
        let p = any_found (length needs) (is_fed needs old from) h in
        let both = and_parts (has_bit old p.v) (has_bit (get_or needs p.v 0) from) p.passes in
        elim (cases_eq p.v cell) [
          | inl same ↦ or_left (has_bit (get_or needs cell 0) from) (any_below (length needs) (is_fed needs new from)) (ap (λ x. has_bit (get_or needs x 0) from) (sym same) ∙ both.1)
          | inr other ↦
              or_right (has_bit (get_or needs cell 0) from) (any_below (length needs) (is_fed needs new from))
              (any_of (length needs) (is_fed needs new from) p.v p.below (and_from (has_bit new p.v) (has_bit (get_or needs p.v 0) from) (gone.others p.v other ∙ both.0) both.1))
        ]

-- nothing feeds the cells of an empty mask
none_fed : (needs : List ℕ) (mask : ℕ) → ((i : ℕ) → has_bit mask i ≡ false) → union_of needs mask ≡ 0
none_fed needs mask none = same_word (union_of needs mask) 0 (λ from.
    union_bits needs mask (length needs) from
    ∙ none_any (length needs) (is_fed needs mask from) (λ x within. ap (λ b. b && has_bit (get_or needs x 0) from) (none x))
    ∙ sym (has_bit_zero from))

-- one cell of what is left of a mask joins the union so far
pub one_joins :
    (needs : List ℕ) (mask union rest new cell word : ℕ) → bit_or union (union_of needs rest) ≡ union_of needs mask
    → has_bit rest cell ≡ true → WritesBit rest new cell false → word ≡ get_or needs cell 0
    → bit_or (bit_or union word) (union_of needs new) ≡ union_of needs mask
one_joins needs mask union rest new cell word so_far has gone is =
    or_words union word (union_of needs new)
    ∙ ap (bit_or union) (ap (λ w. bit_or w (union_of needs new)) is ∙ one_apart needs rest new cell has gone)
    ∙ so_far

-- the union is whole where nothing of the mask is left
pub none_left : (needs : List ℕ) (mask union rest : ℕ) → bit_or union (union_of needs rest) ≡ union_of needs mask → ((i : ℕ) → has_bit rest i ≡ false) → union ≡ union_of needs mask
none_left needs mask union rest so_far none = sym (ap (bit_or union) (none_fed needs rest none) ∙ or_zero_r union) ∙ so_far

pub length-needs_after_sets : (needs : List ℕ) (rows : List SetMask) → length (needs_after_sets needs rows) ≡ length needs
length-needs_after_sets needs [] = refl
length-needs_after_sets needs (row ∷ rows) =
    length-set (needs_after_sets needs rows) row.cell (union_of needs row.mask) ∙ length-needs_after_sets needs rows

-- what feeds a cell after a task that gives it this expression, or none
abbrev fed_by : List ℕ → List ℕ → ℕ → Option Expr → ℕ
fed_by needs lets c None = get_or needs c 0
fed_by needs lets c (Some e) = union_of needs (mask_of e lets)

cell_after_sets :
    (needs lets : List ℕ) (sets : List SetRow) (c : ℕ) → c < length needs
    → get_or (needs_after_sets needs (map (set_mask lets) sets)) c 0 ≡ fed_by needs lets c (expression_for sets c)
cell_after_sets needs lets [] c within = refl
cell_after_sets needs lets (row ∷ rows) c within =
    let rest : List ℕ = needs_after_sets needs (map (set_mask lets) rows) in
    let word : ℕ = union_of needs (mask_of row.value lets) in
    elim (cases_eq c row.cell) [
      | inl same ↦
          let there : row.cell < length rest = omega (arith, same, within, length-needs_after_sets needs (map (set_mask lets) rows)) in
          ap (λ i. get_or (set rest row.cell word) i 0) same
          ∙ get_or-set_same rest row.cell word 0 there
          ∙ ap (fed_by needs lets c) (sym (cond-true (eqb row.cell c) (Some row.value) (expression_for rows c) (eq-eqb row.cell c (sym same))))
      | inr other ↦
          get_or-set_other rest row.cell c word 0 other
          ∙ cell_after_sets needs lets rows c within
          ∙ ap (fed_by needs lets c) (sym (cond-false (eqb row.cell c) (Some row.value) (expression_for rows c) (ne_eqb row.cell c (λ same. other (sym same)))))
    ]

-- a test holds of a number where it holds of one that is that number
one_alone : (n : ℕ) (test : ℕ → Bool) (c : ℕ) → c < n → test c ≡ any_below n (λ x. test x && eqb x c)
one_alone n test c below = both_or_none (test c) (any_below n (λ x. test x && eqb x c))
    (λ h. any_of n (λ x. test x && eqb x c) c below (and_from (test c) (eqb c c) h (eq-eqb c c refl)))
    (λ h.
    let p = any_found n (λ x. test x && eqb x c) h in
    let both = and_parts (test p.v) (eqb p.v c) p.passes in
    ap test (sym (eqb-true p.v c both.1)) ∙ both.0)

alone_first : (n : ℕ) (test : ℕ → Bool) (c : ℕ) → c < n → any_below n (λ x. eqb c x && test x) ≡ test c
alone_first n test c below = both_or_none (any_below n (λ x. eqb c x && test x)) (test c)
    (λ h.
    let p = any_found n (λ x. eqb c x && test x) h in
    let both = and_parts (eqb c p.v) (test p.v) p.passes in
    ap test (eqb-true c p.v both.0) ∙ both.1)
    (λ h. any_of n (λ x. eqb c x && test x) c below (and_from (eqb c c) (test c) (eq-eqb c c refl) h))

-- two steps and then a third are the first and then the other two
chained :
    (n : ℕ) (one : ℕ → Bool) (two : ℕ → ℕ → Bool) (three : ℕ → Bool)
    → any_below n (λ x. any_below n (λ y. one y && two y x) && three x) ≡ any_below n (λ y. one y && any_below n (λ x. two y x && three x))
chained n one two three = both_or_none (any_below n (λ x. any_below n (λ y. one y && two y x) && three x)) (any_below n (λ y. one y && any_below n (λ x. two y x && three x)))
    (λ h.
    let p = any_found n (λ x. any_below n (λ y. one y && two y x) && three x) h in
    let last = and_parts (any_below n (λ y. one y && two y p.v)) (three p.v) p.passes in
    let q = any_found n (λ y. one y && two y p.v) last.0 in
    let both = and_parts (one q.v) (two q.v p.v) q.passes in
    any_of n (λ y. one y && any_below n (λ x. two y x && three x)) q.v q.below
    (and_from (one q.v) (any_below n (λ x. two q.v x && three x)) both.0
    (any_of n (λ x. two q.v x && three x) p.v p.below (and_from (two q.v p.v) (three p.v) both.1 last.1))))
    (λ h.
    let q = any_found n (λ y. one y && any_below n (λ x. two y x && three x)) h in
    let first = and_parts (one q.v) (any_below n (λ x. two q.v x && three x)) q.passes in
    let p = any_found n (λ x. two q.v x && three x) first.1 in
    let both = and_parts (two q.v p.v) (three p.v) p.passes in
    any_of n (λ x. any_below n (λ y. one y && two y x) && three x) p.v p.below
    (and_from (any_below n (λ y. one y && two y p.v)) (three p.v)
    (any_of n (λ y. one y && two y p.v) q.v q.below (and_from (one q.v) (two q.v p.v) first.0 both.0)) both.1))

-- what feeds a cell after one task
by_written :
    (cells : ℕ) (task : Task) (needs : List ℕ) (c from : ℕ) (o : Option Expr) → cells ≤ 64 → length needs ≡ cells → c < cells
    → has_bit (fed_by needs (let_masks task) c o) from ≡ any_below cells (λ x. has_bit (get_or needs x 0) from && leads_by task x c o)
by_written cells task needs c from None few long within = one_alone cells (λ x. has_bit (get_or needs x 0) from) c within
by_written cells task needs c from (Some e) few long within =
    let mask : ℕ = mask_of e (let_masks task) in
    ap (λ n. has_bit (union_below needs mask n) from) long
    ∙ union_bits needs mask cells from
    ∙ any_same cells (is_fed needs mask from) (λ x. has_bit (get_or needs x 0) from && reads x e (lets_reading x task))
    (λ x inside.
    ap (λ b. b && has_bit (get_or needs x 0) from) (mask_leads task x e (omega (arith, few, inside)))
    ∙ and_comm (reads x e (lets_reading x task)) (has_bit (get_or needs x 0) from))

task_bits :
    (cells : ℕ) (task : Task) (needs : List ℕ) (c from : ℕ) → cells ≤ 64 → length needs ≡ cells → c < cells
    → has_bit (get_or (needs_after_sets needs (task_masks task)) c 0) from ≡ any_below cells (λ x. has_bit (get_or needs x 0) from && leads task x c)
unfolding leads
task_bits cells task needs c from few long within =
    ap (λ w. has_bit w from) (cell_after_sets needs (let_masks task) task.sets c (omega (arith, long, within)))
    ∙ by_written cells task needs c from (written task c) few long within

-- what feeds a cell after tasks: what fed, in front of them, a cell that feeds it over them
run_bits :
    (cells : ℕ) (tasks : List Task) (numbers needs : List ℕ) (c from : ℕ) → cells ≤ 64 → length needs ≡ cells → c < cells
    → has_bit (get_or (needs_after (map task_masks tasks) numbers needs) c 0) from
    ≡ any_below cells (λ x. has_bit (get_or needs x 0) from && feeds_through cells (numbered tasks numbers) x c)
run_bits cells tasks [] needs c from few long within = one_alone cells (λ x. has_bit (get_or needs x 0) from) c within
run_bits cells tasks (number ∷ numbers) needs c from few long within =
    let task : Task = get_or tasks number no_task in
    let next : List ℕ = needs_after_task (map task_masks tasks) number needs in
    let is : next ≡ needs_after_sets needs (task_masks task) = ap (needs_after_sets needs) (get_or-map task_masks tasks number no_task) in
    let after : ℕ → Bool = λ x. feeds_through cells (numbered tasks numbers) x c in
    run_bits cells tasks numbers next c from few (length-needs_after_sets needs (get_or (map task_masks tasks) number []) ∙ long) within
    ∙ any_same cells (λ x. has_bit (get_or next x 0) from && after x) (λ x. any_below cells (λ y. has_bit (get_or needs y 0) from && leads task y x) && after x)
    (λ x inside. ap (λ b. b && after x) (ap (λ words. has_bit (get_or words x 0) from) is ∙ task_bits cells task needs x from few long inside))
    ∙ chained cells (λ y. has_bit (get_or needs y 0) from) (leads task) after

-- the words of a slot
pub words_feed :
    (cells : ℕ) (tasks : List Task) (numbers : List ℕ) (c from : ℕ) → cells ≤ 64 → c < cells → from < cells
    → has_bit (get_or (slot_words (map task_masks tasks) cells numbers) c 0) from ≡ feeds_through cells (numbered tasks numbers) from c
words_feed cells tasks numbers c from few within inside =
    let after : ℕ → Bool = λ x. feeds_through cells (numbered tasks numbers) x c in
    run_bits cells tasks numbers (table cells bit_of) c from few (length-table cells bit_of) within
    ∙ any_same cells (λ x. has_bit (get_or (table cells bit_of) x 0) from && after x) (λ x. eqb from x && after x)
    (λ x below. ap (λ b. b && after x) (ap (λ w. has_bit w from) (get_or-table cells bit_of x 0 below) ∙ has_bit_of x from (omega (arith, few, inside))))
    ∙ alone_first cells after from inside
