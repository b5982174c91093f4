-- The words of a plan stand slot by slot, and their bits are the cells that feed the cell.
use Rattle.std.proofs.Common.{◌≡◌, ℕ, ◌+◌, ◌*◌, ◌<◌, ◌≤◌, zero, suc, true, false, List, [], ◌∷◌, ◌++◌, map, length, length-append, get_or, inl, inr, refl, sym, ◌∙◌, ap, subst, arith}
use Rattle.std.specs.Prelude.{◌&&◌, nat_lt, bit_and}
use Rattle.std.proofs.lemmas.Bool.{cases_lt, lt-ltb, le-ltb}
use Rattle.std.proofs.Math.Bool.{and-true, and-false}
use Rattle.std.proofs.lemmas.List.{get_or_default, get_or_append_left, get_or-append-add}
use Rattle.std.proofs.lemmas.Nat.{mul-add-lt}
use Rattle.rcp_base.specs.Bits.{has_bit, AreBelow}
use Rattle.rcp_base.specs.Tables.{table}
use Rattle.rcp_base.proofs.BitLaws.{has_bit_and}
use Rattle.rcp_base.proofs.TableLaws.{length-table}
use Rattle.rcp_model.specs.declared.plan.SlotRow.{SlotRow}
use Rattle.rcp_model.specs.declared.plan.PlanParts.{PlanParts}
use Rattle.rcp_model.specs.Slot.{no_slot, slot_count}
use Rattle.rcp_model.specs.Dependence.{feeds}
use Rattle.task_graph.specs.declared.masks.SetMask.{SetMask}
use Rattle.task_graph.specs.inner.Masks.{bit_of, task_masks, needs_after, needs_after_task, slot_words, plan_words}
use Rattle.task_graph.specs.Rows.{Rows, needs_in, AreNeeds, IsDependenceOf}
use Rattle.task_graph.proofs.NeedLemmas.{length-needs_after_sets, words_feed}

length-needs_after : (masks : List (List SetMask)) (numbers needs : List ℕ) → length (needs_after masks numbers needs) ≡ length needs
length-needs_after masks [] needs = refl
length-needs_after masks (number ∷ numbers) needs =
    length-needs_after masks numbers (needs_after_task masks number needs)
    ∙ length-needs_after_sets needs (get_or masks number [])

length-slot_words : (masks : List (List SetMask)) (cells : ℕ) (numbers : List ℕ) → length (slot_words masks cells numbers) ≡ cells
length-slot_words masks cells numbers = length-needs_after masks numbers (table cells bit_of) ∙ length-table cells bit_of

pub length-plan_words : (masks : List (List SetMask)) (cells : ℕ) (slots : List SlotRow) → length (plan_words masks cells slots) ≡ length slots * cells
length-plan_words masks cells [] = omega arith
length-plan_words masks cells (slot ∷ slots) =
    length-append (slot_words masks cells slot.tasks) (plan_words masks cells slots)
    ∙ omega (arith, length-slot_words masks cells slot.tasks, length-plan_words masks cells slots)

-- the word at the place of a slot and a cell
plan_at :
    (masks : List (List SetMask)) (cells : ℕ) (slots : List SlotRow) (s c : ℕ) → s < length slots → c < cells
    → get_or (plan_words masks cells slots) (s * cells + c) 0 ≡ get_or (slot_words masks cells (get_or slots s no_slot).tasks) c 0
plan_at masks cells [] s c there within = absurd (omega arith)
plan_at masks cells (slot ∷ slots) zero c there within =
    let place : 0 * cells + c ≡ c = omega arith in
    let first : List ℕ = slot_words masks cells slot.tasks in
    ap (λ i. get_or (first ++ plan_words masks cells slots) i 0) place
    ∙ get_or_append_left first (plan_words masks cells slots) 0 c (omega (arith, length-slot_words masks cells slot.tasks))
plan_at masks cells (slot ∷ slots) (suc s) c there within =
    let first : List ℕ = slot_words masks cells slot.tasks in
    let place : suc s * cells + c ≡ length first + (s * cells + c) = omega (arith, length-slot_words masks cells slot.tasks) in
    ap (λ i. get_or (first ++ plan_words masks cells slots) i 0) place
    ∙ get_or-append-add first (plan_words masks cells slots) (s * cells + c) 0
    ∙ plan_at masks cells slots s c (omega arith) within

-- what is asked of rows within their sizes is a bit
pub needs_here :
    (rows : Rows) (slot cell from : ℕ) → slot < rows.slots → cell < rows.cells → from < rows.cells
    → needs_in rows slot cell from ≡ has_bit (get_or rows.words (slot * rows.cells + cell) 0) from
unfolding needs_in
needs_here rows slot cell from first second third =
    let p : nat_lt slot rows.slots ≡ true = lt-ltb slot rows.slots first in
    let q : nat_lt cell rows.cells ≡ true = lt-ltb cell rows.cells second in
    let r : nat_lt from rows.cells ≡ true = lt-ltb from rows.cells third in
    rw (p, q, r) refl

-- the answer that is read from a word's bit is what the rows say
pub asked :
    (view rows : Rows) (slot cell from word : ℕ) → view ≡ rows → slot < rows.slots → cell < rows.cells → from < rows.cells
    → length view.words ≡ view.slots * view.cells
    → word ≡ get_or view.words (slot * view.cells + cell) word
    → has_bit word from ≡ needs_in rows slot cell from
asked view rows slot cell from word same first second third long is =
    let full : length rows.words ≡ rows.slots * rows.cells = subst (λ r. length r.words ≡ r.slots * r.cells) same long in
    let below : slot * rows.cells + cell < rows.cells * rows.slots = mul-add-lt slot rows.cells cell rows.slots first second in
    let place : slot * rows.cells + cell < length rows.words = omega (arith, below, full) in
    ap (λ w. has_bit w from) (is ∙ ap (λ r. get_or r.words (slot * r.cells + cell) word) same ∙ get_or_default rows.words (slot * rows.cells + cell) word 0 place)
    ∙ sym (needs_here rows slot cell from first second third)

-- nothing is needed past the last cell
needs_past : (rows : Rows) (slot cell from : ℕ) → slot < rows.slots → cell < rows.cells → rows.cells ≤ from → needs_in rows slot cell from ≡ false
unfolding needs_in
needs_past rows slot cell from first second past =
    let p : nat_lt slot rows.slots ≡ true = lt-ltb slot rows.slots first in
    let q : nat_lt cell rows.cells ≡ true = lt-ltb cell rows.cells second in
    let r : nat_lt from rows.cells ≡ false = le-ltb from rows.cells past in
    rw (p, q, r) refl

-- nor is any bit there of a word with the bits of cells alone
pub asked_all :
    (view rows : Rows) (slot cell word mask : ℕ) → view ≡ rows → slot < rows.slots → cell < rows.cells
    → length view.words ≡ view.slots * view.cells
    → word ≡ get_or view.words (slot * view.cells + cell) word
    → AreBelow mask rows.cells
    → AreNeeds rows slot cell (bit_and word mask)
asked_all view rows slot cell word mask same first second long is below from =
    let both : has_bit (bit_and word mask) from ≡ (has_bit word from && nat_lt from rows.cells) =
    has_bit_and word mask from ∙ ap (λ b. has_bit word from && b) (below from) in
    elim (cases_lt from rows.cells) [
      | inl inside ↦
          let third : nat_lt from rows.cells ≡ true = lt-ltb from rows.cells inside in
          both ∙ ap (λ b. has_bit word from && b) third ∙ and-true (has_bit word from)
          ∙ asked view rows slot cell from word same first second inside long is
      | inr past ↦
          let third : nat_lt from rows.cells ≡ false = le-ltb from rows.cells past in
          both ∙ ap (λ b. has_bit word from && b) third ∙ and-false (has_bit word from)
          ∙ sym (needs_past rows slot cell from first second past)
    ]

-- the rows that are built of a plan
abbrev rows_of : PlanParts → Rows
rows_of plan = record {
  slots = slot_count plan;
  cells = length plan.cells;
  words = plan_words (map task_masks plan.tasks) (length plan.cells) plan.slots;
}

pub plan_rows : (plan : PlanParts) (rows : Rows) → length plan.cells ≤ 64 → rows ≡ rows_of plan → IsDependenceOf plan rows
unfolding feeds
plan_rows plan rows few are = subst (IsDependenceOf plan) (sym are) (record {
  slots = refl;
  cells = refl;
  needs = λ slot cell from first second third.
      let cells : ℕ = length plan.cells in
      let masks : List (List SetMask) = map task_masks plan.tasks in
      needs_here (rows_of plan) slot cell from first second third
      ∙ ap (λ word. has_bit word from) (plan_at masks cells plan.slots slot cell first second)
      ∙ words_feed cells plan.tasks (get_or plan.slots slot no_slot).tasks cell from few second third;
})

-- sizes and words that are those of a plan
pub same_rows :
    (plan : PlanParts) (slots cells : ℕ) (words : List ℕ) → slots ≡ slot_count plan → cells ≡ length plan.cells
    → words ≡ plan_words (map task_masks plan.tasks) cells plan.slots
    → record { slots = slots; cells = cells; words = words } ≡ rows_of plan
same_rows plan slots cells words first second third =
    let all : words ≡ plan_words (map task_masks plan.tasks) (length plan.cells) plan.slots =
    third ∙ ap (λ n. plan_words (map task_masks plan.tasks) n plan.slots) second in
    rw (first, second, all) refl
