-- The words are as many as the slots and cells, and those of the slots.
use Rattle.std.proofs.Common.{◌≡◌, ◌*◌, sym, ℕ, map, length, ap, ap₂, ◌∙◌, arith}
use Rattle.task_graph.specs.inner.Masks.{task_masks, plan_words}
use Rattle.task_graph.proofs.WordLemmas.{length-plan_words, plan_rows, same_rows}
use Rattle.task_graph.proofs.rows.rows_of.Goals as goal

pub invariant_of-result : goal.invariant_of-result
invariant_of-result c = (
  ap length c.in_ok-words.ensures
      ∙ length-plan_words c.as_slice-2.result.now c.len-cells.result c.as_slice-3.result.now
      ∙ ap (λ n. n * c.len-cells.result) (ap length c.as_slice-3.ensures ∙ sym c.len.ensures),
  omega (arith, c.len.ensures, c.requires.slots),
  omega (arith, c.len-cells.ensures, c.requires.cells),
)

pub returns : goal.returns
returns c =
    let cells : ℕ = c.len-cells.result in
    let words : c.in_ok-words.words.items ≡ plan_words (map task_masks c.args.parts.now.tasks) cells c.args.parts.now.slots =
    c.in_ok-words.ensures
    ∙ ap₂ (λ masks slots. plan_words masks cells slots)
    (c.as_slice-2.ensures ∙ c.in_ok-masks.ensures ∙ ap (map task_masks) c.as_slice.ensures)
    c.as_slice-3.ensures in
    plan_rows c.args.parts.now _ c.requires.cells
    (same_rows c.args.parts.now c.len.result cells c.in_ok-words.words.items c.len.ensures c.len-cells.ensures words)
