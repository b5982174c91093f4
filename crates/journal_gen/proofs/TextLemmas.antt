-- The text of rows, some after others.
use Rattle.std.proofs.Common.{◌≡◌, ℕ, ◌+◌, List, ◌++◌, sym, ap, ◌∙◌, append_assoc, add-one}
use Rattle.std.proofs.lemmas.Grind.{flat_map-append}
use Rattle.rcp_model.specs.declared.plan.PlanParts.{PlanParts}
use Rattle.fault_journal.specs.declared.row.Row.{Row}
use Rattle.journal_gen.specs.Generator.{rows_before, rows_of_frame, rows_text, seed_after, seed_before}
use Rattle.journal_gen.specs.Written.{row_text}

-- rows, and then more rows
pub rows_text_more : (plan : PlanParts) (rows more : List Row)
    → rows_text plan (rows ++ more) ≡ rows_text plan rows ++ rows_text plan more
rows_text_more plan rows more = flat_map-append (row_text plan) rows more

-- the same, after a text
pub rows_put : (plan : PlanParts) (first text new : List ℕ) (rows more : List Row)
    → text ≡ first ++ rows_text plan rows → new ≡ text ++ rows_text plan more
    → new ≡ first ++ rows_text plan (rows ++ more)
rows_put plan first text new rows more so_far put =
    put ∙ ap (λ t. t ++ rows_text plan more) so_far
    ∙ append_assoc first (rows_text plan rows) (rows_text plan more)
    ∙ ap (λ t. first ++ t) (sym (rows_text_more plan rows more))

-- the rows of one frame more, where the seed was that before it
pub frame_put : (plan : PlanParts) (recovery number frame seed next : ℕ) (first text new : List ℕ)
    → text ≡ first ++ rows_text plan (rows_before plan recovery number frame)
    → seed ≡ seed_before plan recovery number frame
    → new ≡ text ++ rows_text plan (rows_of_frame plan recovery frame seed)
    → next ≡ seed_after plan recovery frame seed
    → (new ≡ first ++ rows_text plan (rows_before plan recovery number (frame + 1)))
    × (next ≡ seed_before plan recovery number (frame + 1))
frame_put plan recovery number frame seed next first text new so_far seeded put drew =
    let same = ap (λ s. text ++ rows_text plan (rows_of_frame plan recovery frame s)) seeded in
    rw (add-one frame) (
      rows_put plan first text new (rows_before plan recovery number frame) _ so_far (put ∙ same),
      drew ∙ ap (seed_after plan recovery frame) seeded,
    )
