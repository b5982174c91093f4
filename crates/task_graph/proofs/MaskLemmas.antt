-- The bits of a mask are the cells that are read.
use Rattle.std.proofs.Common.{◌≡◌, ℕ, ◌<◌, false, Bool, eqb, List, [], ◌∷◌, ◌++◌, map, length, get_or, inl, inr, refl, sym, ◌∙◌, ap, ap₂, subst, arith}
use Rattle.std.proofs.lemmas.Bool.{cases_lt, cases_eq, eq-eqb, ne_eqb}
use Rattle.std.proofs.lemmas.List.{get_or_past, get_or-map, length-map, map-append}
use Rattle.std.specs.Prelude.{◌||◌}
use Rattle.std.specs.Int.Bits.{bit_or}
use Rattle.rcp_model.specs.declared.expr.Expr.{Expr, map-Expr}
use Rattle.rcp_model.specs.declared.expr.Expr.TheOpen.{Expr-F}
use Rattle.rcp_model.specs.declared.expr.Expr.TheViews.{roll-Expr}
use Rattle.rcp_model.specs.declared.expr.Expr.TheFolds.{fold-roll-Expr, ind-Expr}
use Rattle.rcp_model.specs.declared.task.LetRow.{LetRow}
use Rattle.rcp_model.specs.declared.task.Task.{Task}
use Rattle.rcp_model.specs.Dependence.{reads, reads_step, lets_reading, lets_reading_after}
use Rattle.rcp_base.specs.Bits.{has_bit}
use Rattle.task_graph.specs.inner.Masks.{mask_of, mask_step, let_masks, let_masks_after}
use Rattle.task_graph.proofs.Trees.{map-map}
use Rattle.rcp_base.proofs.BitLaws.{has_bit_or, has_bit_zero}
use Rattle.task_graph.proofs.BitLemmas.{has_bit_of}

-- which of the words have the cell
abbrev having : ℕ → List ℕ → List Bool
having from masks = map (λ mask. has_bit mask from) masks

having_at : (from : ℕ) (masks : List ℕ) (i : ℕ) → has_bit (get_or masks i 0) from ≡ get_or (having from masks) i false
having_at from masks i = elim (cases_lt i (length masks)) [
  | inl below ↦ sym (get_or-map (λ mask. has_bit mask from) masks i 0 false below)
  | inr past ↦
      ap (λ mask. has_bit mask from) (get_or_past masks i 0 (omega arith))
      ∙ has_bit_zero from
      ∙ sym (get_or_past (having from masks) i false (omega (arith, length-map masks (λ (mask : ℕ). has_bit mask from))))
]

-- the bits of a mask are what is read
abbrev IsMask : (List ℕ → ℕ) → (ℕ → List Bool → Bool) → Type 0
IsMask mask is_read = (masks : List ℕ) (from : ℕ) → from < 64 → has_bit (mask masks) from ≡ is_read from (having from masks)

abbrev HasMask : Expr → Type 0
HasMask e = IsMask (mask_of e) (λ x. reads x e)

abbrev Operand : Type 0
Operand = (e : Expr) × HasMask e

eqb_sym : (a b : ℕ) → eqb a b ≡ eqb b a
eqb_sym a b = elim (cases_eq a b) [
  | inl same ↦ eq-eqb a b same ∙ sym (eq-eqb b a (sym same))
  | inr other ↦ ne_eqb a b other ∙ sym (ne_eqb b a (λ e. other (sym e)))
]

two_masks : (a b from : ℕ) (x y : Bool) → has_bit a from ≡ x → has_bit b from ≡ y → has_bit (bit_or a b) from ≡ (x || y)
two_masks a b from x y p q = has_bit_or a b from ∙ ap₂ (λ s t. s || t) p q

mask_level : (y : Expr-F Operand) → IsMask (mask_step (map-Expr Operand (List ℕ → ℕ) (λ e. mask_of e.0) y)) (λ x. reads_step x (map-Expr Operand (List Bool → Bool) (λ e. reads x e.0) y))
mask_level (Expr-F.Number n) masks from below = has_bit_zero from
mask_level (Expr-F.Sensor i) masks from below = has_bit_zero from
mask_level (Expr-F.Cell i) masks from below = has_bit_of i from below ∙ eqb_sym from i
mask_level (Expr-F.Let i) masks from below = having_at from masks i
mask_level (Expr-F.Neg x) masks from below = x.1 masks from below
mask_level (Expr-F.Not x) masks from below = x.1 masks from below
mask_level (Expr-F.Abs x) masks from below = x.1 masks from below
mask_level (Expr-F.Two op a b) masks from below = two_masks _ _ from _ _ (a.1 masks from below) (b.1 masks from below)
mask_level (Expr-F.Clamp a low high) masks from below =
    two_masks (bit_or (mask_of a.0 masks) (mask_of low.0 masks)) _ from _ _
    (two_masks _ _ from _ _ (a.1 masks from below) (low.1 masks from below)) (high.1 masks from below)
mask_level (Expr-F.If test a b) masks from below =
    two_masks (bit_or (mask_of test.0 masks) (mask_of a.0 masks)) _ from _ _
    (two_masks _ _ from _ _ (test.1 masks from below) (a.1 masks from below)) (b.1 masks from below)

mask_rolled : (y : Expr-F Operand) → HasMask (roll-Expr (map-Expr Operand Expr (λ e. e.0) y))
mask_rolled y masks from below =
    let z : Expr-F Expr = map-Expr Operand Expr (λ e. e.0) y in
    let mask : mask_of (roll-Expr z) ≡ mask_step (map-Expr Operand (List ℕ → ℕ) (λ e. mask_of e.0) y) =
    fold-roll-Expr (List ℕ → ℕ) mask_step z ∙ ap mask_step (map-map HasMask mask_of y) in
    let read : reads from (roll-Expr z) ≡ reads_step from (map-Expr Operand (List Bool → Bool) (λ e. reads from e.0) y) =
    fold-roll-Expr (List Bool → Bool) (reads_step from) z ∙ ap (reads_step from) (map-map HasMask (reads from) y) in
    ap (λ f. has_bit (f masks) from) mask ∙ mask_level y masks from below ∙ sym (ap (λ f. f (having from masks)) read)

mask_reads : (e : Expr) → HasMask e
mask_reads = ind-Expr HasMask (λ x y is. subst (λ z. HasMask (roll-Expr z)) is (mask_rolled y))

lets_read : (rows : List LetRow) (known : List ℕ) (from : ℕ) → from < 64 → having from (let_masks_after known rows) ≡ lets_reading_after from (having from known) rows
lets_read [] known from below = refl
lets_read (row ∷ rows) known from below =
    lets_read rows (known ++ mask_of row.value known ∷ []) from below
    ∙ ap (λ marks. lets_reading_after from marks rows)
    (map-append (λ mask. has_bit mask from) known (mask_of row.value known ∷ [])
    ∙ ap (λ b. having from known ++ b ∷ []) (mask_reads row.value known from below))

-- the bits of what a task's set row reads are the cells that its value reads
pub mask_leads : (task : Task) (from : ℕ) (e : Expr) → from < 64 → has_bit (mask_of e (let_masks task)) from ≡ reads from e (lets_reading from task)
mask_leads task from e below = mask_reads e (let_masks task) from below ∙ ap (reads from e) (lets_read task.lets [] from below)
