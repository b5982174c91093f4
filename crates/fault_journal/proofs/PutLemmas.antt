-- What is put into a frame: a row by its kind, all sensors, rows one after the other.
use Rattle.std.proofs.Common.{◌≡◌, ℕ, ◌+◌, List, [], ◌∷◌, ◌++◌, reverse, ℤ, pos, negsuc, nat_abs, true, All, sym, refl, ap, ◌∙◌, arith, subst, append_assoc}
use Rattle.std.proofs.lemmas.Int.{ints}
use Rattle.std.proofs.lemmas.List.{reverse-append}
use Rattle.std.proofs.lemmas.List.Elements.{All-head, All-tail}
use Rattle.rcp_base.specs.Answers.{natural_of}
use Rattle.rcp_model.specs.declared.plan.PlanParts.{PlanParts}
use Rattle.rcp_model.specs.FrameRows.{FrameRows, AreRowsOf}
use Rattle.fault_journal.specs.declared.row.Kind.{Kind}
use Rattle.fault_journal.specs.declared.row.Kind.TheVariants as kind
use Rattle.fault_journal.specs.declared.row.Row.{Row}
use Rattle.fault_journal.specs.Limits.{value_is_permitted, is_below}
use Rattle.fault_journal.specs.History.{frame_of}
use Rattle.fault_journal.specs.Filling.{IsRowOf, put_by, put_row, put_all}
use Rattle.rcp_model.proofs.FrameOfLaws.{sensor_rows, down_rows, cell_rows, slot_rows, act_rows, lie_rows, lie_slot_rows, drop_rows, skew_rows, rate_rows, delay_rows}
use Rattle.fault_journal.proofs.SaidLemmas.{row_more}

-- what a row of a known kind changes
pub put_row-of_kind : (rows : FrameRows) (row : Row) (kind : Kind) → row.kind ≡ kind → put_row rows row ≡ put_by kind rows row
unfolding put_row
put_row-of_kind rows row kind is = ap (λ (k : Kind). put_by k rows row) is

-- rows of a frame of a plan stay so with a row more
put_by-of_plan : (plan : PlanParts) (kind : Kind) (rows : FrameRows) (row : Row) → AreRowsOf plan rows → AreRowsOf plan (put_by kind rows row)
put_by-of_plan plan kind.Sensor rows row are = sensor_rows plan rows are row.item row.value
put_by-of_plan plan kind.Down rows row are = down_rows plan rows are row.replica
put_by-of_plan plan kind.Cell rows row are = cell_rows plan rows are row.replica row.item row.value
put_by-of_plan plan kind.Slot rows row are = slot_rows plan rows are row.replica (natural_of row.value)
put_by-of_plan plan kind.Act rows row are = act_rows plan rows are row.replica row.item row.value
put_by-of_plan plan kind.Lie rows row are = lie_rows plan rows are row.replica row.receiver row.item row.value
put_by-of_plan plan kind.LieSlot rows row are = lie_slot_rows plan rows are row.replica row.receiver (natural_of row.value)
put_by-of_plan plan kind.Drop rows row are = drop_rows plan rows are row.replica row.receiver
put_by-of_plan plan kind.Skew rows row are = skew_rows plan rows are row.replica row.value
put_by-of_plan plan kind.Rate rows row are = rate_rows plan rows are row.replica row.value
put_by-of_plan plan kind.Delay rows row are = delay_rows plan rows are row.replica row.receiver row.value
put_by-of_plan plan kind.End rows row are = are

pub put_row_is_of_plan : (plan : PlanParts) (rows new : FrameRows) (row : Row) → new ≡ put_row rows row → AreRowsOf plan rows → AreRowsOf plan new
unfolding put_row
put_row_is_of_plan plan rows new row is are = subst (AreRowsOf plan) (sym is) (put_by-of_plan plan row.kind rows row are)

-- rows of the frame at hand, one after the other
pub put_all-frame : (plan : PlanParts) (more before : List Row) (frame : ℕ) → All (λ row. row.frame ≡ frame) more → All (IsRowOf plan) more
    → frame_of plan (reverse more ++ before) frame ≡ put_all (frame_of plan before frame) more
put_all-frame plan [] before frame same of_plan = refl
put_all-frame plan (row ∷ more) before frame same of_plan =
    ap (λ (rows : List Row). frame_of plan rows frame) ((ap (λ (t : List Row). t ++ before) (reverse-append (row ∷ []) more)) ∙ append_assoc (reverse more) (row ∷ []) before)
    ∙ put_all-frame plan more (row ∷ before) frame (All-tail (λ (r : Row). r.frame ≡ frame) row more same) (All-tail (IsRowOf plan) row more of_plan)
    ∙ ap (λ (rows : FrameRows). put_all rows more)
    (row_more plan row before frame (All-head (λ (r : Row). r.frame ≡ frame) row more same) (All-head (IsRowOf plan) row more of_plan))

-- the value of a row of a known kind is permitted
pub permitted-of_kind : (plan : PlanParts) (row : Row) (kind : Kind) → IsRowOf plan row → row.kind ≡ kind → value_is_permitted plan kind row.value ≡ true
permitted-of_kind plan row kind of_plan is = subst (λ (k : Kind). value_is_permitted plan k row.value ≡ true) is of_plan.value

-- the size of a number that is not below 0
pub natural-below : (count : ℕ) (value : ℤ) → is_below count value ≡ true → nat_abs value ≡ natural_of value
natural-below count (pos n) below = refl
natural-below count (negsuc n) below = grind (arith, ints)
