-- What a journal tells, and how it goes on from frame to frame.
use Rattle.std.proofs.Common.{◌≡◌, ◌≢◌, ℕ, suc, ◌+◌, ◌-◌, ◌<◌, ◌≤◌, List, [], ◌∷◌, ◌++◌, length, get_or, take, drop, reverse, All, Some, slice_get, sym, refl, ap, ◌∙◌, arith, subst, append_assoc, take-add, inl, inr, get_or-drop, length-drop}
use Rattle.std.proofs.lemmas.Bool.{cases_eq}
use Rattle.std.proofs.lemmas.List.{reverse-append, take_more, drop-drop}
use Rattle.std.proofs.lemmas.List.Elements.{All-head, All-append, All-weaker, All-take, All-drop}
use Rattle.std.proofs.lemmas.Option.{slice_get-get_or}
use Rattle.rcp_base.proofs.TableLaws.{length-table, get_or-table}
use Rattle.rcp_model.specs.declared.plan.PlanParts.{PlanParts}
use Rattle.rcp_model.specs.Uniprocessor.{initial_values}
use Rattle.rcp_model.specs.FrameRows.{FrameRows, AreRowsOf, no_rows}
use Rattle.rcp_model.specs.History.{History, past_of}
use Rattle.rcp_model.specs.RowWrites.{cleared}
use Rattle.layer_stack.specs.Inputs.{CanFill, sensors_after}
use Rattle.fault_journal.specs.declared.row.Row.{Row}
use Rattle.fault_journal.specs.declared.journal.Journal.{Journal}
use Rattle.fault_journal.specs.History.{frame_of, history_of}
use Rattle.fault_journal.specs.Filling.{IsRowOf, put_all}
use Rattle.fault_journal.specs.Telling.{IsPlaceAfter, IsOver, Tells}
use Rattle.fault_journal.proofs.SaidLemmas.{sensors_in, frame_of-built}
use Rattle.fault_journal.proofs.FrameLemmas.{frame_begins, first_frame, sensors_next, later_rows}
use Rattle.fault_journal.proofs.ReverseLemmas.{All-reverse, split_rows}
use Rattle.fault_journal.proofs.PutLemmas.{put_all-frame}

-- the frame at hand can be filled into these rows: they have the sizes of the plan, and the sensors so far
pub record CanGoOn (plan : PlanParts) (journal : Journal) (rows : FrameRows) : Type 0 where
  pub over : IsOver plan journal
  pub rows_of_plan : AreRowsOf plan rows
  pub initial : journal.done ≡ 0 → rows.sensors ≡ initial_values plan.sensors
  pub sensors : (frame : ℕ) → journal.done ≡ suc frame → rows.sensors ≡ (frame_of plan (reverse journal.rows.items) frame).sensors

-- the number of frames
pub told-length : (journal : Journal) (plan : PlanParts) (history : History) → Tells journal plan history → journal.frames ≡ length history
unfolding history_of
told-length journal plan history tells =
    sym (ap (λ (h : History). length h) tells.told ∙ length-table journal.frames (frame_of plan (reverse journal.rows.items)))

-- the rows of a frame that is there
told-frame : (journal : Journal) (plan : PlanParts) (history : History) → Tells journal plan history → (k : ℕ) (d : FrameRows) → k < length history
    → get_or history k d ≡ frame_of plan (reverse journal.rows.items) k
unfolding history_of
told-frame journal plan history tells k d below =
    let frames = told-length journal plan history tells in
    ap (λ (h : History). get_or h k d) tells.told ∙ get_or-table journal.frames (frame_of plan (reverse journal.rows.items)) k d (omega arith)

none_before : (rows : List Row) → All (λ row. row.frame < 0) rows → rows ≡ []
none_before [] before = refl
none_before (row ∷ rows) before = let first = All-head (λ (r : Row). r.frame < 0) row rows before in absurd (omega arith)

-- the next frame before its rows, over the sensors so far
pub cleared_of_plan : (plan : PlanParts) (rows : FrameRows) → AreRowsOf plan rows → cleared rows ≡ no_rows plan rows.sensors
unfolding cleared no_rows
cleared_of_plan plan rows of_plan = rw (of_plan.replicas, of_plan.cells, of_plan.actuators, of_plan.delay_min) refl

-- the first frame before its rows
pub begins_first : (plan : PlanParts) (journal : Journal) → IsOver plan journal → journal.done ≡ 0
    → no_rows plan (initial_values plan.sensors) ≡ frame_of plan (reverse (take journal.place journal.rows.items)) journal.done
begins_first plan journal over first =
    let before = take journal.place journal.rows.items in
    let none = none_before before (subst (λ (done : ℕ). All (λ (r : Row). r.frame < done) before) first over.place.passed) in
    sym (ap (λ (rows : List Row). frame_of plan (reverse rows) journal.done) none ∙ ap (frame_of plan []) first ∙ first_frame plan)

-- a later frame before its rows
pub begins_next : (plan : PlanParts) (journal : Journal) (rows : FrameRows) → CanGoOn plan journal rows → journal.done ≢ 0
    → no_rows plan rows.sensors ≡ frame_of plan (reverse (take journal.place journal.rows.items)) journal.done
begins_next plan journal rows can later =
    let items = journal.rows.items in
    let before = take journal.place items in
    let ahead = drop journal.place items in
    let frame = journal.done - 1 in
    let next : journal.done ≡ suc frame = omega arith in
    let passed = can.over.place.passed in
    let begun = frame_begins plan (reverse before) journal.done (All-reverse (λ (r : Row). r.frame < journal.done) before passed) in
    let stay = sensors_next plan (reverse before) frame
    (All-reverse (λ (r : Row). r.frame ≤ frame) before (All-weaker (λ (r : Row). r.frame < journal.done) (λ (r : Row). r.frame ≤ frame) (λ r lt. omega arith) before passed)) in
    let later_ones = later_rows plan (reverse ahead) (reverse before) frame
    (All-reverse (λ (r : Row). frame < r.frame) ahead (All-weaker (λ (r : Row). journal.done ≤ r.frame) (λ (r : Row). frame < r.frame) (λ r le. omega arith) ahead can.over.place.ahead)) in
    ap (no_rows plan)
    (can.sensors frame next
    ∙ ap (λ (all : List Row). (frame_of plan all frame).sensors) (split_rows items journal.place)
    ∙ ap (λ (r : FrameRows). r.sensors) later_ones
    ∙ ap (λ (r : FrameRows). r.sensors) (frame_of-built plan (reverse before) frame)
    ∙ sym stay
    ∙ ap (sensors_in plan (reverse before)) (sym next))
    ∙ sym begun

-- the frame at hand before its rows
pub begins : (plan : PlanParts) (journal : Journal) (rows : FrameRows) → CanGoOn plan journal rows
    → no_rows plan rows.sensors ≡ frame_of plan (reverse (take journal.place journal.rows.items)) journal.done
begins plan journal rows can = elim (cases_eq journal.done 0) [
  | inl first ↦ ap (no_rows plan) (can.initial first) ∙ begins_first plan journal can.over first
  | inr later ↦ begins_next plan journal rows can later
]

-- what is known of the rows of the frame at hand
pub record IsRowsOfFrame (frame : ℕ) (rest : List Row) (count : ℕ) : Type 0 where
  pub within : count ≤ length rest
  pub same : All (λ row. row.frame ≡ frame) (take count rest)
  pub other : (d : Row) → count < length rest → (get_or rest count d).frame ≢ frame

-- all rows after them are of later frames
after_frame : (plan : PlanParts) (journal : Journal) (count : ℕ) → IsOver plan journal → IsRowsOfFrame journal.done (drop journal.place journal.rows.items) count
    → All (λ row. journal.done < row.frame) (drop count (drop journal.place journal.rows.items))
after_frame plan journal count over of_frame k d within =
    let items = journal.rows.items in
    let rest = drop journal.place items in
    let lengths = length-drop journal.place items in
    let shorter = length-drop count rest in
    let at = get_or-drop count rest k d in
    let at_items = get_or-drop journal.place items (count + k) d in
    let first_items = get_or-drop journal.place items count d in
    let first = of_frame.other d (omega arith) in
    let least = over.place.ahead count d (omega arith) in
    let place = journal.place + count in
    let frame_at = λ (j : ℕ). (get_or items j d).frame in
    let here : (get_or (drop count rest) k d).frame ≡ frame_at (journal.place + (count + k)) = ap (λ (r : Row). r.frame) (at ∙ at_items) in
    let there : (get_or rest count d).frame ≡ frame_at place = ap (λ (r : Row). r.frame) first_items in
    elim (cases_eq k 0) [
      | inl none ↦
          let one : frame_at (journal.place + (count + k)) ≡ frame_at place = ap frame_at (omega arith) in
          omega arith
      | inr some ↦
          let falls = over.order place (journal.place + (count + k)) d (omega arith) (omega arith) in
          omega arith
    ]

-- the frame at hand is filled in
pub filled : (plan : PlanParts) (journal : Journal) (count : ℕ) → IsOver plan journal → IsRowsOfFrame journal.done (drop journal.place journal.rows.items) count
    → put_all (frame_of plan (reverse (take journal.place journal.rows.items)) journal.done) (take count (drop journal.place journal.rows.items))
    ≡ frame_of plan (reverse journal.rows.items) journal.done
filled plan journal count over of_frame =
    let items = journal.rows.items in
    let before = take journal.place items in
    let rest = drop journal.place items in
    let mid = take count rest in
    let after = drop count rest in
    let past = after_frame plan journal count over of_frame in
    let of_plan = All-take (IsRowOf plan) count rest (All-drop (IsRowOf plan) journal.place items over.rows) in
    sym (
    ap (λ (all : List Row). frame_of plan all journal.done)
    (split_rows items journal.place ∙ ap (λ (r : List Row). r ++ reverse before) (split_rows rest count) ∙ append_assoc (reverse after) (reverse mid) (reverse before))
    ∙ later_rows plan (reverse after) (reverse mid ++ reverse before) journal.done (All-reverse (λ (r : Row). journal.done < r.frame) after past)
    ∙ put_all-frame plan mid (reverse before) journal.done of_frame.same of_plan)

-- and its rows are after
pub goes_on : (plan : PlanParts) (journal : Journal) (count : ℕ) → IsOver plan journal → IsRowsOfFrame journal.done (drop journal.place journal.rows.items) count
    → IsPlaceAfter (journal.done + 1) journal.rows.items (journal.place + count)
goes_on plan journal count over of_frame =
    let items = journal.rows.items in
    let before = take journal.place items in
    let rest = drop journal.place items in
    let lengths = length-drop journal.place items in
    record {
      within = omega (arith, over.place.within, of_frame.within);
      passed =
          subst (All (λ (r : Row). r.frame < journal.done + 1)) (sym (take-add journal.place count items))
          (All-append (λ (r : Row). r.frame < journal.done + 1) before (take count rest)
          (All-weaker (λ (r : Row). r.frame < journal.done) (λ (r : Row). r.frame < journal.done + 1) (λ r lt. omega arith) before over.place.passed)
          (All-weaker (λ (r : Row). r.frame ≡ journal.done) (λ (r : Row). r.frame < journal.done + 1) (λ r is. omega arith) (take count rest) of_frame.same));
      ahead =
          subst (All (λ (r : Row). journal.done + 1 ≤ r.frame)) (drop-drop count journal.place items)
          (All-weaker (λ (r : Row). journal.done < r.frame) (λ (r : Row). journal.done + 1 ≤ r.frame) (λ r lt. omega arith) (drop count rest) (after_frame plan journal count over of_frame));
    }

-- the sensors after a frame that is there
sensors-after : (plan : PlanParts) (history : History) (frame : ℕ) (d : FrameRows) → frame < length history
    → sensors_after plan (past_of history (suc frame)) ≡ (get_or history frame d).sensors
sensors-after plan history frame d below =
    let more : suc frame ≡ frame + 1 = omega arith in
    ap (sensors_after plan)
    (ap reverse (ap (λ (n : ℕ). take n history) more ∙ take_more history frame d below) ∙ reverse-append (take frame history) (get_or history frame d ∷ []))

-- what can be filled in goes on
pub can_go_on : (journal : Journal) (plan : PlanParts) (history : History) (rows : FrameRows) → Tells journal plan history → CanFill plan history journal.done rows
    → CanGoOn plan journal rows
can_go_on journal plan history rows tells can = record {
  over = tells.over;
  rows_of_plan = can.rows_of_plan.tables;
  initial = λ first. can.sensors ∙ ap (λ (done : ℕ). sensors_after plan (past_of history done)) first;
  sensors =
      λ before next.
      let below : before < length history = omega (arith, can.more) in
      can.sensors
      ∙ ap (λ (done : ℕ). sensors_after plan (past_of history done)) next
      ∙ sensors-after plan history before rows below
      ∙ ap (λ (r : FrameRows). r.sensors) (told-frame journal plan history tells before rows below);
}

-- the frame that a journal tells of is the one that is filled in
pub told-Some : (journal : Journal) (plan : PlanParts) (history : History) → Tells journal plan history → (frame : ℕ) (d : FrameRows) → frame < length history
    → slice_get history frame ≡ Some (frame_of plan (reverse journal.rows.items) frame)
told-Some journal plan history tells frame d below = slice_get-get_or history frame d below ∙ ap Some (told-frame journal plan history tells frame d below)

-- the journal tells the same when the frame is done
pub tells_on : (journal : Journal) (plan : PlanParts) (history : History) (count : ℕ) → Tells journal plan history → IsRowsOfFrame journal.done (drop journal.place journal.rows.items) count
    → Tells (record journal { place = journal.place + count; done = journal.done + 1 }) plan history
tells_on journal plan history count tells of_frame = record {
  over =
      record {
        is_plan = tells.over.is_plan;
        rows = tells.over.rows;
        order = tells.over.order;
        place = goes_on plan journal count tells.over of_frame;
      };
  told = tells.told;
}
