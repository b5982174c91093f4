use Rattle.std.proofs.Common.{◌≡◌, ◌-◌, List, All, length, take, drop, Some, ◌∙◌, ap, ap₂, sym, subst, arith}
use Rattle.std.proofs.lemmas.List.{take_rest}
use Rattle.std.proofs.lemmas.List.Elements.{All-take, All-drop}
use Rattle.rcp_model.specs.FrameRows.{AreRowsOf}
use Rattle.fault_journal.specs.declared.row.Row.{Row}
use Rattle.fault_journal.specs.Filling.{IsRowOf, put_all}
use Rattle.fault_journal.proofs.WithinLemmas.{frame_of-is_of_plan}
use Rattle.fault_journal.proofs.JournalLemmas.{IsRowsOfFrame, begins, can_go_on, told-Some, filled, tells_on}
use Rattle.fault_journal.proofs.journal.JournalInputs.fill.Goals as goal

-- the rows that are left
left_is : (items slice : List Row) (place : _) → slice ≡ items → take (length slice - place) (drop place slice) ≡ drop place items
left_is items slice place same = take_rest slice place ∙ ap (λ (xs : List Row). drop place xs) same

pub put_rows-requires : goal.put_rows-requires
put_rows-requires c =
    let journal = c.args.self.now in
    let plan = c.requires.ready.0 in
    let tells = c.requires.ready.2 in
    let left = left_is journal.rows.items c.deref.result.now journal.place c.deref.ensures.value in
    let can = can_go_on journal plan c.requires.ready.1 c.args.input.now tells c.requires.ready.3 in
    let begun = c.clear_rows.ensures plan can.rows_of_plan ∙ begins plan journal c.args.input.now can in
    let rows = subst (All (IsRowOf plan)) (sym left) (All-drop (IsRowOf plan) journal.place journal.rows.items tells.over.rows) in
    record {
      ready = (
        plan,
        record { is_plan = tells.over.is_plan; rows_of_plan = subst (AreRowsOf plan) (sym begun) (frame_of-is_of_plan plan _ journal.done) },
        All-take (IsRowOf plan) c.count_of_frame-count.result _ rows,
      );
    }

pub returns : goal.returns
returns c =
    let journal = c.args.self.now in
    let count = c.count_of_frame-count.result in
    let told = c.count_of_frame-count.ensures in
    let left = left_is journal.rows.items c.deref.result.now journal.place c.deref.ensures.value in
    let of_frame : IsRowsOfFrame journal.done (drop journal.place journal.rows.items) count =
    subst (λ (rest : List Row). IsRowsOfFrame journal.done rest count) left (record { within = told.within; same = told.same; other = told.other }) in
    record {
      rows =
          λ plan history tells can.
          let begun = c.clear_rows.ensures plan can.rows_of_plan.tables ∙ begins plan journal c.args.input.now (can_go_on journal plan history c.args.input.now tells can) in
          let put = c.put_rows.ensures ∙ ap₂ put_all begun (ap (take count) left) ∙ filled plan journal count tells.over of_frame in
          told-Some journal plan history tells journal.done c.args.input.now can.more ∙ ap Some (sym put);
      history = λ plan history tells. tells_on journal plan history count tells of_frame;
      done = omega arith;
    }
