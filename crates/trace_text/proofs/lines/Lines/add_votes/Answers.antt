-- A vote is added where the slot has it, and nothing where not.
use Rattle.std.proofs.Common.{◌+◌, ◌++◌, ap, sym, ◌∙◌, append-nil, arith}
use Rattle.trace_text.specs.PlanLines.{cell_name, cells_text}
use Rattle.trace_text.proofs.VoteLemmas.{one_more_name, votes_left, votes_left_voted, votes_left_unvoted, votes_left_none, all_votes_left}
use Rattle.trace_text.proofs.lines.Lines.add_votes.Goals.{then-has+in_ok-add+in_ok-add_cell, else-has}
use Rattle.trace_text.proofs.lines.Lines.add_votes.Goals as goal

pub loop-cell-init : goal.loop-cell-init
loop-cell-init c =
    ap (λ numbers. c.args.self.now.line.items ++ cells_text c.args.cells.now numbers) (all_votes_left c.args.pattern.now c.args.slot)

pub loop-cell-preserved : goal.loop-cell-preserved
loop-cell-preserved c =
    let votes = c.args.pattern.now in
    let cells = c.args.cells.now in
    elim c.if-has.branch [
      | then-has+in_ok-add+in_ok-add_cell w ↦
          ap (λ self. self.line.items ++ cells_text cells (votes_left votes c.args.slot (c.loop-cell.cell + 1))) w.self-is
          ∙ ap (λ items. items ++ cells_text cells (votes_left votes c.args.slot (c.loop-cell.cell + 1)))
          (w.in_ok-add_cell.ensures ∙ ap (λ items. items ++ cell_name cells c.loop-cell.cell) w.in_ok-add.ensures)
          ∙ one_more_name c.loop-cell.self.line.items (cell_name cells c.loop-cell.cell) (cells_text cells (votes_left votes c.args.slot (c.loop-cell.cell + 1)))
          ∙ ap (λ numbers. c.loop-cell.self.line.items ++ cells_text cells numbers)
          (sym (votes_left_voted votes c.args.slot c.loop-cell.cell (omega arith) (sym c.has.ensures ∙ w.if-has.true)))
          ∙ c.loop-cell.invariant
      | else-has w ↦
          ap (λ self. self.line.items ++ cells_text cells (votes_left votes c.args.slot (c.loop-cell.cell + 1))) w.self-is
          ∙ ap (λ numbers. c.loop-cell.self.line.items ++ cells_text cells numbers)
          (sym (votes_left_unvoted votes c.args.slot c.loop-cell.cell (omega arith) (sym c.has.ensures ∙ w.if-has.false)))
          ∙ c.loop-cell.invariant
    ]

pub returns : goal.returns
returns c =
    let none = votes_left_none c.args.pattern.now c.args.slot c.loop-cell.cell (omega arith) in
    sym (append-nil c.loop-cell.self.line.items) ∙ ap (λ numbers. c.loop-cell.self.line.items ++ cells_text c.args.cells.now numbers) (sym none) ∙ c.loop-cell.invariant
