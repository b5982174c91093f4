-- The line so far and the votes of the cells that are left make the line.
use Rattle.std.proofs.Common.{◌≡◌, ◌++◌}
use Rattle.vote_pattern.specs.Votes.{votes_at}
use Rattle.trace_text.specs.PlanLines.{cells_text}
use Rattle.trace_text.proofs.VoteLemmas.{votes_left}
use Rattle.trace_text.proofs.lines.Lines.add_votes.Given as goal

abbrev pub invariant-loop-cell : goal.invariant-loop-cell
invariant-loop-cell l =
    l.self.line.items ++ cells_text l.cells (votes_left l.pattern l.slot l.cell) ≡ l.initial.self.line.items ++ cells_text l.cells (votes_at l.pattern l.slot)
