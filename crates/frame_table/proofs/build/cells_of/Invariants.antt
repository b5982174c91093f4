-- The cells of the rows so far.
use Rattle.std.proofs.Common.{◌≡◌, map, take}
use Rattle.frame_table.proofs.build.cells_of.Given as goal

abbrev pub invariant-loop-row : goal.invariant-loop-row
invariant-loop-row l = l.cells ≡ map (λ row. row.cell) (take l.row-index l.rows)
