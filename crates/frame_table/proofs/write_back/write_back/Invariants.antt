-- The values from here on are in their places.
use Rattle.std.proofs.Common.{◌≡◌, drop}
use Rattle.frame_table.specs.Tasks.{written_back}
use Rattle.frame_table.proofs.write_back.write_back.Given as goal

abbrev pub invariant-loop-i : goal.invariant-loop-i
invariant-loop-i l = l.cells ≡ written_back (drop l.i l.targets) (drop l.i l.values) l.initial.cells
