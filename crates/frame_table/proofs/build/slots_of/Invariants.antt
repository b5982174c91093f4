-- The numbers of the slots so far.
use Rattle.std.proofs.Common.{◌≡◌, take}
use Rattle.frame_table.specs.Plan.{slots_of}
use Rattle.frame_table.proofs.build.slots_of.Given as goal

abbrev pub invariant-loop-row : goal.invariant-loop-row
invariant-loop-row l = l.slots ≡ slots_of (take l.row-index l.rows)
