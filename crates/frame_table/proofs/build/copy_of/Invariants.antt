-- The numbers so far.
use Rattle.std.proofs.Common.{◌≡◌, take}
use Rattle.frame_table.proofs.build.copy_of.Given as goal

abbrev pub invariant-loop-number : goal.invariant-loop-number
invariant-loop-number l = l.copy ≡ take l.number-index l.numbers
