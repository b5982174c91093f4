-- The length of the longest so far, and that of the lists that are left, is that of all.
use Rattle.std.proofs.Common.{◌≡◌, max, drop}
use Rattle.frame_table.specs.Tasks.{greatest_length}
use Rattle.frame_table.proofs.build.longest.Given as goal

abbrev pub invariant-loop-list : goal.invariant-loop-list
invariant-loop-list l = max l.most (greatest_length (drop l.list-index l.lists)) ≡ greatest_length l.lists
