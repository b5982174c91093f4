use Rattle.std.proofs.Common.{◌≡◌, length}
use Rattle.task_lang.specs.NameFaults.{wrong_name_from, nothing_seen}
use Rattle.task_lang.proofs.scan.first_wrong_name.Given as goal

abbrev pub invariant-loop-token : goal.invariant-loop-token
invariant-loop-token l = wrong_name_from l.scan l.rest ≡ wrong_name_from (nothing_seen l.sensors l.cells) l.initial.rest

abbrev pub decreases-loop-token : goal.decreases-loop-token
decreases-loop-token l = length l.rest
