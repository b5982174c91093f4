-- The votes so far have no clash.
use Rattle.std.proofs.Common.{◌≡◌, [], take, drop}
use Rattle.task_file.specs.Slots.{vote_clash_from}
use Rattle.task_file.proofs.clashes.check_votes.Given as goal

abbrev pub invariant-loop-j : goal.invariant-loop-j
invariant-loop-j l = vote_clash_from l.i [] 0 l.numbers ≡ vote_clash_from l.i (take l.j l.numbers) l.j (drop l.j l.numbers)
