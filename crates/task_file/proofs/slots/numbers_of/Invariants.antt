-- The entries so far have these numbers.
use Rattle.std.proofs.Common.{◌≡◌, map, drop, length}
use Rattle.rcp_base.specs.Answers.{each_from}
use Rattle.rcp_base.proofs.ReaderLaws.{after}
use Rattle.task_file.specs.Slots.{entry_number}
use Rattle.task_file.proofs.slots.numbers_of.Given as goal

abbrev pub invariant-loop-j : goal.invariant-loop-j
invariant-loop-j l = record {
  left : each_from (entry_number l.names l.i l.at) 0 (map (λ entry. entry.now) l.entries)
      ≡ after l.numbers (each_from (entry_number l.names l.i l.at) l.j (map (λ entry. entry.now) (drop l.j l.entries)));
  count : length l.numbers ≡ l.j;
}
