-- The rows so far, and the records that are left, give what all records give.
use Rattle.std.proofs.Common.{◌≡◌, ◌+◌, ◌<◌, ◌^◌, [], length, reverse}
use Rattle.fault_journal.specs.Journal.{rows_from}
use Rattle.fault_journal.specs.Seen.{Knows}
use Rattle.fault_journal.proofs.rows.rows_after_header.Given as goal

abbrev pub invariant-rows : goal.invariant-rows
invariant-rows l = record {
  same : rows_from l.plan 1 [] l.initial.records.left ≡ rows_from l.plan l.number (reverse l.rows.items) l.records.left;
  known : Knows (reverse l.rows.items) l.seen;
  few : l.number + length l.records.left < 2 ^ 32;
}

abbrev pub decreases-rows : goal.decreases-rows
decreases-rows l = length l.records.left
