use Rattle.std.proofs.Common.{rules}
use Rattle.fault_journal.specs.Journal.{row_of}
use Rattle.fault_journal.proofs.RowLemmas.{falls_after_row}
use Rattle.fault_journal.proofs.row_reader.read_row.Goals as goal

pub returns-then-has-clause-row : goal.returns-then-has-clause-row
unfolding row_of
returns-then-has-clause-row c = λ before knows.
    let ordered = c.if-not-may_come.ensures before knows in
    let falls = falls_after_row c.args.plan.now _ _ before c.requires.few_replicas c.if-not-is_within_limits.ensures c.packed-row.ensures.row ordered knows.falls in
    let repeated = c.if-has.ensures before knows falls in
    search rules

pub returns-clause-row : goal.returns-clause-row
unfolding row_of
returns-clause-row c = λ before knows.
    let ordered = c.if-not-may_come.ensures before knows in
    let falls = falls_after_row c.args.plan.now _ _ before c.requires.few_replicas c.if-not-is_within_limits.ensures c.packed-row.ensures.row ordered knows.falls in
    let new = c.if-has.ensures before knows falls in
    search rules

pub returns-clause-seen : goal.returns-clause-seen
returns-clause-seen c = λ before knows.
    let ordered = c.if-not-may_come.ensures before knows in
    let falls = falls_after_row c.args.plan.now _ _ before c.requires.few_replicas c.if-not-is_within_limits.ensures c.packed-row.ensures.row ordered knows.falls in
    c.add.ensures before knows falls
