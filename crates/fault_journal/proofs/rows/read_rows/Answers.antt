-- The header is the first record, and what is after it gives the rows.
use Rattle.std.proofs.Common.{arith}
use Rattle.std.proofs.lemmas.Result.{err_from_is_err_and}
use Rattle.fault_journal.proofs.RowsLemmas.{few_after_header, journal_after_header, no_journal, too_long}
use Rattle.fault_journal.proofs.rows.read_rows.Goals as goal

pub returns-then-bytes-gt-MAX_JOURNAL : goal.returns-then-bytes-gt-MAX_JOURNAL
returns-then-bytes-gt-MAX_JOURNAL c = too_long _ _ c.if-bytes-gt-MAX_JOURNAL.true

pub returns-in_err-read_header : goal.returns-in_err-read_header
returns-in_err-read_header c =
    let p = err_from_is_err_and c.from_residual.result c.from_residual.ensures.1 in
    rw (p.1, p.2) (no_journal _ _ _ _ c.if-bytes-gt-MAX_JOURNAL.false c.new-records.ensures c.in_err-read_header.ensures)

pub rows_after_header-requires-clause-few : goal.rows_after_header-requires-clause-few
rows_after_header-requires-clause-few c =
    let few = few_after_header c.args.plan.now c.args.bytes.now _ _ c.if-bytes-gt-MAX_JOURNAL.false c.new-records.ensures c.in_ok-read_header.ensures in
    omega (arith, few)

pub returns : goal.returns
returns c =
    rw (journal_after_header c.args.plan.now c.args.bytes.now _ _ c.if-bytes-gt-MAX_JOURNAL.false c.new-records.ensures c.in_ok-read_header.ensures)
    c.rows_after_header.ensures
