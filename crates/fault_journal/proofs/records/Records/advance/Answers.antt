-- A reader that has not failed takes the first record that was left, and one that has finds none.
use Rattle.std.proofs.Common.{◌≡◌, true, false}
use Rattle.csv.specs.Reading.{has_failed}
use Rattle.fault_journal.proofs.RecordLemmas.{takes}
use Rattle.fault_journal.proofs.records.Records.advance.Goals as goal

pub returns : goal.returns
returns c =
    let read = c.in-Ok.ensures in
    let none : has_failed c.self.inside.reader ≡ true → c.in-Ok.found ≡ false =
    λ failed. let is = read.failed failed in cc in
    rw (← c.self.view_is) (takes c.self.inside.reader c.read_byte_record.new.self c.read_byte_record.new.row c.in-Ok.found c.self.invariant none read.reads)
