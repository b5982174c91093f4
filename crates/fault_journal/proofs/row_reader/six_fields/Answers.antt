use Rattle.std.proofs.Common.{sym, ◌∙◌}
use Rattle.fault_journal.proofs.RowLemmas.{six_fields_at_places}
use Rattle.fault_journal.proofs.row_reader.six_fields.Goals as goal

pub returns : goal.returns
returns c =
    six_fields_at_places _ _ _ _ _ _ _ (sym c.len.ensures ∙ c.if-len-ne6.false)
    (sym c.in_ok-get.ensures.value) (sym c.in_ok-get-2.ensures.value) (sym c.in_ok-get-3.ensures.value)
    (sym c.in_ok-get-4.ensures.value) (sym c.in_ok-get-5.ensures.value) (sym c.in_ok-get-6.ensures.value)
