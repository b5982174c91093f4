-- The fault of an entry is that of the list, and a number adds to those so far.
use Rattle.std.proofs.Common.{Bor, List, ℕ, ◌+◌, ap, ◌∙◌, arith}
use Rattle.std.proofs.lemmas.List.{length_push}
use Rattle.std.proofs.lemmas.Result.{err_from_is_err_and}
use Rattle.rcp_base.proofs.ReaderLaws.{each_more, each_stops}
use Rattle.task_file.specs.Slots.{entry_number}
use Rattle.task_file.proofs.slots.numbers_of.Goals as goal

abbrev text_of : Bor (List ℕ) → List ℕ
text_of entry = entry.now

pub returns-in_err-number_of-clause-numbers : goal.returns-in_err-number_of-clause-numbers
returns-in_err-number_of-clause-numbers c =
    let p = err_from_is_err_and c.from_residual.result c.from_residual.ensures.1 in
    rw (p.1, p.2) (each_stops text_of (entry_number c.args.names.now c.args.i c.args.at) c.args.entries.now c.loop-j.numbers c.loop-j.j _ _ c.in_err-number_of.field-0.0 _ (omega arith) c.loop-j.invariant.left c.in_err-number_of.ensures)

pub loop-j-preserved : goal.loop-j-preserved
loop-j-preserved c =
    rw c.in_ok-push.ensures.ok (record {
      left = each_more text_of (entry_number c.args.names.now c.args.i c.args.at) c.args.entries.now c.loop-j.numbers c.loop-j.j _ c.in_ok-number_of.field-0 _ (omega arith) c.loop-j.invariant.left c.in_ok-number_of.ensures;
      count = length_push c.loop-j.numbers c.in_ok-number_of.field-0 ∙ ap (λ n. n + 1) c.loop-j.invariant.count;
    })
