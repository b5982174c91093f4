use Rattle.std.proofs.Common.{ℕ, ◌+◌, nat_eq, ap, ◌∙◌, arith}
use Rattle.std.proofs.lemmas.List.{get_or_default}
use Rattle.fault_journal.proofs.SeenLemmas.{repeats_by_stamp}
use Rattle.fault_journal.proofs.seen.Seen.has.Goals as goal

pub returns : goal.returns
returns c = λ before knows falls.
    let read = get_or_default c.args.self.now.stamps.items c.key_place.result c.index.result.now 0 (omega arith) in
    ap (λ (stamp : ℕ). nat_eq stamp (c.args.row.now.frame + 1))
    (c.index.ensures ∙ (read ∙ rw c.key_place.ensures.place (knows.stamps _ (omega arith))))
    ∙ repeats_by_stamp c.args.row.now before c.requires knows.places falls
