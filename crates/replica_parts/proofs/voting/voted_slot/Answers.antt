use Rattle.rcp_base.proofs.MajorityLaws.{majority_within}
use Rattle.replica_parts.proofs.BallotLemmas.{voted_none, voted_some}
use Rattle.replica_parts.specs.inner.Slots.{IsSlotNumber}
use Rattle.std.proofs.Common.{SFits, ap, nat_abs, rules, sym, w64, ◌∙◌}
use Rattle.std.proofs.lemmas.Int.{ints, to_z-of_z}
use Rattle.std.specs.Ordering.{int_eq}
use Rattle.replica_parts.proofs.voting.voted_slot.Goals as goal

pub overflow_cast-result : goal.overflow_cast-result
overflow_cast-result c =
    let small : IsSlotNumber c.in-Some.slot = majority_within IsSlotNumber int_eq c.args.places.now c.in-Some.slot c.requires.small (sym c.majority.ensures ∙ c.in-Some.is) in
    search (rules, ints)

pub returns-in-Some : goal.returns-in-Some
returns-in-Some c = λ slots e.
    let f : SFits w64 c.in-Some.slot = search rules in
    ap nat_abs (to_z-of_z w64 c.in-Some.slot f) ∙ voted_some _ slots c.args.own c.in-Some.slot e (sym c.majority.ensures ∙ c.in-Some.is)

pub returns-in-None : goal.returns-in-None
returns-in-None c = λ slots e. voted_none _ slots c.args.own e (sym c.majority.ensures ∙ c.in-None.is)
