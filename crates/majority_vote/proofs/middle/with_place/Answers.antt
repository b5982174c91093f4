use Rattle.std.proofs.Common.{◌≡◌, ℤ, Some, sym, ap, ◌∙◌, rules, SFits, to_z, of_z, w64}
use Rattle.std.proofs.lemmas.Int.{to_z-of_z}
use Rattle.rcp_base.specs.Median.{values_named}
use Rattle.majority_vote.specs.Middle as spec
use Rattle.majority_vote.proofs.middle.with_place.Goals as goal

pub returns-in-Some : goal.returns-in-Some
returns-in-Some c =
    let fits : SFits w64 c.in-Some.value = search rules in
    let own : to_z w64 (of_z w64 c.in-Some.value) ≡ c.in-Some.value = to_z-of_z w64 c.in-Some.value fits in
    c.with_value.ensures
    ∙ ap (λ (x : ℤ). spec.with_value (values_named c.args.votes.now) x c.args.least) own
    ∙ ap (λ place. spec.with_place (values_named c.args.votes.now) place c.args.least) (sym c.in-Some.is)
