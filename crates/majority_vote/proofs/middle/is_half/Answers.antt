use Rattle.std.proofs.Common.{◌≡◌, ◌∙◌, ℤ, ap, count_by, w64}
use Rattle.std.proofs.lemmas.Int.{to_z-of_z}
use Rattle.majority_vote.specs.Middle as spec
use Rattle.majority_vote.proofs.MiddleLemmas.{count_named, count_at_most, half_test}
use Rattle.majority_vote.proofs.middle.is_half.Goals as goal

pub returns : goal.returns
returns c =
    let places = c.args.votes.now in
    half_test _ _ _ _ (c.count_named-named.ensures ∙ count_named places)
    (c.count_at_most.ensures
    ∙ ap (λ (x : ℤ). count_by (spec.names_at_most x) places) (to_z-of_z w64 c.args.value c.ranges.value)
    ∙ count_at_most c.args.value places)
