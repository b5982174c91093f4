use Rattle.std.proofs.Common.{◌≡◌, ◌+◌, ℕ, ℤ, List, Option, None, take, length, get_or, sym, ap, ◌∙◌, arith}
use Rattle.std.proofs.lemmas.List.{take_more}
use Rattle.std.proofs.Math.Seq.{take-length}
use Rattle.rcp_base.specs.Median.{values_named}
use Rattle.majority_vote.specs.Middle.{with_place}
use Rattle.majority_vote.proofs.MiddleLemmas.{least_half, least_half_last, median_is_least_half}
use Rattle.majority_vote.proofs.middle.median.Goals as goal

pub loop-vote-preserved : goal.loop-vote-preserved
loop-vote-preserved c =
    let places = c.args.votes.now in
    let i = c.loop-vote.vote-index in
    let values = values_named places in
    c.with_place-least.ensures
    ∙ ap (with_place values (get_or places i None)) c.loop-vote.invariant
    ∙ sym (least_half_last values (take i places) (get_or places i None))
    ∙ ap (least_half values) (sym (take_more places i None c.loop-vote-test.true))

pub returns : goal.returns
returns c =
    let places = c.args.votes.now in
    let all : c.loop-vote.vote-index ≡ length places = omega (arith, c.loop-vote-test.false, c.loop-vote.auto.vote-index-end) in
    c.loop-vote.invariant
    ∙ ap (λ n. least_half (values_named places) (take n places)) all
    ∙ ap (least_half (values_named places)) (take-length places)
    ∙ sym (median_is_least_half places)
